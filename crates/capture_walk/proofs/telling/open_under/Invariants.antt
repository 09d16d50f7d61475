use Rattle.std.proofs.Common.{◌≡◌, drop, Some}
use Rattle.capture_walk.specs.Events.{open_under}
use Rattle.capture_walk.proofs.telling.open_under.Given as goal

-- what is left gives the whole
abbrev pub invariant-loop-one : goal.invariant-loop-one
invariant-loop-one l =
    open_under (Some l.client) l.key.0 (drop l.one-index l.opens) ≡ open_under (Some l.client) l.key.0 l.opens
