use Rattle.std.proofs.Common.{◌≡◌, drop, Some}
use Rattle.capture_walk.specs.Events.{lease_under}
use Rattle.capture_walk.proofs.telling.lease_under.Given as goal

-- what is left gives the whole
abbrev pub invariant-loop-one : goal.invariant-loop-one
invariant-loop-one l =
    lease_under (Some l.client) l.key.0 (drop l.one-index l.opens) ≡ lease_under (Some l.client) l.key.0 l.opens
