use Rattle.std.proofs.Common.{◌≡◌, drop, Some}
use Rattle.capture_walk.specs.Opens.{file_under}
use Rattle.capture_walk.proofs.opens.file_under.Given as goal

-- what is left gives the whole
abbrev pub invariant-loop-one : goal.invariant-loop-one
invariant-loop-one l =
    file_under l.server (Some l.client) (Some l.key) (drop l.one-index l.opens)
    ≡ file_under l.server (Some l.client) (Some l.key) l.opens
