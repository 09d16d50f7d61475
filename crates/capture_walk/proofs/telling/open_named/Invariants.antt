use Rattle.std.proofs.Common.{◌≡◌, drop}
use Rattle.capture_walk.specs.Events.{open_named}
use Rattle.capture_walk.proofs.telling.open_named.Given as goal

-- what is left gives the whole
abbrev pub invariant-loop-one : goal.invariant-loop-one
invariant-loop-one l =
    open_named l.server l.name.session l.name.file_id (drop l.one-index l.opens)
    ≡ open_named l.server l.name.session l.name.file_id l.opens
