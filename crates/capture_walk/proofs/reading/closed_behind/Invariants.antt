use Rattle.std.proofs.Common.{◌≡◌, drop}
use Rattle.capture_walk.specs.Reading.{closed_behind}
use Rattle.capture_walk.proofs.reading.closed_behind.Given as goal

-- what is left gives the whole
abbrev pub invariant-loop-message : goal.invariant-loop-message
invariant-loop-message l = closed_behind (drop l.message-index l.later) ≡ closed_behind l.later
