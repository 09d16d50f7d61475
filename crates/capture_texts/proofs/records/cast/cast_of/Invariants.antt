use Rattle.std.proofs.Common.{drop}
use Rattle.capture_texts.proofs.Casting.{Turned}
use Rattle.capture_texts.proofs.records.cast.cast_of.Given as goal

abbrev pub invariant-loop-place : goal.invariant-loop-place
invariant-loop-place l = Turned l.files (drop l.place l.files) l.cast
