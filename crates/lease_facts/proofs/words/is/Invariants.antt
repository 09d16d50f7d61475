use Rattle.std.proofs.Common.{◌≡◌, drop}
use Rattle.std.specs.Str.{bytes_eq}
use Rattle.lease_facts.proofs.words.is.Given as goal

-- what is left gives the whole
abbrev pub invariant-loop-place : goal.invariant-loop-place
invariant-loop-place l = bytes_eq (drop l.place l.field) (drop l.place l.word) ≡ bytes_eq l.field l.word
