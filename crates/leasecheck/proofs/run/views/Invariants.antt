use Rattle.lease_laws.proofs.Words.{◌≡◌, map, string_bytes, take}
use Rattle.leasecheck.proofs.run.views.Given as goal

abbrev pub invariant-loop-word : goal.invariant-loop-word
invariant-loop-word l = map (λ word. word.now) l.views.items ≡ map string_bytes (take l.word-index l.words)
