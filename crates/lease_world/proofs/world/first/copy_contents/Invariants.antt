use Rattle.lease_laws.proofs.Words.{◌≡◌, take}
use Rattle.lease_world.proofs.world.first.copy_contents.Given as goal

abbrev pub invariant-loop-place : goal.invariant-loop-place
invariant-loop-place l = l.copies.items ≡ take l.place l.files
