use Rattle.lease_laws.proofs.Words.{take}
use Rattle.lease_world.specs.world.First.{AreNew}
use Rattle.lease_world.proofs.world.first.seats.Given as goal

abbrev pub invariant-loop-place : goal.invariant-loop-place
invariant-loop-place l = AreNew l.files (take l.place l.guids) l.seats.items
