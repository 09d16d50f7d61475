use Rattle.lease_laws.proofs.Words.{◌≡◌, drop}
use Rattle.lease_model.specs.world.Allowed.{are_apart}
use Rattle.lease_world.proofs.setup.are_apart.Given as goal

abbrev pub invariant-loop-place : goal.invariant-loop-place
invariant-loop-place l = are_apart l.guids ≡ are_apart (drop l.place l.guids)
