use Rattle.lease_laws.proofs.Words.{◌≡◌, map, starts_from, take}
use Rattle.lease_facts.specs.Facts.{fact_of}
use Rattle.lease_world.proofs.world.first.starts.Given as goal

abbrev pub invariant-loop-place : goal.invariant-loop-place
invariant-loop-place l = map fact_of l.facts.items ≡ take l.place (starts_from 1 l.files)
