use Rattle.lease_laws.proofs.Words.{◌++◌, ◌≡◌, map}
use Rattle.lease_client.specs.Answers.{note_of}
use Rattle.lease_model.specs.world.World as model
use Rattle.lease_facts.specs.Facts.{fact_of}
use Rattle.lease_world.proofs.world.delivering.tell_notes.Given as goal

abbrev pub invariant-loop-note : goal.invariant-loop-note
invariant-loop-note l = map fact_of l.facts.items
    ≡ map fact_of l.fn.facts.items ++ map (model.fact_of l.client.0) (map note_of l.yielded)
