use Rattle.lease_laws.proofs.Words.{◌++◌, ◌≡◌, map, settled_as, take}
use Rattle.lease_client.specs.Answers.{note_of, settlement_of}
use Rattle.lease_client.proofs.writes.push_each_settled.Given as goal

abbrev pub invariant-loop-write : goal.invariant-loop-write
invariant-loop-write l = map note_of l.notes.items
    ≡ map note_of l.fn.notes.items ++ settled_as (settlement_of l.outcome) (take l.write-index l.writes)
