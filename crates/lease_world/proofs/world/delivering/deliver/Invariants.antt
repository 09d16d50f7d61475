use Rattle.lease_laws.proofs.Words.{◌++◌, ◌≡◌, length, map}
use Rattle.lease_facts.specs.Facts.{fact_of}
use Rattle.lease_world.specs.world.Seats.{HasReplies, HasKept, fact_given, replies_among}
use Rattle.lease_world.proofs.world.delivering.deliver.Given as goal

abbrev pub invariant-loop-out : goal.invariant-loop-out
invariant-loop-out l = record {
  replies : HasReplies l.fn.seats.items l.seats.items l.yielded;
  count : length l.seats.items ≡ length l.fn.seats.items;
  facts : map fact_of l.facts.items ≡ map fact_of l.fn.facts.items ++ map fact_given l.yielded;
  kept : HasKept l.fn.messages l.messages (replies_among l.yielded);
}
