use Rattle.std.proofs.Common.{arith, length, ◌*◌, ◌+◌, ◌≤◌}
use Rattle.lease_wire.specs.Contexts.{items_left}
use Rattle.lease_wire.proofs.ItemLaws.{length-items_behind}
use Rattle.lease_wire.proofs.chain.iterator.ContextsIterator.size_hint.Goals as goal

pub returns-in-Some-clause-upper : goal.returns-in-Some-clause-upper
returns-in-Some-clause-upper c =
    let few : 16 * length (items_left c.args.self.now) ≤ length c.in-Some.bytes.now + 16 =
    rw (c.in-Some.is) (length-items_behind c.args.self.now.place c.in-Some.bytes.now) in
    (tt, omega arith)
