use Rattle.std.proofs.Common.{subst, sym, List}
use Rattle.lease_wire.specs.Reading.{Item}
use Rattle.lease_wire.specs.Faults.{AreItemsOf}
use Rattle.lease_wire.proofs.ItemLaws.{items_are}
use Rattle.lease_wire.proofs.chain.contexts.Goals as goal

pub returns-clause-items : goal.returns-clause-items
returns-clause-items c = subst (λ (items : List Item). AreItemsOf c.args.bytes.now items) (sym c.from_start.ensures)
    (items_are c.args.bytes.now)
