use Rattle.lease_wire.proofs.ItemLaws.{items_are}
use Rattle.lease_wire.proofs.chain.contexts_laws.Goals as goal

pub returns : goal.returns
returns c = items_are
