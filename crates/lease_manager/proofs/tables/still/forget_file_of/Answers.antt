use Rattle.lease_laws.proofs.Words.{refl}
use Rattle.lease_manager.specs.Filed.{has_id}
use Rattle.lease_manager.specs.contracts.values.open.OpenEntry.{the_view}
use Rattle.lease_manager.proofs.waits.Counted.{forgotten_id, forgotten_none, none_found}
use Rattle.lease_manager.proofs.tables.still.forget_file_of.Goals as goal

pub returns-in-Some : goal.returns-in-Some
returns-in-Some c = forgotten_id c.args.id.0 c.args.opens.now (the_view c.one.inside) c.args.waiting.now c.forget.new.self
    c.find.ensures.in_order (rw (← c.one.view_is) at c.in-Some.ensures.found) c.forget.ensures

pub returns-in-None : goal.returns-in-None
returns-in-None c = forgotten_none (has_id c.args.id.0) c.args.opens.now c.args.waiting.now c.args.waiting.now refl
    (none_found (has_id c.args.id.0) c.args.opens.now c.in-None.ensures.found)
