use Rattle.lease_laws.proofs.Words.{refl}
use Rattle.lease_manager.specs.contracts.tables.Tables.{the_view}
use Rattle.lease_manager.proofs.waits.Counted.{wait_still}
use Rattle.lease_manager.proofs.waits.StillWaiting.{none_still}
use Rattle.lease_manager.proofs.tables.Tables.still.Goals as goal

pub returns : goal.returns
returns c = rw (c.count.ensures, ← c.self.view_is)
    (wait_still (the_view c.self.inside) c.self.inside.summaries c.args.file.0 _ c.self.invariant.0 refl
    (c.self.invariant.1 c.args.file.0))

pub returns-then-held-eq0 : goal.returns-then-held-eq0
returns-then-held-eq0 c = none_still _ c.args.file.0
