use Rattle.lease_manager.proofs.follows.Always.{is_fresh}
use Rattle.lease_manager.proofs.keeping.first_tables.Goals as goal

pub returns-clause-lawful : goal.returns-clause-lawful
returns-clause-lawful c = is_fresh _ _ _ c.new.ensures
