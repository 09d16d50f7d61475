use Rattle.lease_manager.proofs.opens.Restarting.{kept_may_be_restored}
use Rattle.lease_manager.proofs.restart_laws.what_is_kept_may_be_restored.Goals as goal

pub returns : goal.returns
returns c = kept_may_be_restored
