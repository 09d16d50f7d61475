use Rattle.lease_manager.proofs.opens.Restarting.{restored_is_kept}
use Rattle.lease_manager.proofs.restart_laws.what_is_restored_is_kept.Goals as goal

pub returns : goal.returns
returns c = restored_is_kept
