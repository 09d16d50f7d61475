use Rattle.lease_manager.proofs.opens.AllKept.{all_is_kept}
use Rattle.lease_manager.proofs.restart_laws.all_is_kept_once_clients_are_gone.Goals as goal

pub returns : goal.returns
returns c = all_is_kept
