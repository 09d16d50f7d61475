use Rattle.lease_laws.proofs.Words.{connected_again, true}
use Rattle.lease_manager.specs.Filed.{has_id}
use Rattle.lease_manager.specs.Summaries.{lease_in}
use Rattle.lease_manager.proofs.waits.Awaiting.{again_settled}
use Rattle.lease_manager.proofs.waits.StillWaiting.{none_counted}
use Rattle.lease_manager.proofs.sums.Mapping.{connection_kept}
use Rattle.lease_manager.proofs.opens.Tabling.{kept_mapped, same_id_where}
use Rattle.lease_manager.proofs.tables.Tables.connect_again.Goals as goal

pub invariant_of-self-2 : goal.invariant_of-self-2
invariant_of-self-2 c = (
  rw c.in_ok-connect_again.ensures.changed
      (kept_mapped c.self.inside.opens (connected_again c.args.fid.0) c.self.inside.summaries c.self.inside.last_id
      c.self.invariant.0 (connection_kept (has_id c.args.fid.0) true) (same_id_where (has_id c.args.fid.0) true)),
  λ file. none_counted _ _ _ _ (c.clear.ensures file),
  rw c.in_ok-connect_again.ensures.changed (again_settled c.self.inside.settled c.args.fid.0 c.self.inside.opens
      (lease_in c.self.inside.summaries) c.self.invariant.2),
)

pub invariant_of-self : goal.invariant_of-self
invariant_of-self c = rw c.in_err-connect_again.ensures.refused c.self.invariant
