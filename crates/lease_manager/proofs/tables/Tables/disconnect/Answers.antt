use Rattle.lease_laws.proofs.Words.{false}
use Rattle.lease_manager.specs.Filed.{disconnected_at, has_id}
use Rattle.lease_manager.specs.Summaries.{lease_in}
use Rattle.lease_manager.proofs.opens.Tabling.{kept_mapped, same_id_where, unbroken_settled}
use Rattle.lease_manager.proofs.sums.Mapping.{connection_kept}
use Rattle.lease_manager.proofs.waits.Awaiting.{empty_settled}
use Rattle.lease_manager.proofs.waits.Counted.{kept_empty}
use Rattle.lease_manager.proofs.waits.StillWaiting.{none_counted}
use Rattle.lease_manager.proofs.tables.Tables.disconnect.Goals as goal

pub invariant_of-self : goal.invariant_of-self
invariant_of-self c = (
  rw c.in-Ok.ensures
      (kept_mapped c.self.inside.opens (disconnected_at c.args.fid.0) c.self.inside.summaries c.self.inside.last_id
      c.self.invariant.0 (connection_kept (has_id c.args.fid.0) false) (same_id_where (has_id c.args.fid.0) false)),
  λ file. none_counted _ _ _ _ (c.clear.ensures file),
  unbroken_settled c.self.inside.settled c.disconnect.new.self c.self.inside.summaries
      (rw (← c.self.view_is) at c.requires.unbroken),
)

pub invariant_of-self-in-Err : goal.invariant_of-self-in-Err
invariant_of-self-in-Err c = (
  kept_empty _ _ _ c.forget_opens.ensures.opens c.forget_opens.ensures.agrees,
  λ file. none_counted _ _ _ _ (c.clear.ensures file),
  empty_settled c.self.inside.settled _ (lease_in c.forget_opens.new.summaries) c.forget_opens.ensures.opens,
)
