use Rattle.lease_laws.proofs.Words.{true}
use Rattle.lease_manager.specs.Summaries.{lease_in}
use Rattle.lease_manager.proofs.waits.Awaiting.{empty_settled}
use Rattle.lease_manager.proofs.waits.Counted.{kept_empty}
use Rattle.lease_manager.proofs.waits.Queuing.{new_is_new}
use Rattle.lease_manager.proofs.waits.StillWaiting.{none_counted}
use Rattle.lease_manager.proofs.tables.Tables.new.Goals as goal

pub returns : goal.returns
returns c = rw (c.new.ensures.filed, c.new-2.ensures, c.new-3.ensures.leases, c.new-4.ensures.empty, c.new-5.ensures.empty)
    (new_is_new c.args.rules c.args.files.0)

pub invariant_of-result : goal.invariant_of-result
invariant_of-result c = (
  kept_empty c.new-2.result c.new-3.result 0 c.new-2.ensures c.new-3.ensures.agrees,
  λ file. none_counted _ _ _ _ (c.new-6.ensures file),
  empty_settled true c.new-2.result (lease_in c.new-3.result) c.new-2.ensures,
)
