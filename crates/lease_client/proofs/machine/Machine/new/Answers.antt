use Rattle.lease_client.proofs.NewClient.{closed_entries_are_new}
use Rattle.lease_client.proofs.machine.Machine.new.Goals as goal

pub returns-clause-new : goal.returns-clause-new
returns-clause-new c = rw c.in_ok-closed_entries.ensures.closed (closed_entries_are_new _ _)
