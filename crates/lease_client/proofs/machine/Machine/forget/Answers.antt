use Rattle.lease_client.proofs.NewClient.{closed_entries_are_new}
use Rattle.lease_client.proofs.machine.Machine.forget.Goals as goal

pub returns : goal.returns
returns c = rw c.clear.ensures.items (closed_entries_are_new c.args.guid 0)
