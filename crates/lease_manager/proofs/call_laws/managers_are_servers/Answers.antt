use Rattle.lease_manager.proofs.follows.Calls as follows
use Rattle.lease_manager.proofs.call_laws.managers_are_servers.Goals as goal

pub returns : goal.returns
returns c = follows.managers_are_servers
