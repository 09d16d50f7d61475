use Rattle.lease_laws.proofs.server.Calls.{new_server-sound, called-sound}
use Rattle.lease_laws.proofs.server_laws.laws_of_servers.Goals as goal

pub returns-clause-first : goal.returns-clause-first
returns-clause-first c = new_server-sound

pub returns-clause-kept : goal.returns-clause-kept
returns-clause-kept c = called-sound
