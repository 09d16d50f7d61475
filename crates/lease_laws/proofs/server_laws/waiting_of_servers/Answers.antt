use Rattle.lease_laws.proofs.server.WaitCalls.{first-waits-well, called-waits-well, writers-dont-wait}
use Rattle.lease_laws.proofs.server.Idly.{nothing_waits}
use Rattle.lease_laws.proofs.server_laws.waiting_of_servers.Goals as goal

pub returns-clause-first : goal.returns-clause-first
returns-clause-first c = first-waits-well

pub returns-clause-kept : goal.returns-clause-kept
returns-clause-kept c = called-waits-well

pub returns-clause-writers : goal.returns-clause-writers
returns-clause-writers c = writers-dont-wait

pub returns-clause-idly : goal.returns-clause-idly
returns-clause-idly c = nothing_waits
