use Rattle.lease_laws.proofs.messages.ClientBytes.{requests_have_bytes}
use Rattle.lease_laws.proofs.messages.ServerBytes.{replies_have_bytes}
use Rattle.lease_laws.proofs.from_bytes.machines_write_bytes.Goals as goal

pub returns-clause-replies : goal.returns-clause-replies
returns-clause-replies c = replies_have_bytes

pub returns-clause-requests : goal.returns-clause-requests
returns-clause-requests c = requests_have_bytes
