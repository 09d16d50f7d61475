use Rattle.lease_laws.proofs.messages.ReadBack.{requests_back, replies_back}
use Rattle.lease_laws.proofs.from_bytes.written_is_read.Goals as goal

pub returns-clause-requests : goal.returns-clause-requests
returns-clause-requests c = requests_back

pub returns-clause-replies : goal.returns-clause-replies
returns-clause-replies c = replies_back
