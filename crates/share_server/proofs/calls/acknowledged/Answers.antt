use Rattle.lease_laws.proofs.Words.{sym}
use Rattle.share_server.proofs.calls.acknowledged.Goals as goal

pub returns-in-Ok : goal.returns-in-Ok
returns-in-Ok c = sym (c.bytes_laws.ensures.acknowledgment c.args.bytes.now _ c.in-Ok.ensures.value)
