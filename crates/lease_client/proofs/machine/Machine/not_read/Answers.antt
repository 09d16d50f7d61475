use Rattle.lease_laws.proofs.Words.{sym}
use Rattle.lease_client.specs.Known.{client_of}
use Rattle.lease_laws.proofs.client.cases.Replies.{fails_by}
use Rattle.lease_client.proofs.machine.Machine.not_read.Goals as goal

pub returns-in-Some : goal.returns-in-Some
returns-in-Some c =
    rw (fails_by (client_of c.args.self.now) c.in-Some.file.0 c.args.file_id.0 c.args.status (sym c.in-Some.ensures.found))
    c.tell.ensures
