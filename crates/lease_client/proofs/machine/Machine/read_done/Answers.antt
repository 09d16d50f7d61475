use Rattle.lease_laws.proofs.Words.{◌≤◌, FILE_LIMIT, arith, length, sym}
use Rattle.std.proofs.lemmas.Bool.{le-leb}
use Rattle.lease_client.specs.Known.{client_of}
use Rattle.lease_laws.proofs.client.cases.Replies.{reads_by}
use Rattle.lease_client.proofs.machine.Machine.read_done.Goals as goal

pub returns-in-Some : goal.returns-in-Some
returns-in-Some c =
    let fits : length c.args.bytes ≤ FILE_LIMIT = omega arith in
    rw (reads_by (client_of c.args.self.now) c.in-Some.file.0 c.args.file_id.0 c.args.bytes
    (le-leb (length c.args.bytes) FILE_LIMIT fits) (sym c.in-Some.ensures.found)) c.tell.ensures
