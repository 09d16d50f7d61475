use Rattle.lease_laws.proofs.Words.{◌≡◌, None, Some, notice_in, sym}
use Rattle.lease_client.specs.Heard.{notice_read}
use Rattle.lease_client.specs.Known.{client_of}
use Rattle.lease_laws.proofs.client.cases.Replies.{breaks_by, breaks_none, unread_break}
use Rattle.lease_client.proofs.Replied.{no_notice}
use Rattle.lease_client.proofs.machine.Machine.broken.Goals as goal

pub returns-in-Some : goal.returns-in-Some
returns-in-Some c =
    let found : notice_in c.args.bytes.now ≡ Some (notice_read c.in-Ok.notice) =
    c.bytes_laws.ensures.notification _ _ c.in-Ok.ensures.value in
    rw (
      found,
      breaks_by (client_of c.args.self.now) c.in-Some.file.0 (notice_read c.in-Ok.notice) (sym c.in-Some.ensures.found),
    ) c.tell.ensures

pub returns-in-None : goal.returns-in-None
returns-in-None c =
    let found : notice_in c.args.bytes.now ≡ Some (notice_read c.in-Ok.notice) =
    c.bytes_laws.ensures.notification _ _ c.in-Ok.ensures.value in
    rw (found, breaks_none (client_of c.args.self.now) (notice_read c.in-Ok.notice) (sym c.in-None.ensures.found)) c.quiet.ensures

pub returns-in-Err : goal.returns-in-Err
returns-in-Err c =
    let found : notice_in c.args.bytes.now ≡ None = no_notice c.args.bytes.now _ c.in-Err.ensures.refused in
    rw (found, unread_break (client_of c.args.self.now)) c.quiet-in-Err.ensures
