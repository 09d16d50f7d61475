use Rattle.lease_laws.proofs.Words.{◌∙◌, ◌≡◌, None, Some, answer_found, ap, sym}
use Rattle.lease_wire.specs.Gathering.{value_of}
use Rattle.lease_wire.specs.declared.create.Direction.{Direction}
use Rattle.lease_client.specs.Heard.{answer_read}
use Rattle.lease_client.specs.Known.{client_of}
use Rattle.lease_laws.proofs.client.cases.Replies.{created_by, unread_create}
use Rattle.lease_client.proofs.Replied.{created_nowhere}
use Rattle.lease_client.proofs.machine.Machine.created.Goals as goal

pub returns-then-not-knows : goal.returns-then-not-knows
returns-then-not-knows c = rw (created_nowhere c.args.self.now c.args.file.0 c.args.file_id.0
    (answer_found (value_of Direction.Reply c.args.contexts.now)) (sym c.knows.ensures ∙ c.if-not-knows.true)) c.quiet.ensures

pub returns-in-Ok : goal.returns-in-Ok
returns-in-Ok c =
    let read = rw c.as_slice.ensures at c.in-Ok.ensures.value in
    let found : answer_found (value_of Direction.Reply c.args.contexts.now) ≡ Some (answer_read c.in-Ok.answer) =
    sym (ap answer_found read) in
    rw (found, created_by (client_of c.args.self.now) c.args.file.0 c.args.file_id.0 (answer_read c.in-Ok.answer)) c.tell.ensures

pub returns-in-Err : goal.returns-in-Err
returns-in-Err c =
    let read = rw c.as_slice.ensures at c.in-Err.ensures.value in
    let found : answer_found (value_of Direction.Reply c.args.contexts.now) ≡ None = sym (ap answer_found read) in
    rw (found, unread_create (client_of c.args.self.now) c.args.file.0 c.args.file_id.0) c.quiet-in-Err.ensures
