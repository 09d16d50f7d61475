use Rattle.lease_laws.proofs.Words.{◌∙◌, sym}
use Rattle.lease_client.specs.Known.{client_of}
use Rattle.lease_laws.proofs.client.cases.Replies.{not_created_by}
use Rattle.lease_client.proofs.Replied.{not_created_nowhere}
use Rattle.lease_client.proofs.machine.Machine.not_created.Goals as goal

pub returns-then-not-knows : goal.returns-then-not-knows
returns-then-not-knows c =
    rw (not_created_nowhere c.args.self.now c.args.file.0 c.args.status (sym c.knows.ensures ∙ c.if-not-knows.true))
    c.quiet.ensures

pub returns : goal.returns
returns c = rw (not_created_by (client_of c.args.self.now) c.args.file.0 c.args.status) c.tell.ensures
