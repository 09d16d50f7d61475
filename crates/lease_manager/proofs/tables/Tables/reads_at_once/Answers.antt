use Rattle.lease_laws.proofs.Words.{◌∙◌}
use Rattle.lease_manager.specs.Table.{server_of}
use Rattle.lease_manager.proofs.follows.Questions.{reads_by}
use Rattle.lease_manager.proofs.tables.Tables.reads_at_once.Goals as goal

pub returns-in-Some : goal.returns-in-Some
returns-in-Some c = c.is_read_due.ensures
    ∙ reads_by (server_of c.args.self.now) c.args.client.0 c.args.fid.0 c.in-Some.one.now c.in-Some.ensures
