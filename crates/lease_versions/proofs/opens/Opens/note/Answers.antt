use Rattle.lease_laws.proofs.Words.{rules}
use Rattle.lease_versions.proofs.Tables.{noted_new}
use Rattle.lease_versions.proofs.opens.Opens.note.Goals as goal

pub returns-clause-noted : goal.returns-clause-noted
returns-clause-noted c = noted_new c.args.self.now (record { by_number = c.insert.new.self }) c.args.file_id.0 c.args.one
    (search rules) c.in_ok-insert.ensures.updates
