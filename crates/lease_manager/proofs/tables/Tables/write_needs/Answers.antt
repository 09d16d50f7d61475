use Rattle.lease_laws.proofs.Words.{◌∙◌, ap, sym}
use Rattle.lease_manager.specs.Findings.{Look}
use Rattle.lease_manager.specs.Table.{server_of}
use Rattle.lease_manager.proofs.sums.Hindering.{unhindered, hindered}
use Rattle.lease_manager.proofs.tables.Tables.write_needs.Goals as goal

pub returns-then-not-is_hindered-clause-look : goal.returns-then-not-is_hindered-clause-look
returns-then-not-is_hindered-clause-look c = unhindered (server_of c.args.self.now) c.args.own c.args.file.0
    (sym c.is_hindered.ensures ∙ c.if-not-is_hindered.true)

pub returns-clause-look : goal.returns-clause-look
returns-clause-look c = ap Look.Needs c.in_ok-wants.ensures ∙ hindered (server_of c.args.self.now) c.args.own c.args.file.0
    (sym c.is_hindered.ensures ∙ c.if-not-is_hindered.false)
