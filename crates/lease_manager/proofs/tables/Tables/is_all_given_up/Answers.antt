use Rattle.lease_laws.proofs.Words.{◌∙◌, sym}
use Rattle.lease_manager.specs.Table.{server_of}
use Rattle.lease_manager.proofs.sums.GivenUp.{hindered_still, unhindered_now}
use Rattle.lease_manager.proofs.tables.Tables.is_all_given_up.Goals as goal

pub returns-then-is_hindered : goal.returns-then-is_hindered
returns-then-is_hindered c = hindered_still (server_of c.args.self.now) c.args.own c.args.file.0
    (sym c.is_hindered.ensures ∙ c.if-is_hindered.true)

pub returns : goal.returns
returns c = unhindered_now (server_of c.args.self.now) c.args.own c.args.file.0 c.is_read_only.result
    (sym c.is_hindered.ensures ∙ c.if-is_hindered.false) c.is_read_only.ensures
