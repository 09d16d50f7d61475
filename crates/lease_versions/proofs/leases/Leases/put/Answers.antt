use Rattle.lease_laws.proofs.Words.{Some}
use Rattle.lease_versions.proofs.Tables.{leases_put}
use Rattle.lease_versions.proofs.leases.Leases.put.Goals as goal

pub returns-clause-put : goal.returns-clause-put
returns-clause-put c = leases_put c.args.self.now (record { by_name = c.insert.new.self }) c.args.name (Some c.args.lease)
    c.in_ok-insert.ensures.updates
