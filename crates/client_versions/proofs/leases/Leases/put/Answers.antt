use Rattle.std.proofs.Common.{Some}
use Rattle.client_versions.proofs.Tables.{leases_put}
use Rattle.client_versions.proofs.leases.Leases.put.Goals as goal

pub returns-clause-put : goal.returns-clause-put
returns-clause-put c = leases_put c.args.self.now (record { by_key = c.insert.new.self }) c.args.key (Some c.args.known)
    c.in_ok-insert.ensures.updates
