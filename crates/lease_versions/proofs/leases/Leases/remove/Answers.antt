use Rattle.lease_laws.proofs.Words.{None}
use Rattle.lease_versions.proofs.Tables.{leases_put}
use Rattle.lease_versions.proofs.leases.Leases.remove.Goals as goal

pub returns : goal.returns
returns c = leases_put c.args.self.now (record { by_name = c.remove.new.self }) c.args.name None c.remove.ensures.updates
