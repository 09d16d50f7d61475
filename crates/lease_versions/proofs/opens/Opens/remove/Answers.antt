use Rattle.lease_laws.proofs.Words.{None}
use Rattle.lease_versions.proofs.Tables.{opens_put}
use Rattle.lease_versions.proofs.opens.Opens.remove.Goals as goal

pub returns : goal.returns
returns c = opens_put c.args.self.now (record { by_number = c.remove.new.self }) c.args.file_id.0 None
    c.remove.ensures.updates
