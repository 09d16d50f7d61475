use Rattle.std.proofs.Common.{None}
use Rattle.client_versions.proofs.Tables.{guids_put}
use Rattle.client_versions.proofs.guids.Guids.remove.Goals as goal

pub returns : goal.returns
returns c = guids_put c.args.self.now (record { by_number = c.remove.new.self }) c.args.file_id.0 None
    c.remove.ensures.updates
