use Rattle.std.proofs.Common.{rules}
use Rattle.std.specs.Option.{option_map}
use Rattle.lease_wire_v2.specs.Views.{granted_durable}
use Rattle.client_versions.proofs.Tables.{guids_kept}
use Rattle.client_versions.proofs.guids.Guids.answered.Goals as goal

pub returns-clause-answered : goal.returns-clause-answered
returns-clause-answered c = guids_kept c.args.self.now (record { by_number = c.insert.new.self }) c.args.file_id.0 c.args.guid
    (option_map granted_durable c.args.durable) (search rules) c.in_ok-insert.ensures.updates
