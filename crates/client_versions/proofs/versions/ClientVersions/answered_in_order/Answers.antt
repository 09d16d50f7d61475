use Rattle.std.proofs.Common.{◌∙◌}
use Rattle.std.specs.Option.{option_map}
use Rattle.lease_wire_v2.specs.Views.{granted_durable}
use Rattle.client_versions.specs.Kept.{guids_of}
use Rattle.client_versions.proofs.Tables.{same_layer, taken_back}
use Rattle.client_versions.proofs.versions.ClientVersions.answered_in_order.Goals as goal

pub returns-in-Err-clause-refused : goal.returns-in-Err-clause-refused
returns-in-Err-clause-refused c = same_layer _ _ _ _ c.in-Err.ensures.refused
    (c.set_back.ensures ∙ rw (c.guid-before.ensures, c.in_ok-answered.ensures.answered)
    (taken_back (guids_of c.args.self.now.guids) c.args.file_id.0 c.args.guid.0
    (option_map granted_durable c.args.answer.now.durable)))
