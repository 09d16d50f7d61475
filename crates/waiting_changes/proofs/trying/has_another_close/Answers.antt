use Rattle.lease_laws.proofs.Words.{◌∙◌, option_map, sym}
use Rattle.lease_manager.specs.Outs.{decision_of}
use Rattle.manager_model.proofs.bytes.Steps.{any_map}
use Rattle.waiting_changes.specs.Changes.{closes_another, request_of}
use Rattle.waiting_changes.proofs.trying.has_another_close.Goals as goal

pub returns : goal.returns
returns c = c.is_any_another_close.ensures
    ∙ sym (any_map (closes_another (option_map request_of c.args.request)) decision_of c.args.decisions.now)
