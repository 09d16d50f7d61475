use Rattle.lease_laws.proofs.Words.{◌==◌, ◌∙◌, sym}
use Rattle.manager_model.proofs.bytes.Steps.{any_map}
use Rattle.lease_manager.specs.declared.values.number.Tag.{Tag}
use Rattle.waiting_changes.proofs.waiting.is_among.Goals as goal

pub returns : goal.returns
returns c = c.is_any.ensures ∙ sym (any_map (λ other. c.args.tag.0 == other) (λ (tag : Tag). tag.0) c.args.tags.now)
