use Rattle.lease_laws.proofs.Words.{◌∙◌, sym, waits_behind}
use Rattle.manager_model.specs.Handling.{Tagged}
use Rattle.manager_model.proofs.bytes.Steps.{any_map}
use Rattle.lease_manager.proofs.values.request.Held.is_behind.Goals as goal

pub returns : goal.returns
returns c = c.waits_behind_some.ensures
    ∙ sym (any_map (waits_behind c.args.rules c.args.self.now.held) (λ (one : Tagged). one.held) c.args.held.now)
