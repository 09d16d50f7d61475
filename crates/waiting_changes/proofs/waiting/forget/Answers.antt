use Rattle.lease_laws.proofs.Words.{rules}
use Rattle.std.proofs.lemmas.Fn.{filter_same}
use Rattle.waiting_changes.proofs.waiting.forget.Goals as goal

pub returns : goal.returns
returns c = filter_same _ _ _ (λ x b f' k. search rules) _ _ c.retain.ensures.filtered
