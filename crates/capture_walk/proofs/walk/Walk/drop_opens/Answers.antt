use Rattle.std.proofs.Common.{rules, refl}
use Rattle.std.proofs.lemmas.Fn.{filter_same}
use Rattle.capture_walk.proofs.walk.Walk.drop_opens.Goals as goal

pub returns-then-may_end : goal.returns-then-may_end
returns-then-may_end c = record {
  clients = refl;
  sides = refl;
  trees = refl;
  creates = refl;
  renames = refl;
  files = refl;
  items = filter_same _ _ _ (λ x b f' k. search rules) _ _ c.retain.ensures.filtered;
  shown = refl;
  latest = refl;
}
