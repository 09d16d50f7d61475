use Rattle.std.proofs.Common.{List, ◌++◌, ◌∷◌, [], ap, ◌∙◌}
use Rattle.capture_judge.specs.declared.ways.Way.{Way}
use Rattle.capture_judge.proofs.ways.Ways.new.Goals as goal

pub returns : goal.returns
returns c = record {
  way = c.in_ok-start.field-0;
  alone = c.in_ok-push.ensures.items ∙ ap (λ (ws : List Way). ws ++ c.in_ok-start.field-0 ∷ []) c.new-ways.ensures.items;
  start = c.in_ok-start.ensures;
}
