use Rattle.std.proofs.Common.{◌∙◌, ◌++◌, ◌∷◌, [], ap}
use Rattle.capture_walk.proofs.Granted.{placed_at}
use Rattle.capture_walk.proofs.index.add_place.Goals as goal

pub returns : goal.returns
returns c = placed_at c.args.places.now c.take_out.new.places c.insert.new.self c.args.lease _ c.args.place
    c.in_ok-found.ensures.others c.in_ok-insert.ensures.updates
    (c.in_ok-push.ensures.items ∙ ap (λ found. found ++ c.args.place ∷ []) c.in_ok-found.ensures.found)
