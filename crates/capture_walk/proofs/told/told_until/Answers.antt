use Rattle.std.proofs.Common.{◌∙◌, ap, sym}
use Rattle.std.proofs.lemmas.List.{drop_all}
use Rattle.capture_walk.specs.Index.{from_places}
use Rattle.capture_walk.specs.Tails.{told_in}
use Rattle.capture_walk.proofs.Shown.{told_by_index}
use Rattle.capture_walk.proofs.told.told_until.Goals as goal

pub returns : goal.returns
returns c =
    sym (ap (λ rest. told_in c.args.lease c.args.until c.loop-place.found (from_places c.args.events.now rest))
    (drop_all c.loop-place.place-index _ c.loop-place-test.false))
    ∙ c.loop-place.invariant ∙ told_by_index c.args.lease c.args.until c.args.events.now c.args.index.now c.requires
