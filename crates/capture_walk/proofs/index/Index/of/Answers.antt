use Rattle.std.proofs.Common.{◌+◌, drop, subst}
use Rattle.std.proofs.lemmas.List.{drop_all, drop_more}
use Rattle.capture_walk.specs.Index.{Leads}
use Rattle.capture_walk.proofs.Indexed.{whole_index}
use Rattle.capture_walk.proofs.index.Index.of.Goals as goal

pub loop-place-init : goal.loop-place-init
loop-place-init c = c.new-index.ensures c.args.events.now

pub loop-place-preserved : goal.loop-place-preserved
loop-place-preserved c =
    let at = drop_more c.args.events.now c.loop-place.place _ c.loop-place-test.true in
    c.in_ok-note.ensures (drop (c.loop-place.place + 1) c.args.events.now) c.args.events.now at
    (subst (λ left. Leads left c.args.events.now c.loop-place.index) at c.loop-place.invariant)

pub returns : goal.returns
returns c = whole_index c.args.events.now c.loop-place.index
    (subst (λ left. Leads left c.args.events.now c.loop-place.index)
    (drop_all c.loop-place.place c.args.events.now c.loop-place-test.false) c.loop-place.invariant)
