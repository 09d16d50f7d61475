use Rattle.std.proofs.Common.{◌++◌, ◌∷◌, ◌∙◌, [], ap, append-nil, sym, subst}
use Rattle.std.proofs.lemmas.List.{append_assoc, drop_all, drop_more}
use Rattle.capture_walk.specs.Events.{KnowsLatest}
use Rattle.capture_walk.proofs.latest.Latest.take.Goals as goal

pub loop-event-preserved : goal.loop-event-preserved
loop-event-preserved c = λ before added knows is. let one = c.loop-event.invariant before added knows is in (
  one.0 ++ _ ∷ [],
  c.in_ok-note.ensures one.0 one.1,
  append_assoc one.0 (_ ∷ []) _
      ∙ ap (λ rest. one.0 ++ rest)
      (sym (drop_more c.from-event-items.result.now c.loop-event.event-index _ c.loop-event-test.true))
      ∙ one.2,
)

pub returns : goal.returns
returns c = λ before added knows is. let one = c.loop-event.invariant before added knows is in
    subst (λ all. KnowsLatest all c.loop-event.self) (sym (append-nil one.0)
    ∙ ap (λ rest. one.0 ++ rest) (sym (drop_all c.loop-event.event-index c.from-event-items.result.now c.loop-event-test.false))
    ∙ one.2) one.1
