use Rattle.lease_laws.proofs.Words.{◌<◌, ◌∙◌, ℕ, ap, get_or, subst}
use Rattle.lease_world.specs.world.Seats.{Seat}
use Rattle.lease_world.proofs.worlds.Passages.{sent_one_more}
use Rattle.lease_world.proofs.world.seat.Seat.push_sent.Goals as goal

pub loop-place-preserved : goal.loop-place-preserved
loop-place-preserved c = sent_one_more c.args.client c.args.facts c.args.waiting c.loop-place.place c.args.self.now.requests
    c.in_ok-copy_request.field-0 c.index.result.now c.args.passages.now.items c.loop-place.passages.items c.push.new.self.items
    c.loop-place.auto.place (subst (λ (n : ℕ). c.loop-place.place < n) c.count_requests-place-end.ensures c.loop-place-test.true)
    (c.in_ok-copy_request.ensures ∙ (c.index.ensures
    ∙ ap (λ (s : Seat). get_or s.requests c.loop-place.place c.index.result.now) c.self.view_is)) c.loop-place.invariant
    c.in_ok-push.ensures.items
