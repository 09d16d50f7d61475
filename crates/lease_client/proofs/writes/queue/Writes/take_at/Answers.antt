use Rattle.lease_laws.proofs.Words.{◌<◌, length, subst, sym}
use Rattle.lease_client.specs.Writes.{IsShownIfAny}
use Rattle.lease_client.proofs.Queued.{kept_without}
use Rattle.lease_client.proofs.writes.queue.Writes.take_at.Goals as goal

pub invariant_of-self-2 : goal.invariant_of-self-2
invariant_of-self-2 c =
    let items = c.self.inside.items.items in
    let within : c.args.place < length items = rw c.self.view_is c.requires in
    let shown = subst (λ s. IsShownIfAny items s) (sym c.take-shown.ensures.value) c.self.invariant.shown in
    rw c.in_ok-write.ensures.items (kept_without items c.args.place c.self.inside.is_rising c.self.inside.is_buffered
    c.self.inside.shown c.shown_without.result within c.self.invariant
    (c.shown_without.ensures items within (sym c.in_ok-write.ensures.value) shown))
