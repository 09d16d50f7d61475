use Rattle.lease_laws.proofs.Words.{◌∙◌, ClientCall, on_ok_weaker, refl, slice_set, subst, sym}
use Rattle.lease_world.specs.contracts.world.World.{the_view}
use Rattle.lease_world.specs.world.Seats.{IsPresent, StepsSeat}
use Rattle.lease_world.specs.world.Stands.{CodeWorld}
use Rattle.lease_world.specs.world.Worlds.{StepsIn}
use Rattle.lease_world.proofs.worlds.Called.{steps_in}
use Rattle.lease_world.proofs.worlds.Events.{notice_one, notice_nothing}
use Rattle.lease_world.proofs.worlds.Seats.{seat_changed, still_there}
use Rattle.lease_world.proofs.world.World.notice.Goals as goal

pub returns-then-not-has_link : goal.returns-then-not-has_link
returns-then-not-has_link c =
    notice_nothing c.args.self.now c.args.client.0 c.requires (sym c.has_link.ensures ∙ c.if-not-has_link.true)

pub returns : goal.returns
returns c =
    let linked : CodeWorld = the_view c.self.inside in
    let there : IsPresent c.args.client.0 linked.seats =
    subst (λ (w : CodeWorld). IsPresent c.args.client.0 w.seats) (sym c.self.view_is)
    (still_there c.args.self.now.seats c.set_link.new.self.seats c.args.client.0 c.set_link.ensures.count c.requires) in
    let new : CodeWorld = record linked {
      seats = slice_set linked.seats c.place_of.result c.notice.new.self;
      facts = c.tell_notes.new.facts.items;
    } in
    let changed = seat_changed (StepsSeat ClientCall.Noticed c.notice.new.given.notes) linked.seats c.args.client.0
    c.place_of.result c.index_mut-seat.result.now c.notice.new.self c.place_of.ensures there c.index_mut-seat.ensures.value
    c.in_ok-notice.ensures in
    on_ok_weaker c.tell_notes.result (λ told. notice_one c.args.self.now c.set_link.new.self new c.args.client.0 c.requires
    (sym c.has_link.ensures ∙ c.if-not-has_link.false) c.set_link.ensures.becomes
    (subst (λ (w : CodeWorld). StepsIn c.args.client.0 ClientCall.Noticed w new) c.self.view_is
    (steps_in linked new c.args.client.0 ClientCall.Noticed c.notice.new.given.notes refl refl changed told there)))
    c.tell_notes.ensures
