use Rattle.lease_laws.proofs.Words.{◌∙◌, ClientCall, None, Some, ap, length, length-set, on_ok_weaker, refl, reply_of, rules}
use Rattle.lease_laws.proofs.Words.{slice_set, subst, sym}
use Rattle.lease_world.specs.contracts.world.World.{the_view}
use Rattle.lease_world.specs.world.Seats.{IsPresent, PopsReply, StepsSeat}
use Rattle.lease_world.specs.world.Stands.{CodeWorld}
use Rattle.lease_world.specs.world.Worlds.{StepsIn}
use Rattle.lease_world.proofs.worlds.Called.{steps_in}
use Rattle.lease_world.proofs.worlds.Events.{client_took, client_took_nothing}
use Rattle.lease_world.proofs.worlds.Seats.{seat_changed, still_there}
use Rattle.lease_world.proofs.world.World.client_takes.Goals as goal

pub returns-in_ok-take-in-Some : goal.returns-in_ok-take-in-Some
returns-in_ok-take-in-Some c =
    let old : CodeWorld = the_view c.self.inside in
    let there : IsPresent c.args.client.0 old.seats =
    subst (λ (w : CodeWorld). IsPresent c.args.client.0 w.seats) (sym c.self.view_is) c.requires in
    let popped : CodeWorld = record old { seats = slice_set old.seats c.place_of.result c.pop_reply.new.self } in
    let popping = seat_changed (PopsReply (Some c.in-Some.reply)) old.seats c.args.client.0 c.place_of.result
    c.index_mut-seat.result.now c.pop_reply.new.self c.place_of.ensures there c.index_mut-seat.ensures.value (search rules) in
    let told : CodeWorld = the_view c.self-in-Some.inside in
    let count = c.in_ok-tell-in-Some.ensures.count ∙ ap (λ (w : CodeWorld). length w.seats) c.in_ok-keep-in-Some.ensures.becomes
    ∙ length-set old.seats c.place_of.result c.pop_reply.new.self in
    let here : IsPresent c.args.client.0 told.seats =
    subst (λ (w : CodeWorld). IsPresent c.args.client.0 w.seats) (sym c.self-in-Some.view_is)
    (still_there old.seats c.tell.new.self.seats c.args.client.0 count there) in
    let new : CodeWorld = record told {
      seats = slice_set told.seats c.place_of-in-Some.result c.take.new.self;
      facts = c.tell_notes.new.facts.items;
    } in
    let call : ClientCall = ClientCall.Taken (reply_of c.in-Some.reply) in
    let changed = seat_changed (StepsSeat call c.take.new.given.notes) told.seats c.args.client.0
    c.place_of-in-Some.result c.index_mut-seat-in-Some.result.now c.take.new.self c.place_of-in-Some.ensures here
    c.index_mut-seat-in-Some.ensures.value c.in_ok-take-in-Some.ensures in
    rw (← c.self.view_is) (on_ok_weaker c.tell_notes.result (λ noted.
    client_took old popped c.keep.new.self c.tell.new.self new c.args.client.0 c.in-Some.reply (refl, refl, refl) popping there
    c.has_its_field.ensures c.in_ok-keep-in-Some.ensures.becomes c.in_ok-keep-in-Some.ensures.kept
    c.in_ok-tell-in-Some.ensures.becomes (subst (λ (w : CodeWorld). StepsIn c.args.client.0 call w new) c.self-in-Some.view_is
    (steps_in told new c.args.client.0 call c.take.new.given.notes refl refl changed noted here)))
    c.tell_notes.ensures)

pub returns-in-None : goal.returns-in-None
returns-in-None c =
    let old : CodeWorld = the_view c.self.inside in
    let there : IsPresent c.args.client.0 old.seats =
    subst (λ (w : CodeWorld). IsPresent c.args.client.0 w.seats) (sym c.self.view_is) c.requires in
    let popped : CodeWorld = record old { seats = slice_set old.seats c.place_of.result c.pop_reply.new.self } in
    rw (← c.self.view_is) (client_took_nothing old popped c.args.client.0 (refl, refl, refl)
    (seat_changed (PopsReply None) old.seats c.args.client.0 c.place_of.result c.index_mut-seat.result.now c.pop_reply.new.self
    c.place_of.ensures there c.index_mut-seat.ensures.value (search rules)) there)
