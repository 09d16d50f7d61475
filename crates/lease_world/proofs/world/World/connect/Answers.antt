use Rattle.lease_laws.proofs.Words.{◌∙◌, Call, ClientCall, on_ok_weaker, refl, slice_set, subst, sym}
use Rattle.lease_world.specs.contracts.world.World.{the_view}
use Rattle.lease_world.specs.world.Seats.{IsPresent, StepsSeat}
use Rattle.lease_world.specs.world.Stands.{CodeWorld}
use Rattle.lease_world.specs.world.Worlds.{StepsIn}
use Rattle.lease_world.proofs.worlds.Called.{served_by, served_count, steps_in}
use Rattle.lease_world.proofs.worlds.Events.{connect_one, connect_nothing}
use Rattle.lease_world.proofs.worlds.Seats.{seat_changed, still_there}
use Rattle.lease_world.proofs.world.World.connect.Goals as goal

pub returns-then-not-has_link : goal.returns-then-not-has_link
returns-then-not-has_link c =
    connect_nothing c.args.self.now c.args.client.0 c.requires (sym c.has_link.ensures ∙ c.if-not-has_link.true)

pub returns : goal.returns
returns c =
    let joined : CodeWorld = the_view c.self.inside in
    let delivers = c.in_ok-put_back.ensures in
    let count = served_count c.tell.new.self c.take_server.new.self c.put_back.new.self c.in_ok-server.server
    c.in_ok-server-2.server c.in_ok-server-2.outs.items c.in_ok-server.ensures delivers
    ∙ c.in_ok-tell.ensures.count ∙ c.set_link.ensures.count in
    let there : IsPresent c.args.client.0 joined.seats =
    subst (λ (w : CodeWorld). IsPresent c.args.client.0 w.seats) (sym c.self.view_is)
    (still_there c.args.self.now.seats c.put_back.new.self.seats c.args.client.0 count c.requires) in
    let new : CodeWorld = record joined {
      seats = slice_set joined.seats c.place_of.result c.connect.new.self;
      facts = c.tell_notes.new.facts.items;
    } in
    let changed = seat_changed (StepsSeat ClientCall.Connected c.connect.new.given.notes) joined.seats c.args.client.0
    c.place_of.result c.index_mut-seat.result.now c.connect.new.self c.place_of.ensures there c.index_mut-seat.ensures.value
    c.in_ok-connect.ensures in
    on_ok_weaker c.tell_notes.result (λ noted.
    connect_one c.args.self.now c.set_link.new.self c.tell.new.self c.put_back.new.self new c.args.client.0 c.requires
    (sym c.has_link.ensures ∙ c.if-not-has_link.false) c.set_link.ensures.becomes c.in_ok-tell.ensures.becomes
    (served_by c.tell.new.self c.take_server.new.self c.put_back.new.self (Call.Join c.args.client.0)
    c.in_ok-server.server c.in_ok-server-2.server c.in_ok-server-2.outs.items
    c.in_ok-server.ensures c.in_ok-server-2.ensures.after delivers)
    (subst (λ (w : CodeWorld). StepsIn c.args.client.0 ClientCall.Connected w new) c.self.view_is
    (steps_in joined new c.args.client.0 ClientCall.Connected c.connect.new.given.notes refl refl changed noted there)))
    c.tell_notes.ensures
