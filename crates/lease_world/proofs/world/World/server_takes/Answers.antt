use Rattle.lease_laws.proofs.Words.{Call, None, Some, on_ok_weaker, refl, request_of, slice_set, subst, sym}
use Rattle.lease_world.specs.contracts.world.World.{the_view}
use Rattle.lease_world.specs.world.Seats.{IsPresent, PopsRequest}
use Rattle.lease_world.specs.world.Stands.{CodeWorld}
use Rattle.lease_world.proofs.worlds.Called.{served_by}
use Rattle.lease_world.proofs.worlds.Events.{server_took, server_took_nothing}
use Rattle.lease_world.proofs.worlds.Seats.{seat_changed}
use Rattle.lease_world.proofs.world.World.server_takes.Goals as goal

pub returns-in_ok-server-in-Some-2 : goal.returns-in_ok-server-in-Some-2
returns-in_ok-server-in-Some-2 c =
    let old : CodeWorld = the_view c.self.inside in
    let there : IsPresent c.args.client.0 old.seats =
    subst (λ (w : CodeWorld). IsPresent c.args.client.0 w.seats) (sym c.self.view_is) c.requires in
    let popped : CodeWorld = record old { seats = slice_set old.seats c.place_of.result c.pop_request.new.self } in
    let changed = seat_changed (PopsRequest (Some c.in-Some.request)) old.seats c.args.client.0 c.place_of.result
    c.index_mut-seat.result.now c.pop_request.new.self c.place_of.ensures there c.index_mut-seat.ensures.value
    c.in-Some.ensures in
    rw (← c.self.view_is) (on_ok_weaker c.put_back.result (λ delivers.
    server_took old popped c.put_back.new.self c.args.client.0 c.in-Some.request (refl, refl, refl) changed there
    (served_by popped c.take_server.new.self c.put_back.new.self (Call.Receive c.args.client.0 (request_of c.in-Some.request))
    c.in_ok-server-in-Some.server c.in_ok-server-in-Some-2.server c.in_ok-server-in-Some-2.outs.items
    c.in_ok-server-in-Some.ensures c.in_ok-server-in-Some-2.ensures.after delivers)) c.put_back.ensures)

pub returns-in-None : goal.returns-in-None
returns-in-None c =
    let old : CodeWorld = the_view c.self.inside in
    let there : IsPresent c.args.client.0 old.seats =
    subst (λ (w : CodeWorld). IsPresent c.args.client.0 w.seats) (sym c.self.view_is) c.requires in
    let popped : CodeWorld = record old { seats = slice_set old.seats c.place_of.result c.pop_request.new.self } in
    rw (← c.self.view_is) (server_took_nothing old popped c.args.client.0 (refl, refl, refl)
    (seat_changed (PopsRequest None) old.seats c.args.client.0 c.place_of.result c.index_mut-seat.result.now
    c.pop_request.new.self c.place_of.ensures there c.index_mut-seat.ensures.value c.in-None.ensures) there)
