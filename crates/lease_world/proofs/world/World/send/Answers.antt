use Rattle.lease_laws.proofs.Words.{◌∷◌, ◌≡◌, [], on_ok_weaker, refl, slice_set, subst, sym}
use Rattle.lease_world.specs.contracts.world.World.{the_view}
use Rattle.lease_world.specs.world.Seats.{IsPresent, with_requests}
use Rattle.lease_world.specs.world.Stands.{CodeWorld}
use Rattle.lease_world.proofs.worlds.Happening.{sent_stands}
use Rattle.lease_world.proofs.worlds.Seats.{seat_changed}
use Rattle.lease_world.proofs.world.World.send.Goals as goal

pub returns : goal.returns
returns c =
    let old : CodeWorld = the_view c.self.inside in
    let there : IsPresent c.args.client.0 old.seats =
    subst (λ (w : CodeWorld). IsPresent c.args.client.0 w.seats) (sym c.self.view_is) c.requires in
    let new : CodeWorld = record old { seats = slice_set old.seats c.place_of.result c.send.new.self } in
    rw (← c.self.view_is) (on_ok_weaker c.send.result (λ sent. (
      refl,
      λ world s. sent_stands old new c.args.client.0 c.args.request (refl, refl, refl)
          (seat_changed (λ before after. after ≡ with_requests (c.args.request ∷ []) before) old.seats c.args.client.0
          c.place_of.result c.index_mut-seat.result.now c.send.new.self c.place_of.ensures there c.index_mut-seat.ensures.value
          sent) world s,
    )) c.send.ensures)
