use Rattle.lease_laws.proofs.Words.{◌≡◌, refl, slice_set, subst, sym}
use Rattle.lease_world.specs.contracts.world.World.{the_view}
use Rattle.lease_world.specs.world.Seats.{IsPresent}
use Rattle.lease_world.specs.world.Stands.{CodeWorld}
use Rattle.lease_world.proofs.worlds.Happening.{linked_stands}
use Rattle.lease_world.proofs.worlds.Seats.{seat_changed}
use Rattle.lease_world.proofs.world.World.set_link.Goals as goal

pub returns-clause-becomes : goal.returns-clause-becomes
returns-clause-becomes c =
    let old : CodeWorld = the_view c.self.inside in
    let there : IsPresent c.args.client.0 old.seats =
    subst (λ (w : CodeWorld). IsPresent c.args.client.0 w.seats) (sym c.self.view_is) c.requires in
    let new : CodeWorld = record old { seats = slice_set old.seats c.place_of.result c.set_link.new.self } in
    let changed = seat_changed (λ before after. after ≡ record before { link = c.args.link }) old.seats c.args.client.0
    c.place_of.result c.index_mut-seat.result.now c.set_link.new.self c.place_of.ensures there c.index_mut-seat.ensures.value
    c.set_link.ensures in
    rw (← c.self.view_is) (refl, λ world s. linked_stands old new c.args.client.0 c.args.link (refl, refl, refl) changed world s)
