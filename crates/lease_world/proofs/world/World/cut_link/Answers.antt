use Rattle.lease_laws.proofs.Words.{◌≡◌, [], refl, slice_set, subst, sym}
use Rattle.lease_world.specs.contracts.world.World.{the_view}
use Rattle.lease_world.specs.world.Seats.{IsPresent}
use Rattle.lease_world.specs.world.Stands.{CodeWorld}
use Rattle.lease_world.specs.declared.world.link.Link as code
use Rattle.lease_world.proofs.worlds.Happening.{cut_stands}
use Rattle.lease_world.proofs.worlds.Seats.{seat_changed}
use Rattle.lease_world.proofs.world.World.cut_link.Goals as goal

pub returns-clause-becomes : goal.returns-clause-becomes
returns-clause-becomes c =
    let old : CodeWorld = the_view c.self.inside in
    let there : IsPresent c.args.client.0 old.seats =
    subst (λ (w : CodeWorld). IsPresent c.args.client.0 w.seats) (sym c.self.view_is) c.requires in
    let new : CodeWorld = record old { seats = slice_set old.seats c.place_of.result c.cut.new.self } in
    let changed = seat_changed (λ was next. next ≡ record was { link = code.TheVariants.Cut; requests = []; replies = [] })
    old.seats c.args.client.0
    c.place_of.result c.index_mut-seat.result.now c.cut.new.self c.place_of.ensures there c.index_mut-seat.ensures.value
    c.cut.ensures in
    rw (← c.self.view_is) (refl, λ world s. cut_stands old new c.args.client.0 (refl, refl, refl) changed world s)
