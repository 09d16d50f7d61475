use Rattle.lease_laws.proofs.Words.{ClientCall, ap, refl, slice_set, subst, sym}
use Rattle.lease_client.specs.Answers.{command_of}
use Rattle.lease_world.specs.contracts.world.World.{the_view}
use Rattle.lease_world.specs.world.Seats.{IsPresent, StepsSeat}
use Rattle.lease_world.specs.world.Stands.{CodeWorld}
use Rattle.lease_world.proofs.worlds.Called.{steps_in}
use Rattle.lease_world.proofs.worlds.Events.{command_applies}
use Rattle.lease_world.proofs.worlds.Obstacles.{command_met}
use Rattle.lease_world.proofs.worlds.Seats.{seat_changed}
use Rattle.lease_world.proofs.world.World.command.Goals as goal

pub returns-clause-applies : goal.returns-clause-applies
returns-clause-applies c =
    let old : CodeWorld = the_view c.self.inside in
    let there : IsPresent c.args.client.0 old.seats =
    subst (λ (w : CodeWorld). IsPresent c.args.client.0 w.seats) (sym c.self.view_is) c.requires in
    let new : CodeWorld = record old {
      seats = slice_set old.seats c.place_of.result c.app.new.self;
      facts = c.tell_notes.new.facts.items;
    } in
    let call : ClientCall = ClientCall.Commanded (command_of c.in_ok-asked.asked) in
    let changed = seat_changed (StepsSeat call c.app.new.given.notes) old.seats c.args.client.0 c.place_of.result
    c.index_mut-seat.result.now c.app.new.self c.place_of.ensures there c.index_mut-seat.ensures.value
    c.in_ok-app.ensures.steps in
    let steps = steps_in old new c.args.client.0 call c.app.new.given.notes refl refl changed c.in_ok-tell_notes.ensures there in
    rw (← c.self.view_is)
    (command_applies old new c.args.client.0 (command_of c.args.command.now) (rw c.in_ok-asked.ensures at steps))

pub returns-clause-meets : goal.returns-clause-meets
returns-clause-meets c =
    let old : CodeWorld = the_view c.self.inside in
    let there : IsPresent c.args.client.0 old.seats =
    subst (λ (w : CodeWorld). IsPresent c.args.client.0 w.seats) (sym c.self.view_is) c.requires in
    rw (← c.self.view_is)
    (command_met old c.args.client.0 c.place_of.result c.index_mut-seat.result.now (command_of c.args.command.now)
    (command_of c.in_ok-asked.asked) c.app.new.given.answer c.against-obstacle.result c.place_of.ensures there
    c.index_mut-seat.ensures.value (ap command_of c.in_ok-asked.ensures) c.in_ok-app.ensures.answer c.against-obstacle.ensures)
