use Rattle.lease_laws.proofs.Words.{◌∙◌, Event, ℕ, subst, sym}
use Rattle.std.specs.Prelude.{IfOk}
use Rattle.lease_client.specs.Answers.{command_of}
use Rattle.lease_facts.specs.Setups.{event_of}
use Rattle.lease_world.specs.world.Obstacles.{MeetsThere}
use Rattle.lease_world.proofs.worlds.Events.{nothing_happens, told_happens}
use Rattle.lease_world.proofs.worlds.Obstacles.{command_meets, no_command, nobody_meets, somebody_meets}
use Rattle.lease_world.proofs.world.World.happen_explained.Goals as goal

pub returns-then-not-has-clause-happens : goal.returns-then-not-has-clause-happens
returns-then-not-has-clause-happens c = nothing_happens c.args.self.now c.client-client.result.0 (event_of c.args.event.now)
    c.client-client.ensures.number (sym c.has.ensures.value ∙ c.if-not-has.true)

pub returns-then-not-has-clause-meets : goal.returns-then-not-has-clause-meets
returns-then-not-has-clause-meets c = nobody_meets c.args.self.now c.client-client.result (event_of c.args.event.now)
    c.client-client.ensures.number (sym c.has.ensures.value ∙ c.if-not-has.true)

pub returns-in-App-clause-happens : goal.returns-in-App-clause-happens
returns-in-App-clause-happens c =
    let same = rw c.in-App.is at c.client-client.ensures.number in
    rw c.in-App.is (told_happens c.command.result c.args.self.now c.command.new.self c.client-client.result.0
    c.in-App.field-0.0 (λ n. Event.App n (command_of c.in-App.command))
    same same (sym c.has.ensures.value ∙ c.if-not-has.false) c.command.ensures.applies)

pub returns-in-App-clause-meets : goal.returns-in-App-clause-meets
returns-in-App-clause-meets c =
    let same = rw c.in-App.is at c.client-client.ensures.number in
    rw c.in-App.is (command_meets c.command.result c.args.self.now c.client-client.result.0
    (Event.App c.in-App.field-0.0 (command_of c.in-App.command)) same (sym c.has.ensures.value ∙ c.if-not-has.false)
    (subst (λ (n : ℕ). IfOk c.command.result (MeetsThere (Event.App n (command_of c.in-App.command)) c.args.self.now)) same
    c.command.ensures.meets))

pub returns-clause-meets : goal.returns-clause-meets
returns-clause-meets c = somebody_meets c.args.self.now c.client-client.result.0 (event_of c.args.event.now)
    c.obstacle-obstacle.result c.client-client.ensures.number (sym c.has.ensures.value ∙ c.if-not-has.false)
    (c.obstacle-obstacle.ensures (no_command c.args.event.now c.in_default.not-App))
