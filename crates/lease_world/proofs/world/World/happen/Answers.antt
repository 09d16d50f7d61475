use Rattle.lease_laws.proofs.Words.{◌∙◌, Event, ℕ, request_of, subst, sym}
use Rattle.lease_client.specs.Answers.{command_of}
use Rattle.lease_facts.specs.Setups.{event_of}
use Rattle.lease_world.specs.world.Worlds.{Applies}
use Rattle.lease_world.proofs.worlds.Events.{event_happens, nothing_happens, told_happens}
use Rattle.lease_world.proofs.world.World.happen.Goals as goal

pub returns-then-not-has : goal.returns-then-not-has
returns-then-not-has c = nothing_happens c.args.self.now c.client-client.result.0 (event_of c.args.event.now)
    c.client-client.ensures.number (sym c.has.ensures.value ∙ c.if-not-has.true)

pub returns-in_ok-command-in-App : goal.returns-in_ok-command-in-App
returns-in_ok-command-in-App c =
    let same = rw c.in-App.is at c.client-client.ensures.number in
    rw c.in-App.is (event_happens c.args.self.now c.command.new.self c.client-client.result.0
    (Event.App c.in-App.field-0.0 (command_of c.in-App.command)) same (sym c.has.ensures.value ∙ c.if-not-has.false)
    (subst (λ (n : ℕ). Applies (Event.App n (command_of c.in-App.command)) c.args.self.now c.command.new.self) same
    c.in_ok-command-in-App.ensures.applies))

pub returns-in-ServerTakes : goal.returns-in-ServerTakes
returns-in-ServerTakes c =
    let same = rw c.in-ServerTakes.is at c.client-client.ensures.number in
    rw c.in-ServerTakes.is (told_happens c.server_takes.result c.args.self.now c.server_takes.new.self c.client-client.result.0
    c.in-ServerTakes.field-0.0 Event.ServerTakes same same (sym c.has.ensures.value ∙ c.if-not-has.false) c.server_takes.ensures)

pub returns-in-ClientTakes : goal.returns-in-ClientTakes
returns-in-ClientTakes c =
    let same = rw c.in-ClientTakes.is at c.client-client.ensures.number in
    rw c.in-ClientTakes.is (told_happens c.client_takes.result c.args.self.now c.client_takes.new.self c.client-client.result.0
    c.in-ClientTakes.field-0.0 Event.ClientTakes same same (sym c.has.ensures.value ∙ c.if-not-has.false) c.client_takes.ensures)

pub returns-in-Cut : goal.returns-in-Cut
returns-in-Cut c =
    let same = rw c.in-Cut.is at c.client-client.ensures.number in
    rw c.in-Cut.is (told_happens c.cut.result c.args.self.now c.cut.new.self c.client-client.result.0
    c.in-Cut.field-0.0 Event.Cut same same (sym c.has.ensures.value ∙ c.if-not-has.false) c.cut.ensures.applies)

pub returns-in-Notice : goal.returns-in-Notice
returns-in-Notice c =
    let same = rw c.in-Notice.is at c.client-client.ensures.number in
    rw c.in-Notice.is (told_happens c.notice.result c.args.self.now c.notice.new.self c.client-client.result.0
    c.in-Notice.field-0.0 Event.Notice same same (sym c.has.ensures.value ∙ c.if-not-has.false) c.notice.ensures)

pub returns-in-Connect : goal.returns-in-Connect
returns-in-Connect c =
    let same = rw c.in-Connect.is at c.client-client.ensures.number in
    rw c.in-Connect.is (told_happens c.connect.result c.args.self.now c.connect.new.self c.client-client.result.0
    c.in-Connect.field-0.0 Event.Connect same same (sym c.has.ensures.value ∙ c.if-not-has.false) c.connect.ensures)

pub returns-in-Expire : goal.returns-in-Expire
returns-in-Expire c =
    let same = rw c.in-Expire.is at c.client-client.ensures.number in
    rw c.in-Expire.is (told_happens c.expire.result c.args.self.now c.expire.new.self c.client-client.result.0
    c.in-Expire.field-0.0 (λ n. Event.Expire n c.in-Expire.file.0)
    same same (sym c.has.ensures.value ∙ c.if-not-has.false) c.expire.ensures)

pub returns-in-Scavenge : goal.returns-in-Scavenge
returns-in-Scavenge c =
    let same = rw c.in-Scavenge.is at c.client-client.ensures.number in
    rw c.in-Scavenge.is (told_happens c.scavenge.result c.args.self.now c.scavenge.new.self c.client-client.result.0
    c.in-Scavenge.field-0.0 (λ n. Event.Scavenge n c.in-Scavenge.file.0)
    same same (sym c.has.ensures.value ∙ c.if-not-has.false) c.scavenge.ensures)

pub returns-in_ok-copy_request-in-Raw : goal.returns-in_ok-copy_request-in-Raw
returns-in_ok-copy_request-in-Raw c =
    let same = rw c.in-Raw.is at c.client-client.ensures.number in
    rw c.in-Raw.is (told_happens c.stray.result c.args.self.now c.stray.new.self c.client-client.result.0
    c.in-Raw.field-0.0 (λ n. Event.Raw n (request_of c.in-Raw.request))
    same same (sym c.has.ensures.value ∙ c.if-not-has.false) (rw c.in_ok-copy_request-in-Raw.ensures at c.stray.ensures))
