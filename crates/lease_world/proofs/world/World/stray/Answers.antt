use Rattle.lease_laws.proofs.Words.{◌∙◌, on_ok_weaker, sym}
use Rattle.lease_world.proofs.worlds.Events.{stray_one, stray_nothing}
use Rattle.lease_world.proofs.world.World.stray.Goals as goal

pub returns-then-not-has_link : goal.returns-then-not-has_link
returns-then-not-has_link c =
    stray_nothing c.args.self.now c.args.client.0 _ c.requires (sym c.has_link.ensures ∙ c.if-not-has_link.true)

pub returns : goal.returns
returns c = on_ok_weaker c.send.result (λ sends.
    stray_one c.args.self.now c.tell.new.self c.send.new.self c.args.client.0 _ c.requires
    (sym c.has_link.ensures ∙ c.if-not-has_link.false) c.in_ok-tell.ensures.becomes sends) c.send.ensures
