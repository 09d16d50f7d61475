use Rattle.lease_laws.proofs.Words.{◌∙◌, on_ok_weaker, sym}
use Rattle.lease_world.proofs.worlds.Passages.{noted_after}
use Rattle.lease_world.proofs.world.World.note_passages.Goals as goal

pub returns : goal.returns
returns c = on_ok_weaker c.push_sent.result
    (noted_after c.args.passages.now.items c.push_gone.new.passages.items c.push_sent.new.passages.items c.args.event.now
    c.args.facts c.args.waiting c.waiting-left.result c.args.self.now c.client-client.result c.client-client.ensures.value
    (sym c.has.ensures.value ∙ c.if-not-has.false) c.waiting-left.ensures c.in_ok-push_gone.ensures) c.push_sent.ensures
