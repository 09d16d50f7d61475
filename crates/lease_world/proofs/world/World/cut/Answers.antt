use Rattle.lease_laws.proofs.Words.{◌∙◌, Call, on_ok_weaker, sym}
use Rattle.lease_world.proofs.worlds.Called.{served_by}
use Rattle.lease_world.proofs.worlds.Events.{cut_one, cut_nothing}
use Rattle.lease_world.proofs.world.World.cut.Goals as goal

pub returns-then-not-has_link-clause-applies : goal.returns-then-not-has_link-clause-applies
returns-then-not-has_link-clause-applies c =
    cut_nothing c.args.self.now c.args.client.0 c.requires (sym c.has_link.ensures ∙ c.if-not-has_link.true)

pub returns-clause-applies : goal.returns-clause-applies
returns-clause-applies c = on_ok_weaker c.put_back.result (λ delivers.
    cut_one c.args.self.now c.cut_link.new.self c.tell.new.self c.put_back.new.self c.args.client.0 c.requires
    (sym c.has_link.ensures ∙ c.if-not-has_link.false) c.cut_link.ensures.becomes c.in_ok-tell.ensures.becomes
    (served_by c.tell.new.self c.take_server.new.self c.put_back.new.self (Call.Cut c.args.client.0)
    c.in_ok-server.server c.in_ok-server-2.server c.in_ok-server-2.outs.items
    c.in_ok-server.ensures c.in_ok-server-2.ensures.after delivers)) c.put_back.ensures
