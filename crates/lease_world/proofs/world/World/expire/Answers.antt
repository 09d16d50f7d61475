use Rattle.lease_laws.proofs.Words.{◌∙◌, Call, key_of, on_ok_weaker, sym}
use Rattle.lease_world.proofs.worlds.Called.{served_by}
use Rattle.lease_world.proofs.worlds.Events.{expire_one, expire_nothing}
use Rattle.lease_world.proofs.world.World.expire.Goals as goal

pub returns-then-not-is_breaking : goal.returns-then-not-is_breaking
returns-then-not-is_breaking c =
    expire_nothing c.args.self.now c.args.client.0 c.args.file.0 c.key-key.result.0 c.requires c.key-key.ensures
    (sym c.is_breaking.ensures ∙ c.if-not-is_breaking.true)

pub returns : goal.returns
returns c = on_ok_weaker c.put_back.result (λ delivers.
    expire_one c.args.self.now c.tell.new.self c.put_back.new.self c.args.client.0 c.args.file.0 c.key-key.result.0 c.requires
    c.key-key.ensures (sym c.is_breaking.ensures ∙ c.if-not-is_breaking.false) c.in_ok-tell.ensures.becomes
    (served_by c.tell.new.self c.take_server.new.self c.put_back.new.self
    (Call.Expire (key_of c.args.client.0 c.key-key.result.0)) c.in_ok-server.server c.in_ok-server-2.server
    c.in_ok-server-2.outs.items c.in_ok-server.ensures c.in_ok-server-2.ensures.after delivers)) c.put_back.ensures
