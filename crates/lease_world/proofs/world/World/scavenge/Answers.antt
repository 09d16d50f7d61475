use Rattle.lease_laws.proofs.Words.{Call, on_ok_weaker, sym}
use Rattle.lease_world.proofs.worlds.Called.{served_by}
use Rattle.lease_world.proofs.worlds.Events.{scavenge_one, scavenge_nothing}
use Rattle.lease_world.proofs.world.World.scavenge.Goals as goal

pub returns-in_ok-server-in-Some-2 : goal.returns-in_ok-server-in-Some-2
returns-in_ok-server-in-Some-2 c = on_ok_weaker c.put_back.result (λ delivers.
    scavenge_one c.args.self.now c.put_back.new.self c.args.client.0 c.args.file.0 c.in-Some.fid.0 (sym c.in-Some.ensures)
    (served_by c.args.self.now c.take_server.new.self c.put_back.new.self (Call.Scavenge c.in-Some.fid.0)
    c.in_ok-server-in-Some.server c.in_ok-server-in-Some-2.server c.in_ok-server-in-Some-2.outs.items
    c.in_ok-server-in-Some.ensures c.in_ok-server-in-Some-2.ensures.after delivers)) c.put_back.ensures

pub returns-in-None : goal.returns-in-None
returns-in-None c = scavenge_nothing c.args.self.now c.args.client.0 c.args.file.0 (sym c.in-None.ensures)
