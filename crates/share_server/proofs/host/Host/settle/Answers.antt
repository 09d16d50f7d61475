use Rattle.lease_manager.specs.Table.{server_of}
use Rattle.share_server.proofs.Carrying.{let_go_more}
use Rattle.share_server.proofs.host.Host.settle.Goals as goal

pub returns : goal.returns
returns c = record {
  middle = c.carry_out_all.new.self;
  done = c.in_ok-carry_out_all.ensures;
  let_go = let_go_more (server_of c.args.manager.now).opens c.carry_out_all.new.self c.let_go_ended.new.self
      c.let_go_closed.new.self c.let_go_ended.ensures c.let_go_closed.ensures;
}
