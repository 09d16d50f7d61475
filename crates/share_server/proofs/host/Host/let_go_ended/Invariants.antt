use Rattle.lease_manager.specs.Table.{server_of}
use Rattle.share_server.specs.Table.{HasLetGo}
use Rattle.share_server.proofs.host.Host.let_go_ended.Given as goal

abbrev pub invariant-loop-decision : goal.invariant-loop-decision
invariant-loop-decision l = HasLetGo (server_of l.manager).opens l.fn.self l.self
