use Rattle.lease_manager.specs.Table.{server_of}
use Rattle.share_server.specs.Table.{HasLetGo}
use Rattle.share_server.proofs.host.Host.let_go_closed.Given as goal

abbrev pub invariant-loop-out : goal.invariant-loop-out
invariant-loop-out l = HasLetGo (server_of l.manager).opens l.fn.self l.self
