use Rattle.lease_laws.proofs.Words.{take}
use Rattle.lease_manager.specs.Outs.{decisions}
use Rattle.share_server.specs.Table.{HasDone}
use Rattle.share_server.proofs.host.Host.carry_out_all.Given as goal

abbrev pub invariant-loop-decision : goal.invariant-loop-decision
invariant-loop-decision l = HasDone (decisions (take l.decision-index l.told)) l.fn.self l.self l.fn.outs l.outs
