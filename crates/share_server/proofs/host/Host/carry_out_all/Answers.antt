use Rattle.lease_laws.proofs.Words.{None, false, get_or, rules}
use Rattle.lease_manager.specs.declared.values.decision.Decision.TheVariants.{Opened}
use Rattle.share_server.proofs.Carrying.{next_done, none_done}
use Rattle.share_server.proofs.host.Host.carry_out_all.Goals as goal

pub loop-decision-init : goal.loop-decision-init
loop-decision-init c = none_done c.args.self.now c.args.outs.now

pub loop-decision-preserved : goal.loop-decision-preserved
loop-decision-preserved c = next_done c.args.told.now c.loop-decision.decision-index
    (get_or c.args.told.now c.loop-decision.decision-index (Opened (record { 0 = 0 }) (record { 0 = 0 }) (record { 0 = 0 })
    (record { lease = None; durable = false })))
    c.args.self.now c.loop-decision.self c.carry_out.new.self c.args.outs.now c.loop-decision.outs c.carry_out.new.outs
    c.loop-decision-test.true (search rules) c.requires c.loop-decision.invariant c.in_ok-carry_out.ensures
