use Rattle.lease_laws.proofs.Words.{None, [], on_ok_weaker, refl}
use Rattle.break_timers.specs.Timers.{timers_of}
use Rattle.lease_manager.specs.Table.{manager_of}
use Rattle.machines_c.proofs.Idle.{none_acknowledged, silent}
use Rattle.machines_c.proofs.Tries.{handled}
use Rattle.manager_model.specs.Handling as rules
use Rattle.machines_c.proofs.manager.managing.Managing.acknowledge_malformed.Goals as goal

pub returns-clause-after : goal.returns-clause-after
returns-clause-after c = on_ok_weaker c.finish_on.result (λ tried. handled (timers_of c.args.self.now.timers) None [] []
    c.args.self.now.changes (rules.acknowledge (manager_of c.args.self.now.manager) c.args.client.0 None) _ _ tried
    c.in_ok-acknowledge_malformed.ensures.after refl refl c.nothing.ensures (λ some. refl)) c.finish_on.ensures.after

pub returns-clause-idle : goal.returns-clause-idle
returns-clause-idle c = λ idle. c.finish_on.ensures.silent refl (silent _ _ _ c.in_ok-acknowledge_malformed.ensures.after
    (none_acknowledged (manager_of c.args.self.now.manager) c.args.client.0 None idle))
