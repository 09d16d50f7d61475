use Rattle.lease_laws.proofs.Words.{None, on_ok_weaker, refl}
use Rattle.break_timers.specs.Timers.{stopped, timers_of}
use Rattle.lease_model.specs.server.Naming.{key_of}
use Rattle.lease_manager.specs.Table.{manager_of}
use Rattle.machines_c.specs.manager.About.{at_key, if_breaking, listed}
use Rattle.machines_c.proofs.Idle.{none_expired, silent}
use Rattle.machines_c.proofs.Tries.{handled}
use Rattle.manager_model.specs.Handling as rules
use Rattle.machines_c.proofs.manager.managing.Managing.expire.Goals as goal

pub returns-clause-after : goal.returns-clause-after
returns-clause-after c = on_ok_weaker c.finish_on.result (λ tried. handled (stopped (key_of c.args.client.0 c.args.key.0)
    (timers_of c.args.self.now.timers)) None
    (listed c.file_breaking-file.result) (if_breaking (key_of c.args.client.0 c.args.key.0) (at_key (key_of c.args.client.0
    c.args.key.0)) (manager_of c.args.self.now.manager))
    c.args.self.now.changes (rules.expire (manager_of c.args.self.now.manager) (key_of c.args.client.0 c.args.key.0)) _ _ tried
    c.in_ok-expire.ensures.after refl c.stop.ensures c.nothing.ensures c.file_breaking-file.ensures.file)
    c.finish_on.ensures.after

pub returns-clause-idle : goal.returns-clause-idle
returns-clause-idle c = λ idle. c.finish_on.ensures.silent (c.file_breaking-file.ensures.idle idle)
    (silent _ _ _ c.in_ok-expire.ensures.after (none_expired (manager_of c.args.self.now.manager) (key_of c.args.client.0
    c.args.key.0) idle))
