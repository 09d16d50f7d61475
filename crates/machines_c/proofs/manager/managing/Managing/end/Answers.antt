use Rattle.lease_laws.proofs.Words.{None, on_ok_weaker, refl}
use Rattle.break_timers.specs.Timers.{timers_of}
use Rattle.lease_manager.specs.Table.{manager_of}
use Rattle.lease_model.specs.server.Naming.{key_of}
use Rattle.machines_c.specs.manager.About.{at_key, if_breaking, listed}
use Rattle.machines_c.proofs.Idle.{none_expired, silent}
use Rattle.machines_c.proofs.Tries.{handled}
use Rattle.manager_model.specs.Handling as rules
use Rattle.machines_c.proofs.manager.managing.Managing.end.Goals as goal

pub returns-clause-after : goal.returns-clause-after
returns-clause-after c =
    let key = key_of c.key.inside.client.0 c.key.inside.bytes.0 in
    rw (← c.key.view_is) (on_ok_weaker c.finish_on.result (λ tried. handled (timers_of c.args.self.now.timers) None
    (listed c.file_breaking-file.result) (if_breaking key (at_key key) (manager_of c.args.self.now.manager))
    c.args.self.now.changes (rules.expire (manager_of c.args.self.now.manager) key) _ _ tried
    c.in_ok-expire.ensures.after refl refl c.nothing.ensures c.file_breaking-file.ensures.file) c.finish_on.ensures.after)

pub returns-clause-idle : goal.returns-clause-idle
returns-clause-idle c = rw (← c.key.view_is) (λ idle. c.finish_on.ensures.silent (c.file_breaking-file.ensures.idle idle)
    (silent _ _ _ c.in_ok-expire.ensures.after
    (none_expired (manager_of c.args.self.now.manager) (key_of c.key.inside.client.0 c.key.inside.bytes.0) idle)))
