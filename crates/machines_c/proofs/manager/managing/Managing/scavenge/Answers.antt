use Rattle.lease_laws.proofs.Words.{None, on_ok_weaker, refl}
use Rattle.break_timers.specs.Timers.{timers_of}
use Rattle.lease_manager.specs.Table.{manager_of}
use Rattle.machines_c.specs.manager.About.{at_open, if_left, listed}
use Rattle.machines_c.proofs.Idle.{none_scavenged, silent}
use Rattle.machines_c.proofs.Tries.{handled}
use Rattle.manager_model.specs.Handling as rules
use Rattle.machines_c.proofs.manager.managing.Managing.scavenge.Goals as goal

pub returns-clause-after : goal.returns-clause-after
returns-clause-after c = on_ok_weaker c.finish_on.result (λ tried. handled (timers_of c.args.self.now.timers) None
    (listed c.file_left-file.result) (if_left c.args.fid.0 (at_open c.args.fid.0) (manager_of c.args.self.now.manager))
    c.args.self.now.changes (rules.scavenge (manager_of c.args.self.now.manager) c.args.fid.0) _ _ tried
    c.in_ok-scavenge.ensures.after refl refl c.nothing.ensures c.file_left-file.ensures.file) c.finish_on.ensures.after

pub returns-clause-idle : goal.returns-clause-idle
returns-clause-idle c = λ idle. c.finish_on.ensures.silent (c.file_left-file.ensures.idle idle)
    (silent _ _ _ c.in_ok-scavenge.ensures.after (none_scavenged (manager_of c.args.self.now.manager) c.args.fid.0 idle))
