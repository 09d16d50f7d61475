use Rattle.lease_laws.proofs.Words.{Some, on_ok_weaker, refl}
use Rattle.break_timers.specs.Timers.{timers_of}
use Rattle.lease_manager.specs.Requests.{request_like}
use Rattle.lease_manager.specs.Table.{manager_of}
use Rattle.machines_c.specs.manager.About.{closed_by, listed}
use Rattle.machines_c.proofs.Idle.{none_received, silent}
use Rattle.machines_c.proofs.Tries.{handled}
use Rattle.manager_model.specs.Handling as rules
use Rattle.machines_c.proofs.manager.managing.Managing.ask.Goals as goal

pub returns-clause-after : goal.returns-clause-after
returns-clause-after c = on_ok_weaker c.finish_on.result (λ tried. handled (timers_of c.args.self.now.timers) (Some
    (c.args.client.0, c.args.tag.0))
    (listed c.file_closed-file.result) (closed_by c.args.client.0 (request_like c.args.ask) (manager_of c.args.self.now.manager))
    c.args.self.now.changes (rules.receive (manager_of c.args.self.now.manager) c.args.client.0 c.args.tag.0 (request_like
    c.args.ask)) _ _ tried
    c.in_ok-ask.ensures.after refl refl c.nothing.ensures c.file_closed-file.ensures.file) c.finish_on.ensures.after

pub returns-clause-idle : goal.returns-clause-idle
returns-clause-idle c = λ idle. c.finish_on.ensures.silent (c.file_closed-file.ensures.idle idle)
    (silent _ _ _ c.in_ok-ask.ensures.after (none_received (manager_of c.args.self.now.manager) c.args.client.0 c.args.tag.0
    (request_like c.args.ask) idle))
