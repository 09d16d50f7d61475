use Rattle.lease_laws.proofs.Words.{None, ◌∙◌, ap, on_ok_weaker, refl, without}
use Rattle.break_timers.specs.Timers.{timers_of}
use Rattle.lease_manager.specs.Queues.{file_numbers}
use Rattle.lease_manager.specs.Table.{manager_of}
use Rattle.machines_c.specs.manager.About.{at_client, if_present}
use Rattle.machines_c.proofs.Idle.{none_cut, silent}
use Rattle.machines_c.proofs.Tries.{handled, some_of}
use Rattle.manager_model.specs.Handling as rules
use Rattle.waiting_changes.specs.Changes.{is_asked_by}
use Rattle.machines_c.proofs.manager.managing.Managing.cut.Goals as goal

pub returns-clause-after : goal.returns-clause-after
returns-clause-after c = on_ok_weaker c.finish.result (λ tried. handled (timers_of c.args.self.now.timers) None
    (file_numbers c.deref.result.now) (if_present c.args.client.0 (at_client c.args.client.0) (manager_of
    c.args.self.now.manager))
    (without (is_asked_by c.args.client.0) c.args.self.now.changes)
    (rules.cut (manager_of c.args.self.now.manager) c.args.client.0) _ _ tried
    c.in_ok-cut.ensures.after c.forget.ensures refl c.nothing.ensures
    (λ some. ap file_numbers c.deref.ensures.value ∙ c.in_ok-files.ensures.files
    (some_of (is_asked_by c.args.client.0) c.args.self.now.changes some))) c.finish.ensures.after

pub returns-clause-idle : goal.returns-clause-idle
returns-clause-idle c = λ idle. c.finish.ensures.silent (c.deref.ensures.value ∙ c.in_ok-files.ensures.none idle)
    (silent _ _ _ c.in_ok-cut.ensures.after (none_cut (manager_of c.args.self.now.manager) c.args.client.0 idle))
