use Rattle.lease_laws.proofs.Words.{None, ◌∙◌, ap, on_ok_weaker, refl, without}
use Rattle.break_timers.specs.Timers.{timers_of}
use Rattle.lease_manager.specs.LeftOpens.{numbers}
use Rattle.lease_manager.specs.Parting.{tag_numbers}
use Rattle.lease_manager.specs.Queues.{file_numbers}
use Rattle.lease_manager.specs.Table.{manager_of}
use Rattle.machines_c.specs.manager.About.{at_client, if_present}
use Rattle.machines_c.proofs.Idle.{none_left, silent}
use Rattle.machines_c.proofs.Tries.{handled, some_of}
use Rattle.manager_model.specs.Handling as rules
use Rattle.waiting_changes.specs.Changes.{is_left_of}
use Rattle.machines_c.proofs.manager.managing.Managing.leave.Goals as goal

pub returns-clause-after : goal.returns-clause-after
returns-clause-after c = on_ok_weaker c.finish.result (λ tried. handled (timers_of c.args.self.now.timers) None
    (file_numbers c.deref.result.now) (if_present c.args.client.0 (at_client c.args.client.0) (manager_of
    c.args.self.now.manager))
    (without (is_left_of c.args.client.0 (tag_numbers c.args.tags.now)) c.args.self.now.changes)
    (rules.leave (manager_of c.args.self.now.manager) c.args.client.0 (numbers c.args.file_ids.now) (tag_numbers
    c.args.tags.now)) _ _ tried
    c.in_ok-leave.ensures.after c.leave.ensures refl c.nothing.ensures
    (λ some. ap file_numbers c.deref.ensures.value ∙ c.in_ok-files.ensures.files
    (some_of (is_left_of c.args.client.0 (tag_numbers c.args.tags.now)) c.args.self.now.changes some))) c.finish.ensures.after

pub returns-clause-idle : goal.returns-clause-idle
returns-clause-idle c = λ idle. c.finish.ensures.silent (c.deref.ensures.value ∙ c.in_ok-files.ensures.none idle)
    (silent _ _ _ c.in_ok-leave.ensures.after (none_left (manager_of c.args.self.now.manager) c.args.client.0 (numbers
    c.args.file_ids.now) (tag_numbers c.args.tags.now) idle))
