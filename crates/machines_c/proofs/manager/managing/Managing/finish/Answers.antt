use Rattle.lease_laws.proofs.Words.{◌≡◌, option_map, refl}
use Rattle.break_timers.specs.Timers.{timers_of}
use Rattle.lease_manager.specs.Queues.{file_numbers}
use Rattle.machines_c.proofs.Tries.{IsSoFar, skipped, tried_now}
use Rattle.waiting_changes.specs.Changes.{going_of, request_of, tried_after}
use Rattle.machines_c.specs.declared.manager.managing.Managing.{Managing}
use Rattle.machines_c.proofs.manager.managing.Managing.finish.Goals as goal
use Rattle.machines_c.proofs.manager.managing.Managing.finish.Goals.{then-is_about_changes+in_ok-try_again, else-is_about_changes}

pub returns-clause-after : goal.returns-clause-after
returns-clause-after c =
    let own = option_map request_of c.args.request in
    let old : Managing = c.args.self.now in
    let files = file_numbers c.args.files.now in
    let so_far : IsSoFar (timers_of old.timers) (tried_after own files (going_of old.changes old.manager old.decisions.items))
    c.if-is_about_changes.self = elim c.if-is_about_changes.branch [
      | then-is_about_changes+in_ok-try_again w ↦ rw w.self-is (record { going = w.in_ok-try_again.ensures.after; timers = refl })
      | else-is_about_changes w ↦ rw w.self-is (record {
        going = skipped own c.args.files.now old (c.is_about_changes.ensures.waits w.if-is_about_changes.false);
        timers = refl;
      })
    ] in
    let listed : (c.if-is_about_changes.self).listed ≡ old.listed = elim c.if-is_about_changes.branch [
      | then-is_about_changes+in_ok-try_again w ↦ rw w.self-is refl
      | else-is_about_changes w ↦ rw w.self-is refl
    ] in
    tried_now c.note.result own files old c.if-is_about_changes.self c.note.new.self so_far listed
    c.note.ensures.timers c.note.ensures.numbers c.note.ensures.same
