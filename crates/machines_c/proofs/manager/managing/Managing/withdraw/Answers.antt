use Rattle.lease_laws.proofs.Words.{None, ◌∙◌, ap, map-append, on_ok_weaker, refl, sym, without}
use Rattle.break_timers.specs.Timers.{timers_of}
use Rattle.lease_manager.specs.Outs.{decision_of, decisions}
use Rattle.lease_manager.specs.Table.{manager_of}
use Rattle.machines_c.specs.manager.About.{at, if_waiting, listed}
use Rattle.machines_c.specs.manager.Calls.{with_withdrawn}
use Rattle.machines_c.specs.manager.Listed.{IsUnlisted}
use Rattle.machines_c.specs.declared.manager.managing.Managing.{Managing}
use Rattle.machines_c.proofs.Idle.{none_withdrawn, silent}
use Rattle.machines_c.proofs.Tries.{IsSoFar, change_withdrawn, handled_from, no_change_withdrawn, same_tries, some_of}
use Rattle.manager_model.specs.Handling as rules
use Rattle.waiting_changes.specs.Changes.{asks_as}
use Rattle.machines_c.proofs.manager.managing.Managing.withdraw.Goals as goal
use Rattle.machines_c.proofs.manager.managing.Managing.withdraw.Goals.{then-is_waiting+in_ok-push, else-is_waiting}

pub returns-clause-after : goal.returns-clause-after
returns-clause-after c =
    let old : Managing = c.args.self.now in
    let file = c.args.file.0 in
    let client = c.args.client.0 in
    let tag = c.args.tag.0 in
    let now = rules.withdraw (manager_of old.manager) file client tag in
    let start = with_withdrawn file client tag old.changes now in
    let so_far : IsSoFar (timers_of old.timers) start c.if-is_waiting.self = elim c.if-is_waiting.branch [
      | then-is_waiting+in_ok-push w ↦ rw w.self-is (record {
        going = change_withdrawn file client tag old.changes _ c.withdraw.new.self c.withdraw.new.decisions.items _ now
            c.in_ok-withdraw.ensures.after (sym c.is_waiting.ensures ∙ w.if-is_waiting.true) w.withdraw-then-is_waiting.ensures
            (ap decisions w.in_ok-push.ensures.items ∙ map-append decision_of c.withdraw.new.decisions.items _);
        timers = refl;
      })
      | else-is_waiting w ↦ rw w.self-is (record {
        going = no_change_withdrawn file client tag old.changes c.withdraw.new.self c.withdraw.new.decisions.items now
            c.in_ok-withdraw.ensures.after (sym c.is_waiting.ensures ∙ w.if-is_waiting.false);
        timers = refl;
      })
    ] in
    let unlisted : IsUnlisted (c.if-is_waiting.self).listed = elim c.if-is_waiting.branch [
      | then-is_waiting+in_ok-push w ↦ rw w.self-is c.nothing.ensures
      | else-is_waiting w ↦ rw w.self-is c.nothing.ensures
    ] in
    on_ok_weaker c.finish_on.result (λ tried. handled_from (timers_of old.timers) None
    (listed c.file_waited_on-waited_on.result) start _ c.if-is_waiting.self c.finish_on.new.self tried so_far.going
    (same_tries None (listed c.file_waited_on-waited_on.result) (if_waiting file client tag (at file) (manager_of old.manager))
    (without (asks_as file client tag) old.changes) (record { manager = start.manager; told = start.told })
    (λ some. c.file_waited_on-waited_on.ensures.file (some_of (asks_as file client tag) old.changes some)))
    so_far.timers unlisted) c.finish_on.ensures.after

pub returns-clause-idle : goal.returns-clause-idle
returns-clause-idle c = λ idle none. c.finish_on.ensures.silent (c.file_waited_on-waited_on.ensures.idle idle)
    (elim c.if-is_waiting.branch [
      | then-is_waiting+in_ok-push w ↦ absurd (cc (sym w.if-is_waiting.true ∙ (c.is_waiting.ensures ∙ none)))
      | else-is_waiting w ↦ ap (λ (one : Managing). decisions one.decisions.items) w.self-is
          ∙ silent _ _ _ c.in_ok-withdraw.ensures.after
          (none_withdrawn (manager_of c.args.self.now.manager) c.args.file.0 c.args.client.0 c.args.tag.0 idle)
    ])
