use Rattle.lease_laws.proofs.Words.{◌≡◌, drop, filter}
use Rattle.lease_manager.specs.Outs.{decisions, handling_of}
use Rattle.waiting_changes.specs.Changes.{asked_for_all, is_on}
use Rattle.waiting_changes.proofs.trying.ask_again.Given as goal

abbrev pub invariant-loop-one : goal.invariant-loop-one
invariant-loop-one l = asked_for_all (filter (is_on l.file.0) (drop l.one-index l.changes))
    (handling_of l.manager (decisions l.decisions.items))
    ≡ asked_for_all (filter (is_on l.file.0) l.changes) (handling_of l.fn.manager (decisions l.fn.decisions.items))
