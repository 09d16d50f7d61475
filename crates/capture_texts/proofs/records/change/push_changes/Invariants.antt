use Rattle.std.proofs.Common.{◌≡◌, ◌++◌, map, drop}
use Rattle.capture_texts.specs.records.Changes.{shown, changes_in}
use Rattle.capture_texts.proofs.records.change.push_changes.Given as goal

abbrev pub invariant-loop-belief : goal.invariant-loop-belief
invariant-loop-belief l = map shown l.changes.items ++ changes_in l.clients l.file l.finding l.belief (drop l.belief l.beliefs)
    ≡ map shown l.initial.changes.items ++ changes_in l.clients l.file l.finding 0 l.beliefs
