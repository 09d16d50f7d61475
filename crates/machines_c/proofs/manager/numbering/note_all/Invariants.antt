use Rattle.lease_laws.proofs.Words.{◌++◌, ◌≡◌, drop, map}
use Rattle.break_timers.specs.Numbering.{noted_all, numbers_told}
use Rattle.break_timers.specs.Timers.{timers_of}
use Rattle.lease_manager.specs.Outs.{decisions}
use Rattle.machines_c.specs.manager.Fields.{number_field}
use Rattle.machines_c.proofs.manager.numbering.note_all.Given as goal

-- What comes of the decisions that are left is what comes of all of them.
abbrev pub invariant-loop-decision : goal.invariant-loop-decision
invariant-loop-decision l =
    (noted_all (decisions (drop l.decision-index l.told)) (timers_of l.timers)
    ≡ noted_all (decisions l.told) (timers_of l.fn.timers))
    × (l.numbers.items ++ map number_field (numbers_told (decisions (drop l.decision-index l.told)) (timers_of l.timers))
    ≡ l.fn.numbers.items ++ map number_field (numbers_told (decisions l.told) (timers_of l.fn.timers)))
