use Rattle.std.proofs.Common.{◌≡◌, ◌++◌, drop}
use Rattle.capture_texts.specs.Reports.{epochs}
use Rattle.capture_texts.proofs.report.epochs_in.Given as goal

-- what is left gives the whole
abbrev pub invariant-loop-event : goal.invariant-loop-event
invariant-loop-event l = l.found.items ++ epochs (drop l.event-index l.events) ≡ epochs l.events
