use Rattle.std.proofs.Common.{◌≡◌, drop}
use Rattle.capture_texts.specs.Reports.{losses_behind, losses}
use Rattle.capture_texts.proofs.report.losses_in.Given as goal

-- what is left gives the whole
abbrev pub invariant-loop-event : goal.invariant-loop-event
invariant-loop-event l = losses_behind l.found.items (drop l.event-index l.events) ≡ losses l.events
