use Rattle.std.proofs.Common.{◌≡◌, ◌+◌, ◌≤◌, length}
use Rattle.lease_texts.specs.{Pieces.lines_of, Reading.reads_on, Schedules.with_line, Schedules.schedule_in, Drafts.draft_of}
use Rattle.lease_texts.proofs.schedule.read_schedule.Given as goal

-- what is left gives the whole
abbrev pub invariant-loop-rest : goal.invariant-loop-rest
invariant-loop-rest l = record {
  whole : reads_on with_line (l.number + 1) (draft_of l.schedule) (lines_of l.rest) ≡ schedule_in l.text;
  counted : l.number + length l.rest ≤ length l.text;
}

abbrev pub decreases-loop-rest : goal.decreases-loop-rest
decreases-loop-rest l = length l.rest
