use Rattle.std.proofs.Common.{◌+◌, sym, ◌∙◌}
use Rattle.{lease_texts.specs.Schedules.with_line, lease_texts.specs.Drafts.draft_of, lease_texts.proofs.Cut.nothing_left}
use Rattle.lease_texts.proofs.schedule.read_schedule.Goals as goal

pub returns : goal.returns
returns c = nothing_left with_line (c.loop-rest.number + 1) (draft_of c.loop-rest.schedule) c.loop-rest.rest.now _
    (sym c.is_empty.ensures ∙ c.loop-rest-test.false) c.loop-rest.invariant.whole
