use Rattle.std.proofs.Common.{sym, ◌∙◌}
use Rattle.leasecheck.proofs.IdleLines.{none_left}
use Rattle.leasecheck.proofs.idle.event_lines.Goals as goal

pub returns : goal.returns
returns c = none_left c.loop-rest.lines.items c.loop-rest.number c.loop-rest.rest.now _
    (sym c.is_empty.ensures ∙ c.loop-rest-test.false) c.loop-rest.invariant.whole
