use Rattle.std.proofs.Common.{sym, ◌∙◌}
use Rattle.leasecheck.specs.Idle.{idle_line}
use Rattle.leasecheck.proofs.IdleLines.{all_before, all_behind, later_before, later_behind, passed_before, passed_behind}
use Rattle.leasecheck.proofs.idle.push_idle_before.Goals as goal

pub loop-left-preserved : goal.loop-left-preserved
loop-left-preserved c = record {
  told = passed_before (idle_line c.args.lines.now) c.args.count c.loop-left.left.now _ _ _ _
      (sym c.is_empty.ensures ∙ c.loop-left-test.true) c.if-count-left.false c.in_ok-push_idle.ensures c.loop-left.invariant.told;
  behind = passed_behind c.args.count c.loop-left.left.now _ _ (sym c.is_empty.ensures ∙ c.loop-left-test.true)
      c.if-count-left.false c.loop-left.invariant.behind;
}

pub returns-clause-lines : goal.returns-clause-lines
returns-clause-lines c = all_before (idle_line c.args.lines.now) c.args.count c.loop-left.left.now _ _
    (sym c.is_empty.ensures ∙ c.loop-left-test.false) c.loop-left.invariant.told

pub returns-clause-behind : goal.returns-clause-behind
returns-clause-behind c = all_behind c.args.count c.loop-left.left.now _ (sym c.is_empty.ensures ∙ c.loop-left-test.false)
    c.loop-left.invariant.behind

pub returns-then-count-left-clause-lines : goal.returns-then-count-left-clause-lines
returns-then-count-left-clause-lines c = later_before (idle_line c.args.lines.now) c.args.count c.loop-left.left.now _ _ _
    (sym c.is_empty.ensures ∙ c.loop-left-test.true) c.if-count-left.true c.loop-left.invariant.told

pub returns-then-count-left-clause-behind : goal.returns-then-count-left-clause-behind
returns-then-count-left-clause-behind c = later_behind c.args.count c.loop-left.left.now _ _
    (sym c.is_empty.ensures ∙ c.loop-left-test.true) c.if-count-left.true c.loop-left.invariant.behind
