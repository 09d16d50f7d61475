use Rattle.lease_laws.proofs.Words.{rules, subst, sym}
use Rattle.lease_world.specs.judge.Marks.{Mark, IsEarlier}
use Rattle.lease_world.proofs.records.Marks.{mark_before}
use Rattle.lease_world.proofs.judging.marks.last_before.Goals as goal

pub returns-then-mark-place : goal.returns-then-mark-place
returns-then-mark-place c = λ first changes all.
    subst (λ (mark : Mark). IsEarlier first changes c.args.place mark.snapshot) (sym c.mark.view_is)
    (mark_before first changes c.args.place c.in_ok-mark.mark.now (search rules) (search rules))
