use Rattle.std.proofs.Common.{List, Option, subst, length, slice_index}
use Rattle.std.proofs.lemmas.Option.{slice_get_read}
use Rattle.capture_judge.specs.Charges.{IsNextDue}
use Rattle.capture_judge.specs.declared.charging.Due.{Due}
use Rattle.capture_judge.specs.declared.values.Change.{Change}
use Rattle.capture_judge.proofs.clashes.Dues.{none_left-start, step-skip, step-more, step-all}
use Rattle.capture_judge.proofs.charging.next_step.Goals as goal
use Rattle.capture_judge.proofs.charging.next_step.Goals.{in-Some, in_default}
use Rattle.std.proofs.Common.{refl}

pub loop-index-init : goal.loop-index-init
loop-index-init c = none_left-start c.args.chains.now c.args.came.now

pub loop-index-preserved : goal.loop-index-preserved
loop-index-preserved c =
    let at = slice_get_read _ _ _ _ refl c.loop-index-test.true c.index-chains-index.is
    in let due = subst (λ (changes : List Change). IsNextDue changes (slice_index c.args.came.now c.loop-index.index)
    (length changes) c.next_due.result) c.as_slice.ensures.value c.next_due.ensures
    in elim c.match-next_due.branch [
      | in-Some w ↦ rw (w.found-is, w.sooner.ensures)
          (step-more c.args.chains.now c.args.came.now c.loop-index.index c.loop-index.found c.index-chains-index.result
          w.in-Some.due at (subst (λ (o : Option Due). IsNextDue c.index-chains-index.result.changes.items
          (slice_index c.args.came.now c.loop-index.index) (length c.index-chains-index.result.changes.items) o) w.in-Some.is due)
          c.loop-index.invariant)
      | in_default w ↦ rw w.found-is
          (step-skip c.args.chains.now c.args.came.now c.loop-index.index c.loop-index.found c.index-chains-index.result
          at (subst (λ (o : Option Due). IsNextDue c.index-chains-index.result.changes.items
          (slice_index c.args.came.now c.loop-index.index) (length c.index-chains-index.result.changes.items) o)
          w.in_default.is due)
          c.loop-index.invariant)
    ]

pub returns : goal.returns
returns c = step-all c.args.chains.now c.args.came.now c.loop-index.index c.loop-index.found c.loop-index-test.false
    c.loop-index.invariant
