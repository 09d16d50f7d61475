use Rattle.lease_laws.proofs.Words.{rules}
use Rattle.std.proofs.lemmas.List.Elements.{All-push}
use Rattle.lease_world.specs.judge.Marks.{IsMark}
use Rattle.lease_world.proofs.records.Marks.{mark_more}
use Rattle.lease_world.proofs.judging.marks.leave_marks.Goals as goal

pub loop-front-preserved-in_ok-push : goal.loop-front-preserved-in_ok-push
loop-front-preserved-in_ok-push c = λ first last all.
    let kept = c.loop-front.invariant first last all in
    let more = mark_more first c.args.changes.now c.loop-front.front c.index-changes-applied.result (search rules) (search rules)
    kept.0 in (
      rw c.in_ok-put.ensures more,
      rw c.in_ok-push.ensures.items
          (All-push (IsMark first c.args.changes.now) c.loop-front.marks.items c.in_ok-try_copy.field-0 kept.1 (search rules)),
    )

pub loop-front-preserved : goal.loop-front-preserved
loop-front-preserved c = λ first last all.
    let kept = c.loop-front.invariant first last all in (
      rw c.in_ok-put.ensures (mark_more first c.args.changes.now c.loop-front.front c.index-changes-applied.result (search rules)
          (search rules) kept.0),
      kept.1,
    )
