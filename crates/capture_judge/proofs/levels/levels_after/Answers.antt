use Rattle.std.proofs.Common.{arith, ap, sym, ◌∙◌, length, reverse, take, subst, slice_index_or}
use Rattle.std.proofs.lemmas.List.{length_push}
use Rattle.capture_judge.specs.Levels.{HaveCome}
use Rattle.capture_judge.proofs.verdicts.Heights.{come-more, levels-more, level-after}
use Rattle.capture_judge.proofs.levels.levels_after.Goals as goal

pub level_after-requires : goal.level_after-requires
level_after-requires c = ap length c.as_slice.ensures.value
    ∙ (c.note_step.ensures c.args.chains.now (reverse (take c.loop-step.step-index c.args.steps.now)) c.loop-step.invariant.come).count

pub loop-step-preserved : goal.loop-step-preserved
loop-step-preserved c =
    let come = c.note_step.ensures c.args.chains.now (reverse (take c.loop-step.step-index c.args.steps.now)) c.loop-step.invariant.come
    in record {
      come = come-more c.args.chains.now c.args.steps.now c.loop-step.step-index _ c.note_step.new.came.items c.loop-step-test.true come;
      levels = levels-more c.args.chains.now c.args.steps.now c.loop-step.step-index _ c.loop-step.levels.items c.push.new.self.items
          c.level_after.result c.loop-step-test.true c.in_ok-push.ensures.items
          (level-after c.args.chains.now _ c.as_slice.result.now
          (slice_index_or c.args.steps.now c.loop-step.step-index (record { position = 0; chain = 0; change = 0 }))
          c.level_after.result
          (subst (HaveCome c.args.chains.now _) (sym c.as_slice.ensures.value) come) c.level_after.ensures)
          c.loop-step.invariant.levels;
      count = let more = ap length c.in_ok-push.ensures.items ∙ length_push c.loop-step.levels.items c.level_after.result
          in let count = c.loop-step.invariant.count in omega (arith, more, count);
    }
