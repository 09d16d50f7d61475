use Rattle.std.proofs.Common.{map, ◌∙◌, arith, ◌<◌, length}
use Rattle.capture_texts.proofs.Found.{zip_more, map_more}
use Rattle.capture_texts.specs.Captures.{moment_kept}
use Rattle.capture_texts.specs.Reports.{IsBelief, level_believed}
use Rattle.capture_texts.proofs.report.beliefs_by.Goals as goal

pub loop-index-preserved : goal.loop-index-preserved
loop-index-preserved c =
    let count = c.in_ok-levels.ensures.count in let test = c.loop-index-test.true
    in let inside : c.loop-index.index < length c.in_ok-levels.levels.items = omega (arith, count, test)
    in rw c.in_ok-push.ensures.items (record {
      each = zip_more (IsBelief (map moment_kept c.args.kept.now) c.args.chains.now) c.args.steps.now c.loop-index.beliefs.items
          c.loop-index.index _ c.in_ok-belief_at.field-0 c.loop-index-test.true c.loop-index.invariant.each
          c.in_ok-belief_at.ensures.is;
      levels = map_more level_believed c.loop-index.beliefs.items c.in_ok-levels.levels.items c.in_ok-belief_at.field-0
          c.loop-index.index _ inside c.loop-index.invariant.levels
          (c.in_ok-belief_at.ensures.level ∙ c.index.ensures);
    })
