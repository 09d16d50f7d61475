use Rattle.std.proofs.Common.{refl, sym, ◌∙◌, ◌+◌, ◌<◌, ap, arith, subst, length}
use Rattle.std.proofs.lemmas.Option.{slice_get_read, slice_get-get_or}
use Rattle.capture_judge.specs.Levels.{IsHighest}
use Rattle.capture_judge.specs.Placing.{height}
use Rattle.capture_judge.proofs.verdicts.Heights.{higher, highest-skip, highest-more}
use Rattle.capture_judge.proofs.levels.highest.Goals as goal
use Rattle.capture_judge.proofs.levels.highest.Goals.{then-chain-client, else-chain-client}

pub loop-index-preserved : goal.loop-index-preserved
loop-index-preserved c =
    let at = slice_get_read _ _ _ _ refl c.loop-index-test.true c.index-chains-index.is
    in elim c.if-chain-client.branch as (λ _. IsHighest c.args.chains.now c.args.came.now c.args.client
    (c.loop-index.index + 1) (height c.if-chain-client.level)) [
      | then-chain-client w ↦
          let count = c.requires in let less = c.loop-index-test.true
          in let inside : c.loop-index.index < length c.args.came.now = omega (arith, count, less)
          in let more = highest-more c.args.chains.now c.args.came.now c.args.client c.loop-index.index
          (height c.loop-index.level)
          c.index-chains-index.result _ at (slice_get-get_or _ _ _ inside) w.if-chain-client.true c.loop-index.invariant
          in subst (IsHighest c.args.chains.now c.args.came.now c.args.client (c.loop-index.index + 1))
          (ap (higher (height c.loop-index.level)) (sym w.level_by.ensures)
          ∙ (sym w.higher-level.ensures ∙ sym (ap height w.level-is)))
          more
      | else-chain-client w ↦ rw w.level-is
          (highest-skip c.args.chains.now c.args.came.now c.args.client c.loop-index.index _ c.index-chains-index.result at
          w.if-chain-client.false c.loop-index.invariant)
    ]
