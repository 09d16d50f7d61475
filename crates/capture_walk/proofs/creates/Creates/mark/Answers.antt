use Rattle.std.proofs.Common.{ap, arith, length}
use Rattle.std.proofs.lemmas.List.{get_or_default}
use Rattle.std.proofs.lemmas.List.Edits.{map_over_more}
use Rattle.capture_walk.proofs.creates.Creates.mark.Goals as goal

pub loop-one-preserved : goal.loop-one-preserved
loop-one-preserved c =
    let same = ap length c.deref_mut-one-items.ensures.value in
    rw c.mark.ensures
    (map_over_more _ _ _ _ _ (omega (arith, same)) c.loop-one.invariant (get_or_default c.loop-one.one-items
    c.loop-one.one-index _ _ (omega arith)))
