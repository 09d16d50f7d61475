use Rattle.capture_walk.proofs.Shares.{unit_next}
use Rattle.capture_walk.proofs.files.share_of.Goals as goal

pub loop-rest-preserved : goal.loop-rest-preserved
loop-rest-preserved c =
    unit_next c.args.path.now c.loop-rest.share.now c.loop-rest.rest.now c.behind_unit-share.result.now
    c.in-len2-up.len_at_least c.behind_unit-share.ensures c.loop-rest.invariant
