use Rattle.lease_world.proofs.worlds.First.{fit_one_more, all_fit}
use Rattle.lease_world.proofs.setup.do_fit.Goals as goal

pub loop-place-preserved : goal.loop-place-preserved
loop-place-preserved c = fit_one_more c.args.files.now c.loop-place.place c.index-files-place.result
    c.loop-place-test.true c.loop-place.invariant (rw c.index-files-place.is at c.bytes-bytes.ensures.within)

pub returns : goal.returns
returns c = all_fit c.args.files.now c.loop-place.place c.loop-place-test.false c.loop-place.invariant
