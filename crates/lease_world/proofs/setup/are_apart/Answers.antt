use Rattle.lease_laws.proofs.Words.{◌+◌, sym}
use Rattle.lease_world.proofs.worlds.First.{to_the_end, not_apart, still_apart, all_apart}
use Rattle.lease_world.proofs.setup.are_apart.Goals as goal

pub returns-then-has_guid : goal.returns-then-has_guid
returns-then-has_guid c = not_apart c.args.guids.now c.loop-place.place _ c.loop-place-test.true c.loop-place.invariant
    (rw (to_the_end c.args.guids.now (c.loop-place.place + 1)) at (sym c.if-has_guid.ensures))

pub loop-place-preserved : goal.loop-place-preserved
loop-place-preserved c = still_apart c.args.guids.now c.loop-place.place _ c.loop-place-test.true c.loop-place.invariant
    (rw (to_the_end c.args.guids.now (c.loop-place.place + 1)) at (sym c.if-has_guid.ensures))

pub returns : goal.returns
returns c = all_apart c.args.guids.now c.loop-place.place c.loop-place-test.false c.loop-place.invariant
