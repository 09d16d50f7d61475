use Rattle.lease_laws.proofs.Words.{refl}
use Rattle.lease_world.proofs.worlds.First.{one_more_new, all_new}
use Rattle.lease_world.proofs.world.first.seats.Goals as goal

pub loop-place-init : goal.loop-place-init
loop-place-init c = rw c.new-seats.ensures.items tt

pub loop-place-preserved : goal.loop-place-preserved
loop-place-preserved c = rw c.in_ok-push.ensures.items
    (one_more_new c.args.files c.args.guids.now c.loop-place.place _ c.loop-place.seats.items c.new-in-loop-place.result
    c.loop-place-test.true c.loop-place.invariant record {
      guid = rw c.new-in-loop-place.ensures refl;
      full = c.told-guids c.loop-place.place c.loop-place-test.true;
      client = rw c.new-in-loop-place.ensures c.in_ok-client.ensures.new;
      link = rw c.new-in-loop-place.ensures refl;
      requests = rw c.new-in-loop-place.ensures refl;
      replies = rw c.new-in-loop-place.ensures refl;
    })

pub returns : goal.returns
returns c = all_new c.args.files c.args.guids.now c.loop-place.place c.loop-place.seats.items c.loop-place-test.false
    c.loop-place.invariant
