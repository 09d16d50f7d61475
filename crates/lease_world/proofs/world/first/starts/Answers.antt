use Rattle.lease_laws.proofs.Words.{◌∙◌, map-append, refl}
use Rattle.lease_facts.specs.Facts.{fact_of}
use Rattle.lease_world.proofs.worlds.First.{one_more_start, all_starts}
use Rattle.lease_world.proofs.world.first.starts.Goals as goal

pub loop-place-preserved : goal.loop-place-preserved
loop-place-preserved c = rw (
  c.in_ok-push.ensures.items,
  map-append fact_of c.loop-place.facts.items _,
  c.loop-place.invariant,
  one_more_start c.args.files.now c.loop-place.place c.index-files-place.result c.loop-place-test.true,
  c.new-bytes.ensures,
  c.in_ok-from_slice.ensures.items,
  c.bytes.ensures.list,
  ← c.index-files-place.is,
) refl

pub returns : goal.returns
returns c = c.loop-place.invariant ∙ all_starts c.args.files.now c.loop-place.place c.loop-place-test.false
