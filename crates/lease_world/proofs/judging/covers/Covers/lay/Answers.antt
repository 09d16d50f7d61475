use Rattle.lease_laws.proofs.Words.{List, ℕ, ap, slice_index}
use Rattle.lease_world.specs.declared.judging.covers.Layer.{Layer}
use Rattle.lease_world.specs.judge.Covers.{stack_in}
use Rattle.lease_world.proofs.records.Covered.{lays_one}
use Rattle.lease_world.proofs.judging.covers.Covers.lay.Goals as goal

abbrev byte_in : ℕ → ℕ → List ℕ → Layer
byte_in number place bytes = record { number = number; byte = slice_index bytes place }

pub loop-place-preserved : goal.loop-place-preserved
loop-place-preserved c = λ n. lays_one c.args.patch.now.offset c.loop-place.place n c.args.number c.args.patch.now.bytes
    (byte_in c.args.number c.loop-place.place c.as_slice-bytes.result.now) (stack_in c.args.self.now n)
    (stack_in c.loop-place.self n)
    (stack_in c.cover.new.self n) (ap (byte_in c.args.number c.loop-place.place) c.as_slice-bytes.ensures)
    (c.in_ok-cover.ensures n) (c.loop-place.invariant n)
