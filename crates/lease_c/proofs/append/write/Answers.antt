use Rattle.std.proofs.Common.{◌≡◌, ◌-◌, ℕ, List, length, replicate, arith}
use Rattle.std.proofs.lemmas.List.{length-replicate}
use Rattle.byteorder.specs.Endian.{little_bytes}
use Rattle.lease_c.specs.Appended.{gap, put, next_place, context_bytes}
use Rattle.lease_c.proofs.Appended.{put_after, length_put}
use Rattle.lease_c.proofs.append.write.Goals as goal

-- the zeros and the context are one write
pub returns : goal.returns
returns c =
    let next : List ℕ = little_bytes 4 (next_place c.args.count - c.args.last) in
    let room : List ℕ = put c.args.last next c.args.room.now in
    let fits = c.requires.room in
    let before = c.requires.last in
    let same : length room ≡ length c.args.room.now = length_put c.args.last next c.args.room.now (omega (arith, fits, before)) in
    rw (c.put_context.ensures, c.put_zeros.ensures, c.put.ensures, c.next_bytes.ensures, c.gap-zeros.ensures.value)
    (put_after c.args.count (replicate (gap c.args.count) 0) (context_bytes c.args.name.now c.args.body.now) room
    (gap c.args.count) (length-replicate {A = ℕ} (gap c.args.count) 0) (omega (arith, fits, same)))
