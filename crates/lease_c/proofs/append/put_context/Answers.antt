use Rattle.std.proofs.Common.{ℕ, List, length, arith}
use Rattle.lease_c.specs.Appended.{gap, header_bytes}
use Rattle.lease_c.proofs.Appended.{put_parts}
use Rattle.lease_c.proofs.append.put_context.Goals as goal

-- the four writes are one
pub returns : goal.returns
returns c =
    let head : List ℕ = header_bytes (length c.args.name.now) (length c.args.body.now) in
    let fits = c.requires.room in
    rw (c.put-3.ensures, c.put_zeros.ensures, c.put-2.ensures, c.put.ensures, c.header.ensures, c.gap-zeros.ensures.value)
    (put_parts c.args.place head c.args.name.now (gap (length c.args.name.now)) c.args.body.now c.args.room.now
    (omega (arith, fits)))
