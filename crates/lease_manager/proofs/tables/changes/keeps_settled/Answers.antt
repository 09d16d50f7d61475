use Rattle.lease_laws.proofs.Words.{◌∙◌, ◌≡◌, arith, is_left_open, length, sym}
use Rattle.std.specs.Vec.{vec_len}
use Rattle.lease_laws.proofs.server.Lists.{not_parts}
use Rattle.lease_manager.proofs.waits.Counted.{none_left}
use Rattle.lease_manager.proofs.tables.changes.keeps_settled.Goals as goal

pub returns-in-Ok-clause-none : goal.returns-in-Ok-clause-none
returns-in-Ok-clause-none c = λ yes breaks.
    let many : vec_len c.in-Ok.left ≡ length c.in-Ok.left.items = omega arith in
    not_parts _ (sym (none_left (is_left_open c.args.key) c.args.opens.now c.in-Ok.left.items c.in-Ok.ensures.ids)
    ∙ rw many at (sym c.is_empty.ensures ∙ yes))
