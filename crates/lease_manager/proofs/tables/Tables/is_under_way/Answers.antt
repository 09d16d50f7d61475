use Rattle.lease_laws.proofs.Words.{◌∙◌, ◌≡◌, ap, arith, has_key, is_breaking, is_left_open, length, list_any, not, sym}
use Rattle.std.specs.Vec.{vec_len}
use Rattle.lease_manager.specs.OneFile.{on_file}
use Rattle.lease_manager.specs.Table.{server_of}
use Rattle.lease_manager.specs.contracts.tables.Tables.{the_view}
use Rattle.lease_manager.proofs.waits.Counted.{none_left, both_so, second_not}
use Rattle.lease_manager.proofs.tables.Tables.is_under_way.Goals as goal

pub returns-then-is_empty : goal.returns-then-is_empty
returns-then-is_empty c =
    let many : vec_len c.in_ok-left.left ≡ length c.in_ok-left.left.items = omega arith in
    both_so _ _ _ c.is_at_home.result
    (ap is_breaking (sym c.lease.ensures) ∙ (sym c.is_breaking.ensures ∙ c.if-not-is_breaking.false)) (rw (← c.self.view_is)
    (sym (none_left (is_left_open c.args.key) c.self.inside.opens c.in_ok-left.left.items c.in_ok-left.ensures.ids)
    ∙ rw many at (sym c.is_empty.ensures ∙ c.if-is_empty.true))) c.is_at_home.ensures

pub returns : goal.returns
returns c =
    let table = the_view c.self.inside in
    let many : vec_len c.in_ok-left.left ≡ length c.in_ok-left.left.items = omega arith in
    rw (← c.self.view_is) (second_not (is_breaking ((server_of table).leases c.args.key))
    (not (list_any (is_left_open c.args.key) c.self.inside.opens))
    (list_any (has_key c.args.key) (on_file c.args.file.0 c.self.inside.opens))
    (sym (none_left (is_left_open c.args.key) c.self.inside.opens c.in_ok-left.left.items c.in_ok-left.ensures.ids)
    ∙ rw many at (sym c.is_empty.ensures ∙ c.if-is_empty.false)))
