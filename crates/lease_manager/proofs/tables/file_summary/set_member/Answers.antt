use Rattle.lease_laws.proofs.Words.{arith}
use Rattle.lease_manager.proofs.sums.Ordering.{order_eq-back}
use Rattle.lease_manager.proofs.tables.file_summary.set_member.Goals as goal

pub returns-in_ok-insert : goal.returns-in_ok-insert
returns-in_ok-insert c = λ other.
    let now = c.in_ok-insert.ensures.updates.0 other in
    let same = order_eq-back c.args.key other in
    let yes = c.if-is_one.true in
    grind (arith, now, same, yes)

pub returns-else-is_one : goal.returns-else-is_one
returns-else-is_one c = λ other.
    let now = c.remove.ensures.updates.0 other in
    let same = order_eq-back c.args.key other in
    let no = c.if-is_one.false in
    grind (arith, now, same, no)
