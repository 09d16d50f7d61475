use Rattle.lease_laws.proofs.Words.{arith}
use Rattle.lease_manager.proofs.sums.Ordering.{order_eq-back}
use Rattle.lease_manager.proofs.tables.file_summary.FileSummary.gain_key.Goals as goal

pub returns-clause-keys : goal.returns-clause-keys
returns-clause-keys c = λ other.
    let now = c.in_ok-insert.ensures.updates.0 other in
    let same = order_eq-back c.args.key other in
    let kept = c.in_ok-mark.ensures.keys in
    rw kept (grind (arith, now, same))
