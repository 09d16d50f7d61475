use Rattle.lease_laws.proofs.Words.{arith}
use Rattle.lease_manager.proofs.sums.Ordering.{order_eq-back}
use Rattle.lease_manager.proofs.tables.file_summary.FileSummary.lose_key.Goals as goal

pub returns-then-last-clause-keys : goal.returns-then-last-clause-keys
returns-then-last-clause-keys c = λ other.
    let now = c.remove.ensures.updates.0 other in
    let same = order_eq-back c.args.key other in
    let yes = c.if-last.true in
    grind (arith, now, same, yes)

pub returns-then-last-clause-writers : goal.returns-then-last-clause-writers
returns-then-last-clause-writers c = λ other.
    let now = c.remove-then-last.ensures.updates.0 other in
    let same = order_eq-back c.args.key other in
    let yes = c.if-last.true in
    grind (arith, now, same, yes)

pub returns-then-last-clause-handlers : goal.returns-then-last-clause-handlers
returns-then-last-clause-handlers c = λ other.
    let now = c.remove-then-last-2.ensures.updates.0 other in
    let same = order_eq-back c.args.key other in
    let yes = c.if-last.true in
    grind (arith, now, same, yes)

pub returns-then-last-clause-breaking : goal.returns-then-last-clause-breaking
returns-then-last-clause-breaking c = λ other.
    let now = c.remove-then-last-3.ensures.updates.0 other in
    let same = order_eq-back c.args.key other in
    let yes = c.if-last.true in
    grind (arith, now, same, yes)

pub returns-then-last-clause-harmless : goal.returns-then-last-clause-harmless
returns-then-last-clause-harmless c = λ other.
    let now = c.remove-then-last-4.ensures.updates.0 other in
    let same = order_eq-back c.args.key other in
    let yes = c.if-last.true in
    grind (arith, now, same, yes)
