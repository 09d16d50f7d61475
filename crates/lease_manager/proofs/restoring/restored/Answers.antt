use Rattle.lease_laws.proofs.Words.{◌∙◌, arith, subst, sym, take_all}
use Rattle.lease_manager.proofs.opens.Restoring.{IsSoFar, all_made, err_so, is_manager, may_all, more_so_far, none_so_far}
use Rattle.lease_manager.proofs.opens.Restoring.{refused_at}
use Rattle.lease_manager.proofs.opens.Restoring.{unbroken_so}
use Rattle.lease_manager.proofs.restoring.restored.Goals as goal

pub loop-one-init : goal.loop-one-init
loop-one-init c = none_so_far c.args.rules c.args.files.0 c.args.last.0 c.first_tables-tables.result
    c.first_tables-tables.ensures.first

pub restore-requires : goal.restore-requires
restore-requires c = record {
  unbroken = unbroken_so c.args.rules c.args.files.0 c.args.last.0 c.loop-one.tables _ c.loop-one.invariant;
}

pub returns-in_err-restore-clause-refused : goal.returns-in_err-restore-clause-refused
returns-in_err-restore-clause-refused c = err_so _ _ c.from_residual.result c.from_residual.ensures.1
    (λ made is unlawful. refused_at c.args.rules c.args.files.0 c.args.last.0 c.loop-one.tables c.args.kept.now
    c.loop-one.one-index _ c.loop-one-test.true c.loop-one.invariant (c.in_err-restore.ensures.refused (sym is ∙ unlawful)))

pub loop-one-preserved : goal.loop-one-preserved
loop-one-preserved c = more_so_far c.args.rules c.args.files.0 c.args.last.0 c.loop-one.tables c.restore.new.self
    c.args.kept.now c.loop-one.one-index _ c.loop-one-test.true c.loop-one.invariant c.in_ok-restore.ensures.fits
    c.in_ok-restore.ensures.kept c.in_ok-restore.ensures.queues

pub returns-clause-may : goal.returns-clause-may
returns-clause-may c = may_all c.args.rules c.args.files.0 c.args.last.0 c.loop-one.tables c.args.kept.now
    (subst (λ kept. IsSoFar c.args.rules c.args.files.0 c.args.last.0 c.loop-one.tables kept)
    (take_all c.loop-one.one-index c.args.kept.now (omega (arith, c.loop-one-test.false))) c.loop-one.invariant)

pub returns-clause-lawful : goal.returns-clause-lawful
returns-clause-lawful c =
    let so = subst (λ kept. IsSoFar c.args.rules c.args.files.0 c.args.last.0 c.loop-one.tables kept)
    (take_all c.loop-one.one-index c.args.kept.now (omega (arith, c.loop-one-test.false))) c.loop-one.invariant in
    is_manager c.args.rules c.args.files.0 c.args.last.0 c.raise_last_id.new.self c.args.kept.now
    (may_all c.args.rules c.args.files.0 c.args.last.0 c.loop-one.tables c.args.kept.now so)
    (all_made c.args.rules c.args.files.0 c.args.last.0 c.loop-one.tables c.raise_last_id.new.self c.args.kept.now so
    c.raise_last_id.ensures.changed c.raise_last_id.ensures.queues)
