use Rattle.lease_laws.proofs.Words.{◌++◌, subst}
use Rattle.std.proofs.lemmas.Result.{err_from_is_err_and}
use Rattle.leasecheck.specs.Refusals.{Puts, failure_line, second_of}
use Rattle.leasecheck.proofs.Puts.{begins_longer, puts_behind}
use Rattle.leasecheck.proofs.printing.tell_refusal.Goals as goal

pub returns-in_err-tell_failure-clause-told : goal.returns-in_err-tell_failure-clause-told
returns-in_err-tell_failure-clause-told g c =
    let failed = err_from_is_err_and c.from_residual.result c.from_residual.ensures.1 in
    rw failed.1 (begins_longer (g.F.Write.contents c.args.faults.now) (g.F.Write.contents c.tell_failure.new.faults)
    (failure_line c.args.refusal.now.failure) (second_of c.args.refusal.now) c.in_err-tell_failure.ensures.told)

pub returns-clause-told : goal.returns-clause-told
returns-clause-told g c = subst (λ t. Puts (g.F.Write.contents c.args.faults.now) (g.F.Write.contents c.put.new.out)
    (failure_line c.args.refusal.now.failure ++ t) c.put.result) c.second_bytes.ensures
    (puts_behind _ _ _ (failure_line c.args.refusal.now.failure) c.second_bytes.result.now c.put.result
    c.in_ok-tell_failure.ensures.told c.put.ensures.put)
