use Rattle.lease_laws.proofs.Words.{Err}
use Rattle.std.proofs.lemmas.Result.{err_from_is_err_and}
use Rattle.leasecheck.proofs.Known.{of_any}
use Rattle.leasecheck.specs.Made.{AnswersTo}
use Rattle.leasecheck.proofs.printing.make.Goals as goal

pub returns-in_err-given-clause-answers : goal.returns-in_err-given-clause-answers
returns-in_err-given-clause-answers g c =
    let told = err_from_is_err_and c.from_residual.result c.from_residual.ensures.1 in
    rw (told.1, told.2) (of_any (g.I.Read.remaining c.args.input.now)
    (λ file. AnswersTo c.args.task.now file (Err c.in_err-given.field-0.0))
    (λ file. c.in_err-given.ensures.refused file))
