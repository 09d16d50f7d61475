use Rattle.lease_laws.proofs.Words.{Err, inl}
use Rattle.std.proofs.lemmas.Result.{err_from_is_err_and}
use Rattle.leasecheck.proofs.Known.{of_any}
use Rattle.leasecheck.specs.Judging.{JudgesText}
use Rattle.leasecheck.proofs.judging.judge_text.Goals as goal

pub returns-in_err-block : goal.returns-in_err-block
returns-in_err-block g c =
    let told = err_from_is_err_and c.from_residual.result c.from_residual.ensures.1 in
    rw told.1 (of_any (g.I.Read.remaining c.args.input.now) (λ text. JudgesText text (Err told.0)) (λ text. inl told.2))
