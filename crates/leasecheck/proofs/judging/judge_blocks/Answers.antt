use Rattle.lease_laws.proofs.Words.{◌++◌, ℕ, arith, length-take, subst, take}
use Rattle.std.specs.Io.KnownBytes.{Consumes}
use Rattle.leasecheck.specs.Judging.{JudgesText}
use Rattle.std.proofs.lemmas.Result.{err_from_is_err_and}
use Rattle.leasecheck.proofs.Judged.{unread_ends}
use Rattle.leasecheck.proofs.Rounds.{begins, goes_on, stops, ends, runs_out}
use Rattle.leasecheck.proofs.judging.judge_blocks.Goals as goal

pub loop-round-init : goal.loop-round-init
loop-round-init g c =
    begins (g.I.Read.remaining c.args.input.now) c.new-progress.result c.new-begun.result.items c.new-progress.ensures
    c.new-begun.ensures.items

pub loop-round-preserved : goal.loop-round-preserved
loop-round-preserved g c =
    goes_on (g.I.Read.remaining c.args.input.now) _ (g.I.Read.remaining c.read_block.new.input) c.loop-round.progress c.in-Ok.next
    c.loop-round.begun.items c.take_block.new.begun.items _ c.loop-round._round c.loop-round.invariant c.in_ok-count.ensures.bytes
    (omega (arith, c.in_ok-count.ensures.fits, length-take {A = ℕ}, c.if-count-eq0.false)) c.in-Ok.ensures

pub returns-in-Err : goal.returns-in-Err
returns-in-Err g c =
    stops (g.I.Read.remaining c.args.input.now) _ (g.I.Read.remaining c.read_block.new.input) c.loop-round.progress
    c.in-Err.refusal
    c.loop-round.begun.items c.take_block.new.begun.items _ c.loop-round._round c.loop-round.invariant c.in_ok-count.ensures.bytes
    c.in-Err.ensures

pub returns-then-count-eq0 : goal.returns-then-count-eq0
returns-then-count-eq0 g c =
    let new = g.I.Read.remaining c.read_block.new.input in
    ends (g.I.Read.remaining c.args.input.now) _ new c.loop-round.progress c.loop-round.begun.items c.loop-round._round
    c.end.result
    c.loop-round.invariant (subst (λ n. Consumes (g.I.Read.remaining c.loop-round.input) new (take n c.read_block.new.block))
    c.if-count-eq0.true c.in_ok-count.ensures.bytes) (c.in_ok-count.ensures.end c.if-count-eq0.true)
    (λ text has. subst (λ t. JudgesText (text ++ t) c.end.result) c.as_slice.ensures.value (c.end.ensures text has))

pub returns : goal.returns
returns g c = runs_out (g.I.Read.remaining c.args.input.now) _ c.loop-round.progress c.loop-round.begun.items c.loop-round._round
    c.loop-round.invariant (omega (arith, c.loop-round-test.false))

pub returns-in_err-count : goal.returns-in_err-count
returns-in_err-count g c =
    let told = err_from_is_err_and c.from_residual.result c.from_residual.ensures.1 in
    rw (told.1, told.2)
    (unread_ends (g.I.Read.remaining c.args.input.now) c.in_err-count.field-0.0 c.in_err-count.ensures.failed)
