use Rattle.lease_laws.proofs.Words.{◌∙◌, arith, inr, refl, subst, sym}
use Rattle.lease_lines.specs.Tables.{machines_of}
use Rattle.leasecheck.specs.Conversing.{GivesLine}
use Rattle.leasecheck.proofs.Spoken.{begins, goes_on, ends, stops, breaks_off, none_left, runs_out, some_left}
use Rattle.leasecheck.proofs.conversing.converse.Goals as goal

pub loop-number-init : goal.loop-number-init
loop-number-init g c = begins (g.I.Read.remaining c.args.input.now) (g.O.Write.contents c.args.out.now)
    (g.F.Write.contents c.args.faults.now) (machines_of c.args.machines)

pub returns-in-Err-clause-answered : goal.returns-in-Err-clause-answered
returns-in-Err-clause-answered g c =
    stops _ (g.I.Read.remaining c.args.input.now) _ (machines_of c.args.machines) _ c.loop-number.number
    (g.O.Write.contents c.args.out.now) _ (g.F.Write.contents c.args.faults.now) _ c.in-Err.failure c.loop-number.invariant

pub returns-then-is_empty-clause-answered : goal.returns-then-is_empty-clause-answered
returns-then-is_empty-clause-answered g c =
    let old = g.I.Read.remaining c.loop-number.input in
    let new = g.I.Read.remaining c.next_bytes.new.input in
    ends (g.I.Read.remaining c.args.input.now) old new (machines_of c.args.machines) _ c.loop-number.number
    (g.O.Write.contents c.args.out.now) _ (g.F.Write.contents c.args.faults.now) _ c.as_slice-text.result.now _
    c.loop-number.invariant
    (subst (λ bytes. GivesLine old new bytes) (sym c.as_slice-text.ensures.value) c.in-Ok.ensures.given)
    (none_left c.as_slice-text.result.now (sym c.is_empty.ensures ∙ c.if-is_empty.true))

pub returns-in-Err-answer_line-clause-answered : goal.returns-in-Err-answer_line-clause-answered
returns-in-Err-answer_line-clause-answered g c =
    let old = g.I.Read.remaining c.loop-number.input in
    let new = g.I.Read.remaining c.next_bytes.new.input in
    breaks_off _ (g.I.Read.remaining c.args.input.now) old new (machines_of c.args.machines) _ c.loop-number.number
    (g.O.Write.contents c.args.out.now) _ _ (g.F.Write.contents c.args.faults.now) _ _ c.as_slice-text.result.now
    c.first_line.result.0.now c.first_line.result.1.now
    c.in-Err-answer_line.failure c.loop-number.invariant
    (subst (λ bytes. GivesLine old new bytes) (sym c.as_slice-text.ensures.value) c.in-Ok.ensures.given)
    (some_left c.as_slice-text.result.now (sym c.is_empty.ensures ∙ c.if-is_empty.false)) c.first_line.ensures.lines
    c.in-Err-answer_line.ensures.answered

pub loop-number-preserved : goal.loop-number-preserved
loop-number-preserved g c =
    let old = g.I.Read.remaining c.loop-number.input in
    let new = g.I.Read.remaining c.next_bytes.new.input in
    goes_on (g.I.Read.remaining c.args.input.now) old new (machines_of c.args.machines) _ _ c.loop-number.number
    (g.O.Write.contents c.args.out.now) _ _ (g.F.Write.contents c.args.faults.now) _ _ c.as_slice-text.result.now
    c.first_line.result.0.now c.first_line.result.1.now
    c.loop-number.invariant (subst (λ bytes. GivesLine old new bytes) (sym c.as_slice-text.ensures.value) c.in-Ok.ensures.given)
    (some_left c.as_slice-text.result.now (sym c.is_empty.ensures ∙ c.if-is_empty.false)) c.first_line.ensures.lines
    c.in-Ok-answer_line.ensures.answered

pub returns-clause-answered : goal.returns-clause-answered
returns-clause-answered g c = stops _ (g.I.Read.remaining c.args.input.now) _ (machines_of c.args.machines) _ c.loop-number.number
    (g.O.Write.contents c.args.out.now) _ (g.F.Write.contents c.args.faults.now) _ _ c.loop-number.invariant

pub returns-clause-failed : goal.returns-clause-failed
returns-clause-failed g c = inr (inr (
  refl,
  runs_out (g.I.Read.remaining c.args.input.now) _ (machines_of c.args.machines) _ c.loop-number.number
      (g.O.Write.contents c.args.out.now) _ (g.F.Write.contents c.args.faults.now) _ c.loop-number.invariant
      (omega (arith, c.loop-number-test.false)),
))
