use Rattle.lease_laws.proofs.Words.{◌∙◌, ap, sym}
use Rattle.lease_manager.specs.Findings.{look_of}
use Rattle.lease_manager.specs.Outs.{progress_of}
use Rattle.lease_manager.specs.Requests.{request_like}
use Rattle.lease_manager.proofs.tries.Rounds.{looks, waits, again}
use Rattle.lease_manager.proofs.requests.attempt.round.Goals as goal

pub returns-in-Fails-clause-step : goal.returns-in-Fails-clause-step
returns-in-Fails-clause-step c = λ rounds.
    looks rounds c.args.client.0 (request_like c.args.ask) (progress_of c.args.tables.now c.args.outs.now) _
    (sym (ap look_of c.in-Fails.is) ∙ c.in_ok-status.ensures.look)

pub returns-in-Ready-clause-step : goal.returns-in-Ready-clause-step
returns-in-Ready-clause-step c = λ rounds.
    looks rounds c.args.client.0 (request_like c.args.ask) (progress_of c.args.tables.now c.args.outs.now) _
    (sym (ap look_of c.in-Ready.is) ∙ c.in_ok-status.ensures.look)

pub returns-then-must_wait-clause-step : goal.returns-then-must_wait-clause-step
returns-then-must_wait-clause-step c = λ rounds.
    waits rounds c.args.client.0 (request_like c.args.ask) (progress_of c.args.tables.now c.args.outs.now)
    (progress_of c.meet_all.new.tables c.meet_all.new.outs) _ (sym (ap look_of c.in-Needs.is) ∙ c.in_ok-status.ensures.look)
    (rw c.deref.ensures.value at c.in_ok-meet_all-in-Needs.ensures.step)
    (rw c.deref-in-Needs.ensures.value at (sym c.must_wait.ensures ∙ c.if-must_wait.true))

pub returns-clause-step : goal.returns-clause-step
returns-clause-step c = λ rounds.
    again rounds c.args.client.0 (request_like c.args.ask) (progress_of c.args.tables.now c.args.outs.now)
    (progress_of c.meet_all.new.tables c.meet_all.new.outs) _ (sym (ap look_of c.in-Needs.is) ∙ c.in_ok-status.ensures.look)
    (rw c.deref.ensures.value at c.in_ok-meet_all-in-Needs.ensures.step)
    (rw c.deref-in-Needs.ensures.value at (sym c.must_wait.ensures ∙ c.if-must_wait.false))
