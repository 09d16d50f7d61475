use Rattle.lease_laws.proofs.Words.{◌∙◌, sym}
use Rattle.lease_manager.proofs.tries.Calling.{joined_already, joined_now}
use Rattle.lease_manager.proofs.calls.join.Goals as goal

pub returns-in_ok-join-clause-step : goal.returns-in_ok-join-clause-step
returns-in_ok-join-clause-step c = joined_now c.args.tables.now c.join.new.self c.args.client.0
    (sym c.is_present.ensures ∙ c.if-not-is_present.true) c.in_ok-join.ensures.joined c.in_ok-join.ensures.queues

pub returns-else-not-is_present-clause-step : goal.returns-else-not-is_present-clause-step
returns-else-not-is_present-clause-step c = joined_already c.args.tables.now c.args.client.0
    (sym c.is_present.ensures ∙ c.if-not-is_present.false)
