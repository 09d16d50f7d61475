use Rattle.lease_laws.proofs.Words.{◌++◌, ◌∙◌, ap, begun, sym}
use Rattle.manager_model.specs.Decisions.{told_of}
use Rattle.lease_manager.specs.Findings.{outcome_of}
use Rattle.lease_manager.specs.Lanes.{lane_like}
use Rattle.lease_manager.specs.Outs.{handling_of, progress_of}
use Rattle.lease_manager.specs.Requests.{request_like}
use Rattle.lease_manager.specs.Table.{server_of}
use Rattle.lease_manager.proofs.tries.Arriving.{behind_told, tagged_so, tried_and_answered, tried_and_waits}
use Rattle.lease_manager.proofs.tries.Homing.{ready_at_home}
use Rattle.lease_manager.proofs.requests.arrival.try_on.Goals as goal

pub returns-then-is_behind : goal.returns-then-is_behind
returns-then-is_behind c =
    tagged_so (server_of c.args.tables.now) c.args.tag.0 c.args.client.0 (request_like c.args.ask)
    (lane_like c.lane_of-lane.result)
    (handling_of c.args.tables.now c.args.told.now) _ c.args.file.0 c.lane_of-lane.ensures
    (behind_told c.args.tables.now c.hold.new.self c.args.told.now c.waits.new.self c.args.file.0 _
    (rw (c.held.ensures, c.rules.ensures) at (sym c.is_behind.ensures ∙ c.if-is_behind.true)) c.in_ok-hold.ensures
    c.in_ok-waits.ensures)

pub returns-then-waits : goal.returns-then-waits
returns-then-waits c =
    tagged_so (server_of c.args.tables.now) c.args.tag.0 c.args.client.0 (request_like c.args.ask)
    (lane_like c.lane_of-lane.result)
    (handling_of c.args.tables.now c.args.told.now) _ c.args.file.0 c.lane_of-lane.ensures
    (tried_and_waits c.args.tables.now c.try_now.new.tables c.hold-then-waits.new.self c.args.told.now c.tell.new.self
    c.waits-then-waits.new.self c.try_now.new.outs c.args.file.0 _ (outcome_of c.in_ok-outcome.outcome)
    (rw (c.held.ensures, c.rules.ensures) at (sym c.is_behind.ensures ∙ c.if-is_behind.false))
    c.in_ok-outcome.ensures.ended (sym c.waits-2.ensures ∙ c.if-waits.true) c.in_ok-outcome.ensures.queues
    (c.in_ok-tell.ensures
    ∙ ap (λ said. said ++ told_of c.args.tag.0 c.try_now.new.outs) c.in_ok-outcome.ensures.told)
    c.in_ok-hold-2.ensures c.in_ok-waits-2.ensures)

pub conclude-requires-clause-met : goal.conclude-requires-clause-met
conclude-requires-clause-met c = λ ready. ready_at_home c.args.client.0 (request_like c.args.ask)
    (begun (server_of c.args.tables.now)) (progress_of c.try_now.new.tables c.try_now.new.outs) _
    c.in_ok-outcome.ensures.ended ready

pub returns : goal.returns
returns c =
    tagged_so (server_of c.args.tables.now) c.args.tag.0 c.args.client.0 (request_like c.args.ask)
    (lane_like c.lane_of-lane.result)
    (handling_of c.args.tables.now c.args.told.now) _ c.args.file.0 c.lane_of-lane.ensures
    (tried_and_answered c.args.tables.now c.try_now.new.tables c.conclude.new.tables c.args.told.now c.tell-2.new.self
    c.try_now.new.outs c.conclude.new.outs c.args.file.0 _ (outcome_of c.in_ok-outcome.outcome)
    (rw (c.held.ensures, c.rules.ensures) at (sym c.is_behind.ensures ∙ c.if-is_behind.false))
    c.in_ok-outcome.ensures.ended (sym c.waits-2.ensures ∙ c.if-waits.false) c.in_ok-outcome.ensures.queues
    c.in_ok-conclude.ensures.step c.in_ok-conclude.ensures.queues
    (c.in_ok-tell-2.ensures
    ∙ ap (λ said. said ++ told_of c.args.tag.0 c.conclude.new.outs) c.in_ok-outcome.ensures.told))
