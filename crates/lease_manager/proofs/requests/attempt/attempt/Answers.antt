use Rattle.lease_manager.specs.Outs.{progress_of}
use Rattle.lease_manager.specs.Requests.{request_like}
use Rattle.lease_manager.proofs.tries.Rounds.{none_left}
use Rattle.lease_manager.proofs.requests.attempt.attempt.Goals as goal

pub returns-clause-ended : goal.returns-clause-ended
returns-clause-ended c = none_left c.loop-round._round c.args.client.0 (request_like c.args.ask)
    (progress_of c.loop-round.tables c.loop-round.outs) _ c.loop-round-test.false c.loop-round.invariant.0
