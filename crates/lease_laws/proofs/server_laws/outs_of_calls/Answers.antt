use Rattle.lease_laws.proofs.server.OutCalls.{called-fair, tried-breaks, concluded-answers}
use Rattle.lease_laws.proofs.server.OutAnswers.{receive-breaks, write_ready-alone}
use Rattle.lease_laws.proofs.server_laws.outs_of_calls.Goals as goal

pub returns-clause-flagged : goal.returns-clause-flagged
returns-clause-flagged c server call = (called-fair server call).flagged

pub returns-clause-paired : goal.returns-clause-paired
returns-clause-paired c server call = (called-fair server call).paired

pub returns-clause-tries : goal.returns-clause-tries
returns-clause-tries c = tried-breaks

pub returns-clause-answers : goal.returns-clause-answers
returns-clause-answers c = concluded-answers

pub returns-clause-received : goal.returns-clause-received
returns-clause-received c = receive-breaks

pub returns-clause-written : goal.returns-clause-written
returns-clause-written c = write_ready-alone
