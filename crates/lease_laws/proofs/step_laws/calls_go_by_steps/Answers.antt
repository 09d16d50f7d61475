use Rattle.lease_laws.proofs.server.StepCalls.{called-steps, call_begun-silent}
use Rattle.lease_laws.proofs.server.StepKeeps.{step-sound}
use Rattle.lease_laws.proofs.step_laws.calls_go_by_steps.Goals as goal

pub returns-clause-steps : goal.returns-clause-steps
returns-clause-steps c = called-steps

pub returns-clause-silence : goal.returns-clause-silence
returns-clause-silence c = call_begun-silent

pub returns-clause-kept : goal.returns-clause-kept
returns-clause-kept c = step-sound
