use Rattle.lease_laws.proofs.server.Changes.{breaks-come-first}
use Rattle.lease_laws.proofs.server.StepLeases.{step-leases, steps-told}
use Rattle.lease_laws.proofs.server.StepOuts.{step-tells}
use Rattle.lease_laws.proofs.step_laws.breaks_of_steps.Goals as goal

pub returns-clause-leases : goal.returns-clause-leases
returns-clause-leases c = step-leases

pub returns-clause-told : goal.returns-clause-told
returns-clause-told c = step-tells

pub returns-clause-always_told : goal.returns-clause-always_told
returns-clause-always_told c = steps-told

pub returns-clause-changes : goal.returns-clause-changes
returns-clause-changes c = breaks-come-first
