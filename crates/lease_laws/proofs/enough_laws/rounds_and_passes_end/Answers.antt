use Rattle.lease_laws.proofs.server.EnoughPasses.{passes_end, passes_are_enough}
use Rattle.lease_laws.proofs.server.EnoughTries.{tries_end, three_are_enough}
use Rattle.lease_laws.proofs.enough_laws.rounds_and_passes_end.Goals as goal

pub returns-clause-tries_end : goal.returns-clause-tries_end
returns-clause-tries_end c = tries_end

pub returns-clause-three_rounds : goal.returns-clause-three_rounds
returns-clause-three_rounds c = three_are_enough

pub returns-clause-passes_end : goal.returns-clause-passes_end
returns-clause-passes_end c = passes_end

pub returns-clause-enough_passes : goal.returns-clause-enough_passes
returns-clause-enough_passes c = passes_are_enough
