use Rattle.lease_coherence.proofs.parts.runs_are_well_formed.Goals as goal
use Rattle.lease_coherence.proofs.wellformed.WellFormed as well

pub returns : goal.returns
returns c = record { facts = well.runs_are_well_formed }
