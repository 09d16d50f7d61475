use Rattle.lease_coherence.proofs.late.Facts as late
use Rattle.lease_coherence.proofs.parts.no_write_is_late.Goals as goal

pub returns : goal.returns
returns c = record { facts = late.no_write_is_late }
