use Rattle.lease_coherence.proofs.fresh.Reads as reads
use Rattle.lease_coherence.proofs.parts.cached_reads_are_fresh.Goals as goal

pub returns : goal.returns
returns c = record { facts = reads.reads_are_fresh }
