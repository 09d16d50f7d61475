use Rattle.lease_coherence.proofs.beliefs.Between as caches
use Rattle.lease_coherence.proofs.parts.runs_have_one_write_cache.Goals as goal

pub returns : goal.returns
returns c = record { facts = caches.runs_have_one_write_cache }
