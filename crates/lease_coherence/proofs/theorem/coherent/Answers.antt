use Rattle.lease_coherence.proofs.beliefs.Between as caches
use Rattle.lease_coherence.proofs.fresh.Reads as reads
use Rattle.lease_coherence.proofs.late.Facts as late
use Rattle.lease_coherence.proofs.names.Done as done
use Rattle.lease_coherence.proofs.theorem.coherent.Goals as goal
use Rattle.lease_coherence.proofs.wellformed.WellFormed as well

pub returns : goal.returns
returns c = record {
  safe = λ rules setup events allowed. record {
    well_formed = well.runs_are_well_formed rules setup events allowed;
    one_write_cache = caches.runs_have_one_write_cache rules setup events;
    fresh_reads = reads.reads_are_fresh rules setup events allowed;
    no_late_write = late.no_write_is_late rules setup events allowed;
    no_false_done = done.nothing_is_falsely_done rules setup events allowed;
  };
}
