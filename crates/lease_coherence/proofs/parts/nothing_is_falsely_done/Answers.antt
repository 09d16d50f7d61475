use Rattle.lease_coherence.proofs.names.Done as done
use Rattle.lease_coherence.proofs.parts.nothing_is_falsely_done.Goals as goal

pub returns : goal.returns
returns c = record { facts = done.nothing_is_falsely_done }
