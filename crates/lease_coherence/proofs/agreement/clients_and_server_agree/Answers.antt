use Rattle.lease_coherence.proofs.agreed.Breaks as breaks
use Rattle.lease_coherence.proofs.agreed.Flushed as flushed
use Rattle.lease_coherence.proofs.agreed.Gone as gone
use Rattle.lease_coherence.proofs.agreed.Grants as grants
use Rattle.lease_coherence.proofs.agreed.Held as held
use Rattle.lease_coherence.proofs.agreed.Taken as taken
use Rattle.lease_coherence.proofs.agreement.clients_and_server_agree.Goals as goal

pub returns-clause-good : goal.returns-clause-good
returns-clause-good c = breaks.good_clients_are_timely

pub returns-clause-breaking : goal.returns-clause-breaking
returns-clause-breaking c = breaks.breaking_is_answered

pub returns-clause-acknowledgments : goal.returns-clause-acknowledgments
returns-clause-acknowledgments c = breaks.acknowledgments_are_due

pub returns-clause-flushed : goal.returns-clause-flushed
returns-clause-flushed c = flushed.flushed_before_acknowledgments

pub returns-clause-closed : goal.returns-clause-closed
returns-clause-closed c = flushed.flushed_before_closes

pub returns-clause-beliefs : goal.returns-clause-beliefs
returns-clause-beliefs c = breaks.beliefs_are_held

pub returns-clause-bases : goal.returns-clause-bases
returns-clause-bases c = taken.bases_are_current

pub returns-clause-writers : goal.returns-clause-writers
returns-clause-writers c = held.writers_are_not_held

pub returns-clause-believers : goal.returns-clause-believers
returns-clause-believers c = held.believers_are_not_held

pub returns-clause-through : goal.returns-clause-through
returns-clause-through c = held.held_writes_are_through

pub returns-clause-gone : goal.returns-clause-gone
returns-clause-gone c = gone.closed_opens_stay_closed

pub returns-clause-kept : goal.returns-clause-kept
returns-clause-kept c = flushed.kept_is_untouched

pub returns-clause-rises : goal.returns-clause-rises
returns-clause-rises c = grants.beliefs_rise_by_grants
