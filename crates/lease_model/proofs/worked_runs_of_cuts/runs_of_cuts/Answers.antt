use Rattle.std.proofs.Common.{refl}
use Rattle.lease_model.proofs.WorldComputes.{the_world}
use Rattle.lease_model.proofs.worked_runs_of_cuts.runs_of_cuts.Goals as goal

pub returns-clause-plain_cut : goal.returns-clause-plain_cut
unfolding the_world
returns-clause-plain_cut c = (refl, refl)

pub returns-clause-cut_in_flush : goal.returns-clause-cut_in_flush
unfolding the_world
returns-clause-cut_in_flush c = (refl, refl, refl)

pub returns-clause-replies_lost : goal.returns-clause-replies_lost
unfolding the_world
returns-clause-replies_lost c = (refl, refl)

pub returns-clause-replies_lost_after : goal.returns-clause-replies_lost_after
unfolding the_world
returns-clause-replies_lost_after c = (refl, refl)

pub returns-clause-kept_open_broken : goal.returns-clause-kept_open_broken
unfolding the_world
returns-clause-kept_open_broken c = (refl, refl)

pub returns-clause-breaking_cut : goal.returns-clause-breaking_cut
unfolding the_world
returns-clause-breaking_cut c = (refl, refl)

pub returns-clause-breaking_cut_alone : goal.returns-clause-breaking_cut_alone
unfolding the_world
returns-clause-breaking_cut_alone c = (refl, refl)

pub returns-clause-scavenged_open : goal.returns-clause-scavenged_open
unfolding the_world
returns-clause-scavenged_open c = (refl, refl, refl)

pub returns-clause-created_lost : goal.returns-clause-created_lost
unfolding the_world
returns-clause-created_lost c = (refl, refl, refl)

pub returns-clause-no_base_kept : goal.returns-clause-no_base_kept
unfolding the_world
returns-clause-no_base_kept c = (refl, refl)
