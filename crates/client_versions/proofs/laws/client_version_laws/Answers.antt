use Rattle.client_versions.proofs.Given.{asks_the_same, asks_together, dropped_changes_nothing, in_order_all_is_given}
use Rattle.client_versions.proofs.Newest.{newest_epoch_is_known}
use Rattle.client_versions.proofs.Orders.{order_does_not_matter}
use Rattle.client_versions.proofs.Steps.{asks_with_newest, connects_under_its_guid, newest_is_known, stays_or_rises}
use Rattle.client_versions.proofs.laws.client_version_laws.Goals as goal

pub returns-clause-in_order : goal.returns-clause-in_order
returns-clause-in_order c = in_order_all_is_given

pub returns-clause-newest : goal.returns-clause-newest
returns-clause-newest c = newest_is_known

pub returns-clause-any_order : goal.returns-clause-any_order
returns-clause-any_order c = order_does_not_matter

pub returns-clause-newest_epoch : goal.returns-clause-newest_epoch
returns-clause-newest_epoch c = newest_epoch_is_known

pub returns-clause-rises : goal.returns-clause-rises
returns-clause-rises c = stays_or_rises

pub returns-clause-asks : goal.returns-clause-asks
returns-clause-asks c = asks_with_newest

pub returns-clause-dropped : goal.returns-clause-dropped
returns-clause-dropped c = dropped_changes_nothing

pub returns-clause-the_same : goal.returns-clause-the_same
returns-clause-the_same c = asks_the_same

pub returns-clause-together : goal.returns-clause-together
returns-clause-together c = asks_together

pub returns-clause-guid : goal.returns-clause-guid
returns-clause-guid c = connects_under_its_guid
