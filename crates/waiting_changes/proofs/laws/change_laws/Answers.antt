use Rattle.waiting_changes.proofs.Lawful.{changes_are_answered, tries_are_fair}
use Rattle.waiting_changes.proofs.Running.{runs_are_of_managers}
use Rattle.waiting_changes.proofs.laws.change_laws.Goals as goal

pub returns-clause-tries : goal.returns-clause-tries
returns-clause-tries c = tries_are_fair

pub returns-clause-answers : goal.returns-clause-answers
returns-clause-answers c = changes_are_answered

pub returns-clause-runs : goal.returns-clause-runs
returns-clause-runs c = runs_are_of_managers
