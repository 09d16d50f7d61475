use Rattle.manager_model.proofs.ends.Calls.{ends_are_told}
use Rattle.manager_model.proofs.ends.Once.{ends_are_exact}
use Rattle.manager_model.proofs.laws.law_of_ends.Goals as goal

pub returns-clause-told : goal.returns-clause-told
returns-clause-told c = ends_are_told

pub returns-clause-exact : goal.returns-clause-exact
returns-clause-exact c = ends_are_exact
