use Rattle.kept_opens.proofs.ManagerLemmas.{makes_again}
use Rattle.kept_opens.proofs.laws.exports_are_imported.Goals as goal

pub returns : goal.returns
returns c = makes_again
