use Rattle.kept_opens.proofs.KeptLemmas.{only_one, same_last, same_kept}
use Rattle.kept_opens.proofs.laws.kept_laws.Goals as goal

pub returns-clause-says_the_same : goal.returns-clause-says_the_same
returns-clause-says_the_same c last other_last kept other fits other_fits borne others_borne e = (
  same_last last other_last kept other borne others_borne e fits other_fits,
  same_kept last other_last kept other borne others_borne e,
)

pub returns-clause-unique : goal.returns-clause-unique
returns-clause-unique c = only_one
