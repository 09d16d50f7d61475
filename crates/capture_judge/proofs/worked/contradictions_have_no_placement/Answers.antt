use Rattle.capture_judge.proofs.verdicts.Shown.{reversed-contradictory}
use Rattle.capture_judge.proofs.worked.contradictions_have_no_placement.Goals as goal

pub returns : goal.returns
returns c = reversed-contradictory
