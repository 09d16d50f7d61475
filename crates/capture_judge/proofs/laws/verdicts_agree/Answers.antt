use Rattle.capture_judge.proofs.verdicts.Agreeing.{agree}
use Rattle.capture_judge.proofs.laws.verdicts_agree.Goals as goal

pub returns : goal.returns
returns c = agree
