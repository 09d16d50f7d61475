use Rattle.capture_judge.proofs.verdicts.Shown.{hurried-unsafe}
use Rattle.capture_judge.proofs.worked.later_changes_hurry_earlier_ones.Goals as goal

pub returns : goal.returns
returns c = hurried-unsafe
