use Rattle.capture_judge.proofs.verdicts.Shown.{lowered-clean, left_out-clean}
use Rattle.capture_judge.proofs.worked.doubts_are_in_favor.Goals as goal

pub returns : goal.returns
returns c = record { lowered = lowered-clean; left_out = left_out-clean }
