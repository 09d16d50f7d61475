use Rattle.manager_model.proofs.bytes.Calls.{bytes_decide_nothing}
use Rattle.manager_model.proofs.laws.law_of_bytes.Goals as goal

pub returns : goal.returns
returns c = bytes_decide_nothing
