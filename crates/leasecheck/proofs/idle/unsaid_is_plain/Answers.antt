use Rattle.leasecheck.proofs.Told.{unsaid_plain}
use Rattle.leasecheck.proofs.idle.unsaid_is_plain.Goals as goal

pub returns : goal.returns
returns c = unsaid_plain
