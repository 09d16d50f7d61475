use Rattle.std.proofs.Common.{length}
use Rattle.lease_texts.proofs.complaints.expected.+push_listed.Given as goal

abbrev pub decreases-push_listed : goal.decreases-push_listed
decreases-push_listed l = length l.rows.now
