use Rattle.std.proofs.Common.{sym}
use Rattle.leasecheck.proofs.idle.push_refused.Goals as goal

pub returns : goal.returns
returns c = rw (sym c.refusal_words-words.ensures) c.write.ensures.bytes
