use Rattle.std.proofs.Common.{◌≢◌, ℕ, ◌*◌, ◌<◌}
use Rattle.lease_wire.specs.Field.{number_at}
use Rattle.capture_wire.proofs.connecting.NegotiateRequest.offers.Given as goal

-- none of the dialects that were passed is the one
abbrev pub invariant-loop-index : goal.invariant-loop-index
invariant-loop-index l = (k : ℕ) → k < l.index → number_at (2 * k) 2 l.dialects ≢ l.dialect
