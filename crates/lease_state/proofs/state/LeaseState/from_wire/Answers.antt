use Rattle.lease_state.proofs.StateLemmas.{state_of_bits-low, bits_of_state-small}
use Rattle.std.proofs.lemmas.Nat.{and_le_r}
use Rattle.lease_state.proofs.state.LeaseState.from_wire.Goals as goal

pub returns-clause-state : goal.returns-clause-state
returns-clause-state c = state_of_bits-low c.args.bits

pub returns-clause-named : goal.returns-clause-named
returns-clause-named c = bits_of_state-small _ (and_le_r c.args.bits 7)
