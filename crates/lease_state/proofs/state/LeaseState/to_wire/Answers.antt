use Rattle.std.proofs.Common.{sym, ◌∙◌}
use Rattle.lease_state.proofs.StateLemmas.{bits_of_state-named}
use Rattle.lease_state.proofs.state.LeaseState.to_wire.Goals as goal

pub returns : goal.returns
returns c = c.from.ensures ∙ sym (bits_of_state-named c.args.self.0)
