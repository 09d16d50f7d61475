use Rattle.std.proofs.Common.{◌∙◌, ap, sym}
use Rattle.std.proofs.lemmas.Bool.{eqb-true, eq-eqb}
use Rattle.lease_state.specs.State.{bits_of_state, state_of_bits}
use Rattle.lease_state.proofs.StateLemmas.{state_of_bits-low, bits_of_state-named}
use Rattle.lease_state.proofs.laws.state_laws.Goals as goal

pub returns : goal.returns
returns c = λ a b. (
  λ same. sym (state_of_bits-low a.0) ∙ ap state_of_bits (eqb-true _ _ same) ∙ state_of_bits-low b.0,
  λ same. eq-eqb _ _ (sym (bits_of_state-named a.0) ∙ ap bits_of_state same ∙ bits_of_state-named b.0),
)
