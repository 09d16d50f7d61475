-- What the bits of a number say of the state that they name.
use Rattle.std.proofs.Common.{◌≡◌, ◌≤◌, ℕ, ◌∙◌, zero, suc, refl, arith, sym, ap}
use Rattle.std.specs.Int.RustNames.{bit_and}
use Rattle.std.proofs.lemmas.Nat.{and_assoc, and_le_r}
use Rattle.lease_state.specs.State.{bits_of_state, state_of_bits}

-- a number below eight is the number of the state that it names
pub bits_of_state-small : (n : ℕ) → n ≤ 7 → bits_of_state (state_of_bits n) ≡ n
bits_of_state-small zero _ = refl
bits_of_state-small (suc zero) _ = refl
bits_of_state-small (suc (suc zero)) _ = refl
bits_of_state-small (suc (suc (suc zero))) _ = refl
bits_of_state-small (suc (suc (suc (suc zero)))) _ = refl
bits_of_state-small (suc (suc (suc (suc (suc zero))))) _ = refl
bits_of_state-small (suc (suc (suc (suc (suc (suc zero)))))) _ = refl
bits_of_state-small (suc (suc (suc (suc (suc (suc (suc zero))))))) _ = refl
bits_of_state-small (suc (suc (suc (suc (suc (suc (suc (suc n)))))))) small = absurd (omega arith)

-- bits past the named ones name nothing
pub state_of_bits-low : (n : ℕ) → state_of_bits (bit_and n 7) ≡ state_of_bits n
state_of_bits-low n = rw (and_assoc 1 n 7, and_assoc 2 n 7, and_assoc 4 n 7) refl

-- the state's number is the number's low bits
pub bits_of_state-named : (n : ℕ) → bits_of_state (state_of_bits n) ≡ bit_and n 7
bits_of_state-named n = sym (ap bits_of_state (state_of_bits-low n)) ∙ bits_of_state-small (bit_and n 7) (and_le_r n 7)
