-- What a written field of a message reads as.
use Rattle.std.proofs.Common.{◌≡◌, ◌≤◌, ◌==◌, Bool, if◌then◌else◌, arith}
use Rattle.std.specs.Int.RustNames.{bit_and}
use Rattle.byteorder.specs.Endian.{little_number, little_bytes}
use Rattle.lease_state.specs.State.{State, bits_of_state, state_of_bits}

pub state_of_bits-written : (s : State) → state_of_bits (little_number 4 (little_bytes 4 (bits_of_state s))) ≡ s
state_of_bits-written s = grind arith

-- a written state has no bit past 7
pub written_state_small : (s : State) → little_number 4 (little_bytes 4 (bits_of_state s)) ≤ 7
written_state_small s = grind arith

pub flag-written : (b : Bool) → (bit_and (little_number 4 (little_bytes 4 (if b then 1 else 0))) 1 == 1) ≡ b
flag-written b = grind arith

pub written_flag_small : (b : Bool) → little_number 4 (little_bytes 4 (if b then 1 else 0)) ≤ 1
written_flag_small b = grind arith
