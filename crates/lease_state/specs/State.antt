-- States of a lease (MS-SMB2 2.2.13.2).
use Rattle.std.specs.Prelude.{ℕ, ◌+◌, Bool, false, not, if◌then◌else◌, ◌&&◌, ◌||◌, ◌==◌}
use Rattle.std.specs.Int.RustNames.{bit_and}
use Rattle.lease_state.specs.declared.state.LeaseState.{LeaseState}

-- what a lease lets its client cache: reads, writes, handles
pub record State : Type 0 where
  pub read : Bool
  pub write : Bool
  pub handle : Bool

-- the state that a number's bits name: SMB2_LEASE_READ_CACHING is 1, SMB2_LEASE_HANDLE_CACHING 2,
-- SMB2_LEASE_WRITE_CACHING 4; other bits name nothing
abbrev pub state_of_bits : ℕ → State
state_of_bits bits = record {
  read = bit_and bits 1 == 1;
  write = bit_and bits 4 == 4;
  handle = bit_and bits 2 == 2;
}

abbrev pub state_of : LeaseState → State
state_of state = state_of_bits state.0

-- the number whose bits name the state, and no other bit
abbrev pub bits_of_state : State → ℕ
bits_of_state s = (if s.read then 1 else 0) + (if s.handle then 2 else 0) + (if s.write then 4 else 0)

-- the state that caches nothing
abbrev pub nothing_cached : State
nothing_cached = record { read = false; write = false; handle = false }

-- own: a state without reads is never granted; such a want is granted nothing
abbrev pub granted_form_of : State → State
granted_form_of s = if s.read then s else nothing_cached

-- 3.3.4.7: a break is acknowledged exactly where the state that it breaks holds more than reads
abbrev pub needs_acknowledgment : State → Bool
needs_acknowledgment s = s.write || s.handle

-- all that the one caches the other caches too
abbrev pub is_state_within : State → State → Bool
is_state_within one other =
    (not one.read || other.read) && (not one.write || other.write) && (not one.handle || other.handle)

-- the state caches something
abbrev pub holds_any : State → Bool
holds_any state = state.read || state.write || state.handle

-- what both cache
abbrev pub meet : State → State → State
meet one other = record {
  read = one.read && other.read;
  write = one.write && other.write;
  handle = one.handle && other.handle;
}

abbrev pub without_write : State → State
without_write state = record state { write = false }

abbrev pub without_handle : State → State
without_handle state = record state { handle = false }
