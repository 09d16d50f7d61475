-- Which of two epochs is the newer one, and what is known of a lease after a message.
use Rattle.std.specs.Prelude.{ℕ, ◌+◌, ◌-◌, ◌%◌, Bool, not, Option, Some, None, if◌then◌else◌, ◌&&◌, ◌||◌, ◌==◌, nat_lt}
use Rattle.lease_state.specs.State.{State, is_state_within}
use Rattle.lease_model.specs.values.LeaseStates.{same_state}
use Rattle.client_versions.specs.Layer.{Known}

-- how far an epoch is ahead of another one, where 0 follows on 65535
abbrev pub ahead : ℕ → ℕ → ℕ
ahead before now = (now + (65536 - before)) % 65536

-- it is ahead by 1 to 32,767 (MS-SMB2 3.2.5.7.5, 3.2.5.19.2)
abbrev pub is_newer : ℕ → ℕ → Bool
is_newer before now = nat_lt 0 (ahead before now) && nat_lt (ahead before now) 32768

-- less may be cached
abbrev pub goes_down : State → State → Bool
goes_down before now = is_state_within now before && not (same_state now before)

-- what a message tells is taken: its epoch is newer, or it is the known one and the state goes down
abbrev pub is_taken : Known → Known → Bool
is_taken known told =
    is_newer known.epoch told.epoch || (told.epoch == known.epoch && goes_down known.state told.state)

-- what is known after a message that tells an epoch and a state
abbrev pub known_after : Option Known → Known → Known
known_after None told = told
known_after (Some known) told = if is_taken known told then told else known

-- The answer while a break is in progress has the epoch of that break, and the state before it. Of a lease that is known both
-- are taken where the epoch is newer, so that the notice of that break goes down from there; else nothing is taken.
abbrev pub known_in_break : Option Known → Known → Known
known_in_break None told = told
known_in_break (Some known) told = if is_newer known.epoch told.epoch then told else known

-- the epoch that the next create under the key asks with (2.2.13.2.10)
abbrev pub epoch_known : Option Known → ℕ
epoch_known None = 0
epoch_known (Some known) = known.epoch
