-- States by their three rights: parts, granted forms, and what may be broken to.
use Rattle.lease_laws.proofs.Words.{◌||◌, ◌≡◌, Bool, IsLawful, IsLowered, None, Some, State, arith, false}
use Rattle.lease_laws.proofs.Words.{granted_form_of, holds_any, is_state_within, needs_acknowledgment, no_lease, nothing_cached}
use Rattle.lease_laws.proofs.Words.{true, without_handle, without_write}

-- a state by its letters
abbrev pub rights : Bool → Bool → Bool → State
rights r w h = record { read = r; write = w; handle = h }

-- the granted form of a granted form is itself
pub granted_form_of-again : (state : State) → granted_form_of (granted_form_of state) ≡ granted_form_of state
granted_form_of-again state = grind arith

-- what the three kinds of request want a lease lowered to
pub without_write-lowered : (state : State) → granted_form_of state ≡ state → state.write ≡ true
    → IsLowered state (without_write state)
without_write-lowered state form holds = grind arith

-- H taken away
pub without_handle-lowered : (state : State) → granted_form_of state ≡ state → state.handle ≡ true
    → IsLowered state (without_handle state)
without_handle-lowered state form holds = grind arith

-- all taken away
pub nothing-lowered : (state : State) → holds_any state ≡ true → IsLowered state nothing_cached
nothing-lowered state holds = grind arith

-- a part that holds W, by its letters
within_write : (r w h : Bool) (s t u : Bool) → is_state_within (rights r w h) (rights s t u) ≡ true → w ≡ true → t ≡ true
within_write r w h s t u e f = grind arith

-- a part that holds a right is a part of what holds it
pub write_of_part : (part state : State) → is_state_within part state ≡ true → part.write ≡ true → state.write ≡ true
write_of_part part state e f = within_write part.read part.write part.handle state.read state.write state.handle e f

-- a part that holds H, by its letters
within_handle : (r w h : Bool) (s t u : Bool) → is_state_within (rights r w h) (rights s t u) ≡ true → h ≡ true → u ≡ true
within_handle r w h s t u e f = grind arith

-- a part that holds H is a part of what holds it
pub handle_of_part : (part state : State) → is_state_within part state ≡ true → part.handle ≡ true → state.handle ≡ true
handle_of_part part state e f = within_handle part.read part.write part.handle state.read state.write state.handle e f

-- one value found is one value
some_same : (one other : State) → Some one ≡ Some other → one ≡ other
some_same one other e = cc

-- no lease is lawful
pub no_lease-lawful : IsLawful no_lease
no_lease-lawful = grind arith

-- a lease that isn't breaking is lawful where its state is a granted form
pub settled-lawful : (state : State) → granted_form_of state ≡ state → IsLawful (record { state = state; broken_to = None })
settled-lawful state form = grind arith

-- a lease that begins to break to a lowered state is lawful
pub breaking-lawful : (state lowered : State) → granted_form_of state ≡ state → needs_acknowledgment state ≡ true
    → IsLowered state lowered → IsLawful (record { state = state; broken_to = Some lowered })
breaking-lawful state lowered form needs low = grind arith

-- neither is true
or_false : (a b : Bool) → (a || b) ≡ false → (a ≡ false) × (b ≡ false)
or_false a b e = grind arith
