-- What a request wants of the leases of other keys on its file (profile, but for handles: MS-SMB2 3.3.4.7).
use Rattle.std.specs.Prelude.{ℕ, Bool, Option, List, map, filter, ◌&&◌}
use Rattle.lease_state.specs.State.{State, nothing_cached}
use Rattle.lease_state.specs.declared.access.Access.{Access}
use Rattle.lease_state.specs.declared.access.Share.{Share}
use Rattle.lease_model.specs.server.Allowed.{is_other_on, conflicts_on}
use Rattle.lease_model.specs.server.KeyOrder.{keys_of}
use Rattle.lease_model.specs.server.Naming.{lease_of_open}
use Rattle.lease_model.specs.server.State.{Server, Open}
use Rattle.lease_model.specs.values.Keys.{Key}
use Rattle.lease_model.specs.values.LeaseStates.{holds_any, without_write, without_handle}

-- a lease to be broken, and the state that it is to be lowered to
pub record Want : Type 0 where
  pub key : Key
  pub lowered : State

-- Wanted of the keys that have an open that passes the test: that their state be so lowered.
abbrev pub wants_where : Server → (Open → Bool) → (State → State) → List Want
wants_where server test lowering =
    map (λ key. record { key = key; lowered = lowering (server.leases key).state })
    (keys_of (filter test server.opens))

-- A create that conflicts with opens wants their leases to give up handles (own in that only other
-- keys are wanted).
abbrev pub handle_wants : Server → Option Key → ℕ → Access → Share → List Want
handle_wants server own file access share = wants_where server
    (λ one. conflicts_on file access share one && is_other_on own file one && (lease_of_open server one).state.handle)
    without_handle

-- A create that conflicts with none wants no other key on its file to cache writes (profile).
abbrev pub write_wants : Server → Option Key → ℕ → List Want
write_wants server own file = wants_where server
    (λ one. is_other_on own file one && (lease_of_open server one).state.write)
    without_write

-- A write wants no other key on its file to cache anything (profile).
abbrev pub all_wants : Server → Option Key → ℕ → List Want
all_wants server own file = wants_where server
    (λ one. is_other_on own file one && holds_any (lease_of_open server one).state)
    (λ state. nothing_cached)
