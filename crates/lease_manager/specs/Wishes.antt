-- What a request wishes of the leases of other keys on its file, and what that wants of them.
use Rattle.std.specs.Prelude.{ℕ, Bool, Option, Some, None, List, ◌&&◌, if◌then◌else◌}
use Rattle.lease_state.specs.State.{State, nothing_cached, needs_acknowledgment}
use Rattle.lease_model.specs.server.Allowed.{is_other_on, conflicts_on}
use Rattle.lease_model.specs.server.GivingUp.{Extent, others_wants}
use Rattle.lease_model.specs.server.Naming.{lease_of_open}
use Rattle.lease_model.specs.server.State.{Server, Open, Lease}
use Rattle.lease_model.specs.server.Wants.{Want, handle_wants, write_wants, all_wants}
use Rattle.lease_model.specs.values.Keys.{Key}
use Rattle.lease_model.specs.values.LeaseStates.{holds_any, without_write, without_handle}
use Rattle.lease_manager.specs.declared.values.want.Demand.{Demand}
use Rattle.lease_manager.specs.declared.values.want.Wish.{Wish}
use Rattle.lease_manager.specs.declared.values.want.Wish.TheVariants.{AnyHandles, NoHandles, NoWrites, Nothing}

-- what a state is lowered to
abbrev pub lowered_for : Wish → State → State
lowered_for (NoHandles access share) state = without_handle state
lowered_for AnyHandles state = without_handle state
lowered_for NoWrites state = without_write state
lowered_for Nothing state = nothing_cached

-- the open's lease is wanted
abbrev pub is_wanted : Wish → Server → Option Key → ℕ → Open → Bool
is_wanted (NoHandles access share) server own file one =
    conflicts_on file access share one && is_other_on own file one && (lease_of_open server one).state.handle
is_wanted AnyHandles server own file one = is_other_on own file one && (lease_of_open server one).state.handle
is_wanted NoWrites server own file one = is_other_on own file one && (lease_of_open server one).state.write
is_wanted Nothing server own file one = is_other_on own file one && holds_any (lease_of_open server one).state

abbrev pub is_demanded : Demand → Server → Open → Bool
is_demanded demand server one = is_wanted demand.wish server demand.own demand.file.0 one

-- the wants, in the order of their keys
abbrev pub wants_for : Wish → Server → Option Key → ℕ → List Want
wants_for (NoHandles access share) server own file = handle_wants server own file access share
wants_for AnyHandles server own file = others_wants server own file Extent.Handles
wants_for NoWrites server own file = write_wants server own file
wants_for Nothing server own file = all_wants server own file

-- what is wanted of a key
abbrev pub want_of : Wish → Server → Key → Want
want_of wish server key = record { key = key; lowered = lowered_for wish (server.leases key).state }

-- a lease that is broken: it keeps its state where an acknowledgment is asked for
abbrev pub broken_so : State → State → Lease
broken_so state lowered =
    if needs_acknowledgment state then record { state = state; broken_to = Some lowered }
    else record { state = lowered; broken_to = None }
