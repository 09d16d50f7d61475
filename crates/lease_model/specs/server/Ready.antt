-- When a request can be answered, and when it has to wait for a break (profile).
use Rattle.std.specs.Prelude.{Bool, false, Option, Some, None, List, not}
use Rattle.std.specs.List.{list_all}
use Rattle.lease_state.specs.State.{State}
use Rattle.lease_model.specs.messages.Requests.{FileRequest}
use Rattle.lease_model.specs.server.State.{Lease, is_breaking}
use Rattle.lease_model.specs.server.Wants.{Want}
use Rattle.lease_model.specs.values.Keys.{Key}
use Rattle.lease_model.specs.values.LeaseStates.{holds_any}
use Rattle.lease_model.specs.values.Lists.{is_empty}

abbrev pub leaves_something : Option State → Bool
leaves_something None = false
leaves_something (Some lowered) = holds_any lowered

abbrev pub leaves_nothing : Option State → Bool
leaves_nothing None = false
leaves_nothing (Some lowered) = not (holds_any lowered)

-- the lease is breaking, and to something
abbrev pub breaks_to_some : Lease → Bool
breaks_to_some lease = leaves_something lease.broken_to

-- the lease is breaking, and to nothing
abbrev pub breaks_to_none : Lease → Bool
breaks_to_none lease = leaves_nothing lease.broken_to

-- A write goes on where each lease that it wants broken is breaking to nothing. Any other request is
-- ready where nothing is left that it wants.
abbrev pub is_ready : FileRequest → (Key → Lease) → List Want → Bool
is_ready (FileRequest.Write file_id number patch) leases wants =
    list_all (λ want. breaks_to_none (leases want.key)) wants
is_ready request leases wants = is_empty wants

-- A write waits for a lease that it wants broken as long as that is breaking to something. Any other
-- request waits for one that is breaking.
abbrev pub waits_for : FileRequest → Lease → Bool
waits_for (FileRequest.Write file_id number patch) lease = breaks_to_some lease
waits_for request lease = is_breaking lease
