-- Leases of other keys on a file give up what stands in the way of something that no request of a client asks by an open (own):
-- a change of the file by a program of its host, a lock, a rename, a deletion.
use Rattle.std.specs.Prelude.{ℕ, Bool, Option, List, ◌&&◌, ◌||◌, not}
use Rattle.std.specs.List.{list_any}
use Rattle.lease_model.specs.server.Allowed.{is_other_on}
use Rattle.lease_model.specs.server.Attempt.{wants_met}
use Rattle.lease_model.specs.server.Naming.{lease_of_open}
use Rattle.lease_model.specs.server.Progress.{Progress, begun}
use Rattle.lease_model.specs.server.Ready.{breaks_to_none}
use Rattle.lease_model.specs.server.State.{Server, Open, Lease}
use Rattle.lease_model.specs.server.Wants.{Want, all_wants, wants_where}
use Rattle.lease_model.specs.values.Keys.{Key}
use Rattle.lease_model.specs.values.LeaseStates.{holds_any, without_handle}

-- what is given up: H alone, or all that is cached
pub data Extent : Type 0 where
  Handles : Extent
  All : Extent

-- No other key on the file is wanted to hold it. No key on it is spared by None.
abbrev pub others_wants : Server → Option Key → ℕ → Extent → List Want
others_wants server own file Extent.Handles = wants_where server
    (λ one. is_other_on own file one && (lease_of_open server one).state.handle)
    without_handle
others_wants server own file Extent.All = all_wants server own file

-- Disconnected opens of these keys are closed, and their leases are broken (3.3.4.7), each once.
abbrev pub others_broken : Server → Option Key → ℕ → Extent → Progress
others_broken server own file extent = wants_met (others_wants server own file extent) (begun server)

-- The lease stands in the way as long as it holds H; or as long as it caches anything, but for one that caches no writes and is
-- breaking to nothing, as a write goes on beside it (profile).
abbrev pub is_in_the_way : Extent → Lease → Bool
is_in_the_way Extent.Handles lease = lease.state.handle
is_in_the_way Extent.All lease = lease.state.write || (holds_any lease.state && not (breaks_to_none lease))

-- no other key on the file is in the way
abbrev pub is_given_up : Server → Option Key → ℕ → Extent → Bool
is_given_up server own file extent =
    not (list_any (λ one. is_other_on own file one && is_in_the_way extent (lease_of_open server one)) server.opens)
