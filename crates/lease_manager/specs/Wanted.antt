-- Which leases are wanted, by what is known of them.
use Rattle.std.specs.Prelude.{ℕ, Bool, false, Option, Some, None, ◌&&◌, not, if◌then◌else◌}
use Rattle.std.specs.BTreeSet.{BTreeSet, contains}
use Rattle.lease_state.specs.State.{state_of}
use Rattle.lease_model.specs.values.Keys.{Key, key_eq}
use Rattle.lease_model.specs.values.LeaseStates.{holds_any}
use Rattle.lease_manager.specs.KeyOrder.{key_order}
use Rattle.lease_manager.specs.Summaries.{record_at}
use Rattle.lease_manager.specs.Tallies.{tally_conflicts}
use Rattle.lease_manager.specs.declared.tables.file_summary.FileSummary.{FileSummary}
use Rattle.lease_manager.specs.declared.tables.summaries.LeaseRecord.{LeaseRecord}
use Rattle.lease_manager.specs.declared.tables.summaries.Summaries.{Summaries}
use Rattle.lease_manager.specs.declared.values.want.Demand.{Demand}
use Rattle.lease_manager.specs.declared.values.want.Wish.{Wish}
use Rattle.lease_manager.specs.declared.values.want.Wish.TheVariants.{AnyHandles, NoHandles, NoWrites, Nothing}

abbrev pub is_own_key : Option Key → Key → Bool
is_own_key None key = false
is_own_key (Some own) key = key_eq key own

-- a lease holds what is wished to be given up
abbrev pub needs_lease : Wish → LeaseRecord → Bool
needs_lease (NoHandles access share) known =
    tally_conflicts access share known.tally && (state_of known.lease.state).handle
needs_lease AnyHandles known = (state_of known.lease.state).handle
needs_lease NoWrites known = (state_of known.lease.state).write
needs_lease Nothing known = holds_any (state_of known.lease.state)

abbrev pub needs_known : Wish → Option LeaseRecord → Bool
needs_known wish None = false
needs_known wish (Some known) = needs_lease wish known

-- the lease of a key on the file is wanted
abbrev pub is_wanted_key : Summaries → Demand → Key → Bool
is_wanted_key summaries demand key =
    not (is_own_key demand.own key) && needs_known demand.wish (record_at summaries key)

-- the keys among which are all whose leases can be wanted
abbrev pub keys_for : Wish → FileSummary → BTreeSet Key
keys_for (NoHandles access share) summary = summary.handlers
keys_for AnyHandles summary = summary.handlers
keys_for NoWrites summary = summary.writers
keys_for Nothing summary = summary.keys

-- how many of the keys are the request's
abbrev pub own_count : Option Key → FileSummary → ℕ
own_count None summary = 0
own_count (Some key) summary = if contains key_order summary.keys key then 1 else 0

-- a key on the file whose lease hinders writes
abbrev pub is_hindering : FileSummary → Key → Bool
is_hindering summary key = contains key_order summary.keys key && not (contains key_order summary.harmless key)

-- how many of them are the request's
abbrev pub own_hindering : Option Key → FileSummary → ℕ
own_hindering None summary = 0
own_hindering (Some key) summary = if is_hindering summary key then 1 else 0
