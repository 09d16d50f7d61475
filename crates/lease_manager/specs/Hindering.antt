-- Which leases hinder a write under another key, and what a file's summary marks of a lease.
use Rattle.std.specs.Prelude.{ℕ, Bool, Option, ◌&&◌, not}
use Rattle.lease_model.specs.server.Allowed.{is_other_on}
use Rattle.lease_model.specs.server.Naming.{lease_of_open}
use Rattle.lease_model.specs.server.Ready.{breaks_to_none}
use Rattle.lease_model.specs.server.State.{Server, Open, Lease, is_breaking}
use Rattle.lease_model.specs.values.Keys.{Key}
use Rattle.lease_model.specs.values.LeaseStates.{holds_any}
use Rattle.lease_manager.specs.declared.tables.lease_marks.LeaseMarks.{LeaseMarks}

-- it holds something, and is not breaking to nothing yet
abbrev pub hinders_writes : Lease → Bool
hinders_writes lease = holds_any lease.state && not (breaks_to_none lease)

abbrev pub is_harmless : Lease → Bool
is_harmless lease = not (hinders_writes lease)

-- it holds H, and is breaking
abbrev pub breaks_handle : Lease → Bool
breaks_handle lease = lease.state.handle && is_breaking lease

abbrev pub marks_of : Lease → LeaseMarks
marks_of lease = record {
  writes = lease.state.write;
  handles = lease.state.handle;
  breaks = breaks_handle lease;
  harmless = is_harmless lease;
}

-- an open on the file has another key than the write, and its lease hinders the write
abbrev pub is_hinderer : Server → Option Key → ℕ → Open → Bool
is_hinderer server own file one = is_other_on own file one && hinders_writes (lease_of_open server one)
