-- Which opens are closed together, and which outlive a connection.
use Rattle.std.specs.Prelude.{Bool, ◌==◌, ◌&&◌, not}
use Rattle.lease_model.specs.server.Attempt.{is_left_open}
use Rattle.lease_model.specs.server.Calls.{is_left_behind}
use Rattle.lease_model.specs.server.State.{Open, Lease, no_lease, is_breaking, has_key}
use Rattle.lease_model.specs.values.Keys.{Key}
use Rattle.std.specs.Prelude.{Option, Some, None}
use Rattle.lease_manager.specs.declared.values.closing.Closing as code

-- the lease of a key, if there is one
abbrev pub lease_under : (Key → Lease) → Option Key → Lease
lease_under leases None = no_lease
lease_under leases (Some key) = leases key

-- an open under this lease outlives its client's connection
abbrev pub outlives_under : Lease → Open → Bool
outlives_under lease one = one.durable && lease.state.handle && not (is_breaking lease)

abbrev pub closes : code.Closing → Open → Bool
closes (code.TheVariants.Named fid) one = one.file_id == fid.0
closes (code.TheVariants.LeftBehind fid) one = is_left_behind fid.0 one
closes (code.TheVariants.Of key) one = has_key key one
closes (code.TheVariants.LeftOf key) one = is_left_open key one
