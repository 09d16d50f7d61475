-- The code's leases as the definitions see them.
use Rattle.std.specs.Option.{option_map}
use Rattle.lease_state.specs.State.{state_of}
use Rattle.lease_model.specs.server.State as model
use Rattle.lease_manager.specs.declared.values.lease.HeldLease.{HeldLease}

abbrev pub lease_of : HeldLease → model.Lease
lease_of lease = record { state = state_of lease.state; broken_to = option_map state_of lease.broken_to }
