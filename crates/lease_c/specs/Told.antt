-- How a call tells whether there was a fault, and which one.
use Rattle.std.specs.Prelude.{Option, Some, None}
use Rattle.lease_wire.specs.WireFaults.{fault_number, fault_place}
use Rattle.lease_wire.specs.declared.fault.WireFault.{WireFault}
use Rattle.lease_c.specs.declared.fault.LeaseFault.{LeaseFault}

-- no fault is told by zeros, a fault by its number, which is none of these, and its place
abbrev pub told : Option WireFault → LeaseFault
told None = record { place = 0; kind = 0; reserved = 0 }
told (Some fault) = record { place = fault_place fault; kind = fault_number fault; reserved = 0 }
