-- Where a fault of create contexts is, and its text.
use Rattle.std.specs.Prelude.{ℕ, ◌++◌, List, codes}
use Rattle.std.specs.Fmt.{decimal}
use Rattle.lease_wire.specs.WireFaults as wire
use Rattle.lease_wire_v2.specs.declared.fault.CreateFault.{CreateFault}
use Rattle.lease_wire_v2.specs.declared.fault.CreateFault.TheVariants.{Wire, Excluded}

abbrev pub fault_place : CreateFault → ℕ
fault_place (Wire fault) = wire.fault_place fault
fault_place (Excluded place) = place

-- number, name and place
abbrev pub fault_text : CreateFault → List ℕ
fault_text (Wire fault) = wire.fault_text fault
fault_text (Excluded place) = codes "8 Excluded at " ++ decimal place
