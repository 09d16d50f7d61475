-- The words in which a fault is told, and the faults of a message that has a fixed size.
use Rattle.std.specs.Prelude.{ℕ, ◌++◌, ◌==◌, nat_lt, if◌then◌else◌, List, length, codes, Option, Some, None}
use Rattle.std.specs.Fmt.{decimal}
use Rattle.lease_wire.specs.Field.{number_at}
use Rattle.lease_wire.specs.declared.fault.WireFault.{WireFault}
use Rattle.lease_wire.specs.declared.fault.WireFault.TheVariants.{Short, WrongSize, BadNext, BadName, BadData, BadLength, Twice}

abbrev pub fault_number : WireFault → ℕ
fault_number (Short place) = 1
fault_number (WrongSize place) = 2
fault_number (BadNext place) = 3
fault_number (BadName place) = 4
fault_number (BadData place) = 5
fault_number (BadLength place) = 6
fault_number (Twice place) = 7

abbrev pub fault_name : WireFault → List ℕ
fault_name (Short place) = codes "Short"
fault_name (WrongSize place) = codes "WrongSize"
fault_name (BadNext place) = codes "BadNext"
fault_name (BadName place) = codes "BadName"
fault_name (BadData place) = codes "BadData"
fault_name (BadLength place) = codes "BadLength"
fault_name (Twice place) = codes "Twice"

abbrev pub fault_place : WireFault → ℕ
fault_place (Short place) = place
fault_place (WrongSize place) = place
fault_place (BadNext place) = place
fault_place (BadName place) = place
fault_place (BadData place) = place
fault_place (BadLength place) = place
fault_place (Twice place) = place

-- the same fault at another place
abbrev pub fault_at : ℕ → WireFault → WireFault
fault_at place (Short other) = Short place
fault_at place (WrongSize other) = WrongSize place
fault_at place (BadNext other) = BadNext place
fault_at place (BadName other) = BadName place
fault_at place (BadData other) = BadData place
fault_at place (BadLength other) = BadLength place
fault_at place (Twice other) = Twice place

-- number, name and place
abbrev pub fault_text : WireFault → List ℕ
fault_text fault =
    decimal (fault_number fault) ++ codes " " ++ fault_name fault ++ codes " at " ++ decimal (fault_place fault)

-- Why bytes don't begin with a message of so many bytes, whose StructureSize tells that number: they are
-- fewer, or else StructureSize is another.
abbrev pub message_fault : ℕ → List ℕ → Option WireFault
message_fault size bytes =
    if nat_lt (length bytes) size then Some (Short 0)
    else if number_at 0 2 bytes == size then None
    else Some (WrongSize 0)
