-- Faults by their numbers: the name of each, and the status that answers it.
use Rattle.std.specs.Prelude.{ℕ, ◌==◌, ◌++◌, if◌then◌else◌, List, [], ◌∷◌, Option, Some, None}
use Rattle.lease_state.specs.Status.{code_of}
use Rattle.lease_state.specs.declared.status.Status.{Status}
use Rattle.lease_wire.specs.WireFaults.{fault_name}
use Rattle.lease_wire.specs.declared.fault.WireFault.{WireFault}
use Rattle.lease_wire.specs.declared.fault.WireFault.TheVariants.{Short, WrongSize, BadNext, BadName, BadData, BadLength, Twice}

-- the fault of this number, at place 0; no other number stands for one
abbrev pub fault_of_kind : ℕ → Option WireFault
fault_of_kind kind =
    if kind == 1 then Some (Short 0)
    else (if kind == 2 then Some (WrongSize 0)
    else (if kind == 3 then Some (BadNext 0)
    else (if kind == 4 then Some (BadName 0)
    else (if kind == 5 then Some (BadData 0)
    else (if kind == 6 then Some (BadLength 0)
    else (if kind == 7 then Some (Twice 0) else None))))))

-- the name as C has texts, with a byte of 0 after it; no bytes where the number stands for no fault
abbrev pub name_bytes : Option WireFault → List ℕ
name_bytes None = []
name_bytes (Some fault) = fault_name fault ++ 0 ∷ []

-- Contexts and acknowledgments that can't be read are answered so (3.3.5.9, 3.3.5.22.2).
abbrev pub status_of_kind : ℕ → ℕ
status_of_kind kind = if kind == 0 then 0 else code_of Status.InvalidParameter
