-- The codes of statuses (MS-ERREF 2.3.1).
use Rattle.std.specs.Prelude.{ℕ}
use Rattle.lease_state.specs.declared.status.Status.{Status}
use Rattle.lease_state.specs.declared.status.Status.TheVariants.{Unsuccessful, InvalidParameter, AccessDenied, ObjectNameNotFound}
use Rattle.lease_state.specs.declared.status.Status.TheVariants.{SharingViolation, InsufficientResources, RequestNotAccepted}
use Rattle.lease_state.specs.declared.status.Status.TheVariants.{FileClosed}

abbrev pub code_of : Status → ℕ
code_of Unsuccessful = 0xC000_0001
code_of InvalidParameter = 0xC000_000D
code_of AccessDenied = 0xC000_0022
code_of ObjectNameNotFound = 0xC000_0034
code_of SharingViolation = 0xC000_0043
code_of InsufficientResources = 0xC000_009A
code_of RequestNotAccepted = 0xC000_00D0
code_of FileClosed = 0xC000_0128
