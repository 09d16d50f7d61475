-- What numbers from C stand for.
use Rattle.std.specs.Prelude.{ℕ, Bool, not, Option, Some, None, if◌then◌else◌, ◌==◌}
use Rattle.lease_manager.specs.declared.values.extent.Extent as coded
use Rattle.lease_model.specs.server.GivingUp.{Extent}
use Rattle.lease_state.specs.Status.{code_of}
use Rattle.lease_state.specs.declared.access.Access.{Access}
use Rattle.lease_state.specs.declared.access.Access.TheVariants as access
use Rattle.lease_state.specs.declared.access.Share.{Share}
use Rattle.lease_state.specs.declared.access.Share.TheVariants as share
use Rattle.lease_state.specs.declared.status.Status.{Status}
use Rattle.lease_state.specs.declared.status.Status.TheVariants as status

-- 1 for reading, plus 2 for writing; no other number is an access
abbrev pub access_of : ℕ → Option Access
access_of n = if n == 1 then Some access.Read else if n == 2 then Some access.Write else if n == 3 then Some access.ReadWrite
    else None

-- 0 for nothing, 1 for reading, plus 2 for writing; no other number is a share
abbrev pub share_of : ℕ → Option Share
share_of n = if n == 0 then Some share.Nothing else if n == 1 then Some share.Read else if n == 2 then Some share.Write
    else if n == 3 then Some share.ReadWrite else None

-- the status of this code; any other code is that of a request that failed
abbrev pub status_of : ℕ → Status
status_of n = if n == code_of status.InvalidParameter then status.InvalidParameter
    else if n == code_of status.AccessDenied then status.AccessDenied
    else if n == code_of status.ObjectNameNotFound then status.ObjectNameNotFound
    else if n == code_of status.SharingViolation then status.SharingViolation
    else if n == code_of status.InsufficientResources then status.InsufficientResources
    else if n == code_of status.RequestNotAccepted then status.RequestNotAccepted
    else if n == code_of status.FileClosed then status.FileClosed
    else status.Unsuccessful

-- 1 for handles, 2 for all that is cached; no other number says what is to be given up
abbrev pub extent_given : ℕ → Option Extent
extent_given n = if n == 1 then Some Extent.Handles else if n == 2 then Some Extent.All else None

abbrev pub extent_coded : ℕ → Option coded.Extent
extent_coded n = if n == 1 then Some coded.TheVariants.Handles else if n == 2 then Some coded.TheVariants.All else None

-- a flag is set by any number but 0
abbrev pub is_set : ℕ → Bool
is_set n = not (n == 0)

abbrev pub flag_of : Bool → ℕ
flag_of b = if b then 1 else 0
