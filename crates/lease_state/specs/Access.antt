-- What opens do with a file, and what they let others do (MS-SMB2 2.2.13, ShareAccess).
use Rattle.std.specs.Prelude.{ℕ, ◌+◌, Bool, true, false, if◌then◌else◌, ◌&&◌, ◌||◌, not}
use Rattle.lease_state.specs.declared.access.Access.{Access}
use Rattle.lease_state.specs.declared.access.Access.TheVariants as access
use Rattle.lease_state.specs.declared.access.Share.{Share}
use Rattle.lease_state.specs.declared.access.Share.TheVariants as share

-- what is done with a file, or may be done
pub record Uses : Type 0 where
  pub read : Bool
  pub write : Bool

-- what an open of this access does
abbrev pub uses_of : Access → Uses
uses_of access.Read = record { read = true; write = false }
uses_of access.Write = record { read = false; write = true }
uses_of access.ReadWrite = record { read = true; write = true }

-- what an open of this share lets others do
abbrev pub allowed_by : Share → Uses
allowed_by share.Nothing = record { read = false; write = false }
allowed_by share.Read = record { read = true; write = false }
allowed_by share.Write = record { read = false; write = true }
allowed_by share.ReadWrite = record { read = true; write = true }

-- 2.2.13: FILE_SHARE_READ is 1 and FILE_SHARE_WRITE is 2; own: an access has the same bits
abbrev pub bits_of_uses : Uses → ℕ
bits_of_uses u = (if u.read then 1 else 0) + (if u.write then 2 else 0)

-- all that is done is allowed
abbrev pub is_within : Uses → Uses → Bool
is_within done allowed = (not done.read || allowed.read) && (not done.write || allowed.write)

-- two opens conflict where the access of one isn't within the share of the other
abbrev pub conflict : Access → Share → Access → Share → Bool
conflict access share other_access other_share =
    not (is_within (uses_of access) (allowed_by other_share)) || not (is_within (uses_of other_access) (allowed_by share))
