-- What the numbers of an open stand for, and whether two opens conflict.
use Rattle.std.specs.Prelude.{ℕ, Bool, true, false, ◌==◌, Option, Some, None}
use Rattle.std.specs.Int.RustNames.{bit_and}
use Rattle.lease_state.specs.Access.{conflict}
use Rattle.lease_state.specs.declared.access.Access.{Access}
use Rattle.lease_state.specs.declared.access.Share.{Share}

-- an open that neither reads nor writes has no access in the profile
abbrev pub access_of : Bool → Bool → Option Access
access_of false false = None
access_of true false = Some Access.Read
access_of false true = Some Access.Write
access_of true true = Some Access.ReadWrite

-- the bit of value 1 is reading, that of value 2 writing; others name nothing
abbrev pub access_of_bits : ℕ → Option Access
access_of_bits bits = access_of (bit_and bits 1 == 1) (bit_and bits 2 == 2)

abbrev pub share_of : Bool → Bool → Share
share_of false false = Share.Nothing
share_of true false = Share.Read
share_of false true = Share.Write
share_of true true = Share.ReadWrite

abbrev pub share_of_bits : ℕ → Share
share_of_bits bits = share_of (bit_and bits 1 == 1) (bit_and bits 2 == 2)

-- two opens conflict (MS-SMB2 2.2.13, 3.3.5.9); one that neither reads nor writes conflicts with none (profile)
abbrev pub conflict_of : Option Access → Share → Option Access → Share → Bool
conflict_of None share other_access other_share = false
conflict_of (Some access) share None other_share = false
conflict_of (Some access) share (Some other_access) other_share = conflict access share other_access other_share
