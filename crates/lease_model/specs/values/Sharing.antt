-- Access and share access of opens (MS-SMB2 2.2.13; conflicts: MS-FSA 2.1.5.1.2.2 by 3.3.5.9).
use Rattle.std.specs.Prelude.{Bool, true, false}
use Rattle.lease_state.specs.Access.{uses_of}
use Rattle.lease_state.specs.declared.access.Access.{Access}
use Rattle.lease_state.specs.declared.access.Share.{Share}

abbrev pub may_read : Access → Bool
may_read access = (uses_of access).read

abbrev pub may_write : Access → Bool
may_write access = (uses_of access).write

abbrev pub same_access : Access → Access → Bool
same_access Access.Read Access.Read = true
same_access Access.Write Access.Write = true
same_access Access.ReadWrite Access.ReadWrite = true
same_access _ _ = false

abbrev pub same_share : Share → Share → Bool
same_share Share.Nothing Share.Nothing = true
same_share Share.Read Share.Read = true
same_share Share.Write Share.Write = true
same_share Share.ReadWrite Share.ReadWrite = true
same_share _ _ = false

-- the access that does what either does
abbrev pub either_access : Access → Access → Access
either_access Access.Read Access.Read = Access.Read
either_access Access.Write Access.Write = Access.Write
either_access _ _ = Access.ReadWrite

-- the share that lets others do what both let them do
abbrev pub both_share : Share → Share → Share
both_share Share.ReadWrite other = other
both_share share Share.ReadWrite = share
both_share Share.Read Share.Read = Share.Read
both_share Share.Write Share.Write = Share.Write
both_share _ _ = Share.Nothing
