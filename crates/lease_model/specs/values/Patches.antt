-- Patches against the limit of a file, and against one another. What a patch makes of a content stands
-- with the values that server and client share.
use Rattle.std.specs.Prelude.{Bool, nat_le, ◌==◌, ◌&&◌, bytes_eq}
use Rattle.lease_state.specs.Content.{end_of}
use Rattle.lease_state.specs.declared.content.TheConstants.{FILE_LIMIT}
use Rattle.lease_state.specs.declared.patch.Patch.{Patch}

-- the patch ends within the limit of a file (own: also where it has no bytes)
abbrev pub is_within_limit : Patch → Bool
is_within_limit patch = nat_le (end_of patch) FILE_LIMIT

abbrev pub same_patch : Patch → Patch → Bool
same_patch one other = one.offset == other.offset && bytes_eq one.bytes other.bytes
