-- Sets of caching rights: what the one caches the other may cache too (MS-SMB2 2.2.13.2.8).
use Rattle.std.specs.Prelude.{Bool, ◌&&◌}
use mathlib.Core.Bool.{beq}
use Rattle.lease_state.specs.State.{State}
pub use Rattle.lease_state.specs.State.{holds_any, meet, without_write, without_handle}

abbrev pub same_state : State → State → Bool
same_state one other = beq one.read other.read && beq one.write other.write && beq one.handle other.handle
