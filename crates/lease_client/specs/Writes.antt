-- What is kept with writes that aren't answered.
use Rattle.std.specs.Prelude.{◌≡◌, ◌≤◌, ⊤, ℕ, Bool, true, Option, Some, None, List, length, take}
use Rattle.std.specs.List.{list_all}
use Rattle.std.specs.List.Sorted.{IsNonDecreasingBy}
use Rattle.lease_state.specs.Content.{patches}
use Rattle.lease_model.specs.client.State.{Pending, patches_of}
use Rattle.lease_client.specs.declared.writes.shown.Shown.{Shown}

-- no number is below the one before it
abbrev pub IsRising : List Pending → Type 0
IsRising writes = IsNonDecreasingBy (λ write. write.number) writes

-- bytes with the first of the writes over them
pub record IsShown (writes : List Pending) (shown : Shown) : Type 0 where
  pub within : shown.count ≤ length writes
  pub over : shown.bytes ≡ patches shown.base (patches_of (take shown.count writes))

-- these bytes with all of the writes over them
pub record ShowsAll (below : List ℕ) (writes : List Pending) (shown : Shown) : Type 0 where
  pub base : shown.base ≡ below
  pub bytes : shown.bytes ≡ patches below (patches_of writes)
  pub count : shown.count ≡ length writes

abbrev pub IsShownIfAny : List Pending → Option Shown → Type 0
IsShownIfAny writes None = ⊤
IsShownIfAny writes (Some shown) = IsShown writes shown

-- The numbers rise and the writes are buffered where that is told, and what is shown is so.
pub record AreKept (writes : List Pending) (is_rising is_buffered : Bool) (seen : Option Shown) : Type 0 where
  pub rising : is_rising ≡ true → IsRising writes
  pub buffered : is_buffered ≡ true → list_all (λ write. write.buffered) writes ≡ true
  pub shown : IsShownIfAny writes seen
