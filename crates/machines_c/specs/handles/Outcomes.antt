-- What becomes of a machine that a handle holds, and what is written into a caller's room.
use Rattle.std.specs.Prelude.{◌≡◌, ℕ, ◌<◌, ◌≤◌, ◌++◌, List, length, drop, Option, Some, None}
use Rattle.machines_c.specs.declared.handles.outcome.Outcome.{Outcome}
use Rattle.machines_c.specs.declared.handles.outcome.Outcome.TheVariants as outcome

-- outcomes as numbers
abbrev pub code_of : Outcome → ℕ
code_of outcome.Done = 0
code_of outcome.NoMemory = 1
code_of outcome.Lost = 2
code_of outcome.Nothing = 3
code_of outcome.NoSuch = 4
code_of outcome.Damaged = 5
code_of outcome.Unlawful = 6

-- A call of the machine of a handle, where its arguments stand for something. Where the call is done, what was held
-- and what is held are in this relation; the machine is lost only where it may be.
abbrev pub IsCall : {X : Type 0} → (X → X → Type 0) → (X → Type 0) → ℕ → Option X → Option X → Type 0
IsCall Came MayBeLost result None None = result ≡ code_of outcome.Nothing
IsCall Came MayBeLost result None (Some new) = ⊥
IsCall Came MayBeLost result (Some old) None = (result ≡ code_of outcome.Lost) × MayBeLost old
IsCall Came MayBeLost result (Some old) (Some new) = (result ≡ code_of outcome.Done) × Came old new

-- what a call gives that only reads
abbrev pub reading : {X : Type 0} → Option X → ℕ
reading None = code_of outcome.Nothing
reading (Some x) = code_of outcome.Done

-- Bytes are written to the front of a room that holds them, and else nothing is written.
pub record IsFilled (bytes : List ℕ) (old new : List ℕ) : Type 0 where
  pub written : length bytes ≤ length old → new ≡ bytes ++ drop (length bytes) old
  pub no_room : length old < length bytes → new ≡ old
