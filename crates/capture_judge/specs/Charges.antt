-- How steps go on to a placement: what must happen next goes to the last position at which it can.
use Rattle.std.specs.Prelude.{◌≡◌, ◌<◌, ◌≤◌, ℕ, List, Option, Some, None, length, reverse, slice_get, slice_index}
use Rattle.std.specs.Prelude.{nat_le, if◌then◌else◌}
use Rattle.capture_judge.specs.Placing.{reached, IsCleanBefore, IsPlacement}
use Rattle.capture_judge.specs.Beginnings.{newest, IsBeginning, CanWait}
use Rattle.capture_judge.specs.declared.charging.Due.{Due}
use Rattle.capture_judge.specs.declared.values.Chain.{Chain}
use Rattle.capture_judge.specs.declared.values.Change.{Change}
use Rattle.capture_judge.specs.declared.values.Charge.{Charge}
use Rattle.capture_judge.specs.declared.values.Step.{Step}

-- ---- what must happen next of a chain

-- Of the changes from an index on none must happen, up to another index.
abbrev pub NoneDue : List Change → ℕ → ℕ → Type 0
NoneDue changes from to = (k : ℕ) (change : Change) → from ≤ k → k < to → slice_get changes k ≡ Some change → change.last ≡ None

-- The first of the changes from an index on that must happen, and the lowest last position of all that must, up to another index.
pub record IsDue (changes : List Change) (from to : ℕ) (due : Due) : Type 0 where
  pub from-on : from ≤ due.change
  pub before-end : due.change < to
  pub change : Change
  pub at : slice_get changes due.change ≡ Some change
  pub last : ℕ
  pub has : change.last ≡ Some last
  pub first : NoneDue changes from due.change
  pub lowest : (k : ℕ) (other : Change) (end : ℕ) → from ≤ k → k < to → slice_get changes k ≡ Some other → other.last ≡ Some end
      → due.position ≤ end
  pub hurried : ℕ
  pub hurries : Change
  pub later : due.change ≤ hurried
  pub hurries-at : slice_get changes hurried ≡ Some hurries
  pub hurries-has : hurries.last ≡ Some due.position

abbrev pub IsNextDue : List Change → ℕ → ℕ → Option Due → Type 0
IsNextDue changes from to None = NoneDue changes from to
IsNextDue changes from to (Some due) = IsDue changes from to due

-- with one more change that must happen, by its index and its last position
abbrev pub due_with : Option Due → ℕ → ℕ → Due
due_with None change last = record { change = change; position = last }
due_with (Some due) change last =
    if nat_le due.position last then due else record { change = due.change; position = last }

-- ---- what must happen next of all chains

-- No change of the first so many chains must happen after where they have come.
abbrev pub NoneLeft : List Chain → List ℕ → ℕ → Type 0
NoneLeft chains came count = (i : ℕ) (chain : Chain) → i < count → slice_get chains i ≡ Some chain
    → NoneDue chain.changes.items (slice_index came i) (length chain.changes.items)

-- The step is to what must happen next of its chain, and nothing that must happen of the first so many chains has a lower last
-- position.
pub record IsDueStep (chains : List Chain) (came : List ℕ) (count : ℕ) (step : Step) : Type 0 where
  pub chain : Chain
  pub at : slice_get chains step.chain ≡ Some chain
  pub due : Due
  pub change-is : due.change ≡ step.change
  pub position-is : due.position ≡ step.position
  pub is : IsDue chain.changes.items (slice_index came step.chain) (length chain.changes.items) due
  pub lowest : (i : ℕ) (other : Chain) (k : ℕ) (change : Change) (end : ℕ) → i < count → slice_get chains i ≡ Some other
      → slice_index came i ≤ k → slice_get other.changes.items k ≡ Some change → change.last ≡ Some end → step.position ≤ end

abbrev pub IsNextStep : List Chain → List ℕ → ℕ → Option Step → Type 0
IsNextStep chains came count None = NoneLeft chains came count
IsNextStep chains came count (Some step) = IsDueStep chains came count step

-- of a step that is found, if there is one, and another the one with the lower position
abbrev pub sooner : Option Step → Step → Step
sooner None step = step
sooner (Some one) step = if nat_le one.position step.position then one else step

-- ---- going on

-- The steps begin a placement, clean before the position, at which or after which all that must follow can happen.
pub record GoesOn (chains : List Chain) (position : ℕ) (came : List ℕ) (past : List Step) : Type 0 where
  pub steps : IsBeginning chains past
  pub came-is : (i : ℕ) → slice_index came i ≡ reached past i
  pub count : length came ≡ length chains
  pub clean : IsCleanBefore chains position past
  pub now : ℕ
  pub reaches : position ≤ now
  pub within : newest past ≤ now
  pub waits : CanWait chains now past

-- The charge is at the position, and its steps place the changes, cleanly before it.
pub record IsCharge (chains : List Chain) (position : ℕ) (charge : Charge) : Type 0 where
  pub position-is : charge.position ≡ position
  pub placed : IsPlacement chains (reverse charge.steps.items)
  pub clean : IsCleanBefore chains position (reverse charge.steps.items)
