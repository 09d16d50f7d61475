-- How the search keeps its ways, and what its parts answer.
use Rattle.std.specs.Prelude.{◌≡◌, ◌≢◌, ◌+◌, ◌<◌, ◌≤◌, ◌⊎◌, ⊤, ℕ, zero, suc, Bool, true, false, List, ◌∷◌, [], Option, Some, None}
use Rattle.std.specs.Prelude.{length, drop, replicate, slice_get, slice_index, slice_set, nat_lt, nat_le, if◌then◌else◌, ◌||◌}
use Rattle.std.specs.Prelude.{is_some}
use Rattle.std.specs.List.{Contains}
use Rattle.capture_judge.specs.Placing.{height, level_of, level_at, change_of, reached, IsClean}
use Rattle.capture_judge.specs.Beginnings.{IsBeginning, CanWait, IsWay, MayTake}
use Rattle.capture_judge.specs.declared.values.Change.{Change}
use Rattle.capture_judge.specs.declared.values.Chain.{Chain}
use Rattle.capture_judge.specs.declared.values.Step.{Step}
use Rattle.capture_judge.specs.declared.ways.Link.{Link}
use Rattle.capture_judge.specs.declared.ways.Way.{Way}
use Rattle.capture_judge.specs.declared.ways.Ways.{Ways}
use Rattle.capture_judge.specs.declared.ways.TheConstants.{WAY_LIMIT}

-- ---- which chains can be placed by themselves

-- The changes that have a last position can be placed in their order: none begins after the last position of a later one.
abbrev pub IsFeasible : List Change → Type 0
IsFeasible changes = (i j : ℕ) (change other : Change) (last end : ℕ) → i ≤ j → slice_get changes i ≡ Some change
    → change.last ≡ Some last → slice_get changes j ≡ Some other → other.last ≡ Some end → change.first ≤ end

-- One of two changes begins after the last position of the other, which doesn't come before it.
pub record IsInfeasible (changes : List Change) : Type 0 where
  pub i : ℕ
  pub j : ℕ
  pub change : Change
  pub other : Change
  pub last : ℕ
  pub end : ℕ
  pub order : i ≤ j
  pub at : slice_get changes i ≡ Some change
  pub has : change.last ≡ Some last
  pub also-at : slice_get changes j ≡ Some other
  pub also-has : other.last ≡ Some end
  pub late : end < change.first

abbrev pub AreFeasible : List Chain → Type 0
AreFeasible chains = (i : ℕ) (chain : Chain) → slice_get chains i ≡ Some chain → IsFeasible chain.changes.items

abbrev pub HasInfeasible : List Chain → Type 0
HasInfeasible chains = (i : ℕ) × (chain : Chain) × (slice_get chains i ≡ Some chain) × IsInfeasible chain.changes.items

-- ---- which changes are overdue

abbrev pub overdue_or : Option ℕ → ℕ → ℕ → Bool → Bool
overdue_or None first position rest = rest
overdue_or (Some last) first position rest =
    if nat_le last position then true else (if nat_lt position first then false else rest)

-- a change that must happen at the position or before it is among these
abbrev pub is_overdue : ℕ → List Change → Bool
is_overdue position [] = false
is_overdue position (change ∷ changes) = overdue_or change.last change.first position (is_overdue position changes)

-- the same among what is left of the chains, of which the first has this index
abbrev pub is_late : ℕ → List ℕ → ℕ → List Chain → Bool
is_late position came i [] = false
is_late position came i (chain ∷ chains) =
    is_overdue position (drop (slice_index came i) chain.changes.items) || is_late position came (i + 1) chains

-- ---- levels

abbrev pub level_in : Chain → ℕ → ℕ
level_in chain zero = 0
level_in chain (suc change) = level_of (slice_get chain.changes.items change)

-- Chains of different clients have levels that go together, where each has come so far.
abbrev pub AreApart : List Chain → (ℕ → ℕ) → Type 0
AreApart chains came = (i j : ℕ) (chain other : Chain) → slice_get chains i ≡ Some chain → slice_get chains j ≡ Some other
    → chain.client ≢ other.client → level_at chains i (came i) + level_at chains j (came j) < 3

-- The same of one chain with each other.
abbrev pub IsApart : List Chain → List ℕ → ℕ → Type 0
IsApart chains came i = (j : ℕ) (chain other : Chain) → slice_get chains i ≡ Some chain → slice_get chains j ≡ Some other
    → chain.client ≢ other.client → level_in chain (slice_index came i) + level_in other (slice_index came j) < 3

-- ---- ways

-- The links that lead to this one are of these steps, the newest first.
abbrev pub Leads : List Link → ℕ → List Step → Type 0
Leads trail count [] = count ≡ 0
Leads trail count (step ∷ past) = (k : ℕ) × (link : Link) × (count ≡ suc k) × (slice_get trail k ≡ Some link)
    × (link.step ≡ step) × (link.before ≤ k) × Leads trail link.before past

-- A way that is kept, and the steps that led to it.
pub record IsKept (chains : List Chain) (position : ℕ) (trail : List Link) (way : Way) : Type 0 where
  pub past : List Step
  pub leads : Leads trail way.link past
  pub came : (i : ℕ) → slice_index way.came.items i ≡ reached past i
  pub count : length way.came.items ≡ length chains
  pub is-way : IsWay chains position past

pub record IsSearch (chains : List Chain) (position : ℕ) (search : Ways) : Type 0 where
  pub kept : (n : ℕ) (way : Way) → slice_get search.ways.items n ≡ Some way → IsKept chains position search.trail.items way
  pub apart : (m n : ℕ) (way other : Way) → m < n → slice_get search.ways.items m ≡ Some way
      → slice_get search.ways.items n ≡ Some other → way.came.items ≢ other.came.items
  pub few : length search.ways.items ≤ WAY_LIMIT

-- What is kept stays.
abbrev pub Grows : Ways → Ways → Type 0
Grows old new = (n : ℕ) (way : Way) → slice_get old.ways.items n ≡ Some way → slice_get new.ways.items n ≡ Some way

-- One of the ways has come so far.
abbrev pub Has : List Way → List ℕ → Type 0
Has ways came = (n : ℕ) × (way : Way) × (slice_get ways n ≡ Some way) × (way.came.items ≡ came)

abbrev pub after : List ℕ → Step → List ℕ
after came step = slice_set came step.chain (step.change + 1)

-- Of what is left of a chain, some change may be the next one, and may have begun by the position.
abbrev pub may_go_on : ℕ → List Change → Bool
may_go_on position [] = false
may_go_on position (change ∷ changes) =
    if nat_le change.first position then true else (if is_some change.last then false else may_go_on position changes)

-- The step doesn't raise the level of its chain, or it is due, or its chain may go on from there.
pub record Worth (chain : Chain) (came : ℕ) (step : Step) : Type 0 where
  pub change : Change
  pub is : slice_get chain.changes.items step.change ≡ Some change
  pub worth : ((height change.level ≤ level_in chain came) ⊎ (change.last ≡ Some step.position))
      ⊎ (may_go_on step.position (drop (step.change + 1) chain.changes.items) ≡ true)

pub record IsWorth (chains : List Chain) (came : ℕ) (step : Step) : Type 0 where
  pub chain : Chain
  pub at : slice_get chains step.chain ≡ Some chain
  pub worth : Worth chain came step

-- Where the step is worth its while and may be taken from there, and no two chains clash after it, one of the ways has come to
-- where it leads.
abbrev pub IsTaken : List Chain → List Way → List ℕ → Step → Type 0
IsTaken chains ways came step = IsWorth chains (slice_index came step.chain) step
    → MayTake chains (slice_index came step.chain) step
    → AreApart chains (slice_index (after came step)) → Has ways (after came step)

-- The chain hasn't come to the step's change, nor to one before it that has a last position.
pub record MayPass (chains : List Chain) (came : ℕ) (step : Step) : Type 0 where
  pub order : came ≤ step.change
  pub skips : (k : ℕ) (change : Change) → came ≤ k → k < step.change → change_of chains step.chain k ≡ Some change
      → change.last ≡ None

-- What it comes to that those of these steps that may be taken are taken from the way of an index.
pub record Took (chains : List Chain) (position : ℕ) (old new : Ways) (way : ℕ) (steps : Step → Type 0) : Type 0 where
  pub search : IsSearch chains position new
  pub grows : Grows old new
  pub taken : (w : Way) (step : Step) → slice_get old.ways.items way ≡ Some w → step.position ≡ position → steps step
      → IsTaken chains new.ways.items w.came.items step

-- ---- falls, which are taken at once

pub record Admits (change : Change) (position : ℕ) : Type 0 where
  pub first : change.first ≤ position
  pub last : (last : ℕ) → change.last ≡ Some last → position ≤ last

-- The next change of a chain that has come so far may happen at the position, and doesn't raise its level.
pub record IsFall (chain : Chain) (came position : ℕ) : Type 0 where
  pub change : Change
  pub at : slice_get chain.changes.items came ≡ Some change
  pub admits : Admits change position
  pub lower : height change.level ≤ level_in chain came

-- The step is to such a change.
pub record TakesFall (chains : List Chain) (position : ℕ) (came : List ℕ) (step : Step) : Type 0 where
  pub there : step.position ≡ position
  pub next : step.change ≡ slice_index came step.chain
  pub chain : Chain
  pub at : slice_get chains step.chain ≡ Some chain
  pub fall : IsFall chain step.change position

-- A fall is taken from where the chains have come, or each step at the position is.
abbrev pub IsDone : List Chain → ℕ → List Way → List ℕ → Type 0
IsDone chains position ways came = ((step : Step) × TakesFall chains position came step × Has ways (after came step))
    ⊎ ((step : Step) → step.position ≡ position → IsTaken chains ways came step)

pub record Went (chains : List Chain) (position : ℕ) (old new : Ways) (way : ℕ) : Type 0 where
  pub search : IsSearch chains position new
  pub grows : Grows old new
  pub done : (w : Way) → slice_get old.ways.items way ≡ Some w → IsDone chains position new.ways.items w.came.items

pub record Closed (chains : List Chain) (position : ℕ) (old new : Ways) : Type 0 where
  pub search : IsSearch chains position new
  pub grows : Grows old new
  pub done : (n : ℕ) (w : Way) → slice_get new.ways.items n ≡ Some w → IsDone chains position new.ways.items w.came.items

-- The chain has come further, and since it came there it was never lower than it is now.
abbrev pub Ahead : List Chain → ℕ → ℕ → ℕ → Type 0
Ahead chains i far came = (came ≤ far) × ((j : ℕ) → came ≤ j → j ≤ far → level_at chains i far ≤ level_at chains i j)

-- The chain lacks one step, taken by the position, that didn't lower its level.
pub record Behind (chains : List Chain) (position i far came : ℕ) : Type 0 where
  pub step : Step
  pub on : step.chain ≡ i
  pub to : came ≡ suc step.change
  pub by : step.position ≤ position
  pub may : MayTake chains far step
  pub higher : level_at chains i far ≤ level_at chains i came

-- Each chain is ahead of where the steps have brought it, or lacks its last one.
abbrev pub Follows : List Chain → ℕ → (ℕ → ℕ) → (ℕ → ℕ) → Type 0
Follows chains position far came = (i : ℕ) → Ahead chains i (far i) (came i) ⊎ Behind chains position i (far i) (came i)

-- ---- positions

-- The last positions of the changes are among the new ones, and so are the old ones.
pub record Includes (old new : List ℕ) (changes : List Change) : Type 0 where
  pub kept : (position : ℕ) → Contains old position → Contains new position
  pub all : (i : ℕ) (change : Change) (last : ℕ) → slice_get changes i ≡ Some change → change.last ≡ Some last
      → Contains new last

-- The last positions of all changes are among these.
abbrev pub IncludesAll : List ℕ → List Chain → Type 0
IncludesAll positions chains = (n : ℕ) (chain : Chain) (i : ℕ) (change : Change) (last : ℕ) → slice_get chains n ≡ Some chain
    → slice_get chain.changes.items i ≡ Some change → change.last ≡ Some last → Contains positions last

-- ---- what the parts of the search answer

-- no chain has begun
pub record IsStart (count : ℕ) (way : Way) : Type 0 where
  pub came : way.came.items ≡ replicate count 0
  pub link : way.link ≡ 0

pub record StartsAlone (count : ℕ) (search : Ways) : Type 0 where
  pub way : Way
  pub alone : search.ways.items ≡ way ∷ []
  pub start : IsStart count way

-- The step may be taken from the way of this index, and no way has come to where it leads.
pub record MayKeep (chains : List Chain) (search : Ways) (way : ℕ) (step : Step) (came : List ℕ) : Type 0 where
  pub from : Way
  pub at : slice_get search.ways.items way ≡ Some from
  pub may : MayTake chains (slice_index from.came.items step.chain) step
  pub leads : came ≡ after from.came.items step
  pub apart : AreApart chains (slice_index came)
  pub new : Has search.ways.items came → ⊥

pub record Keeps (chains : List Chain) (position : ℕ) (old new : Ways) (came : List ℕ) : Type 0 where
  pub search : IsSearch chains position new
  pub grows : Grows old new
  pub has : Has new.ways.items came

-- ---- the search between two positions

abbrev pub IsBefore : ℕ → List Step → Type 0
IsBefore bound [] = ⊤
IsBefore bound (step ∷ past) = step.position < bound

-- The ways that are kept are clean beginnings that can wait until the bound, each of steps before it, and of each of these one is
-- kept that follows it. The positions from an index on are those from the bound on at which some change must have happened.
pub record Stands (chains : List Chain) (positions : List ℕ) (next : ℕ) (search : Ways) : Type 0 where
  pub bound : ℕ
  pub later : (j : ℕ) → next ≤ j → j < length positions → bound ≤ slice_index positions j
  pub lasts : (i k : ℕ) (change : Change) (last : ℕ) → change_of chains i k ≡ Some change → change.last ≡ Some last
      → bound ≤ last → (j : ℕ) × (next ≤ j) × (j < length positions) × (slice_index positions j ≡ last)
  pub kept : (n : ℕ) (way : Way) → slice_get search.ways.items n ≡ Some way → IsKept chains bound search.trail.items way
  pub apart : (m n : ℕ) (way other : Way) → m < n → slice_get search.ways.items m ≡ Some way
      → slice_get search.ways.items n ≡ Some other → way.came.items ≢ other.came.items
  pub few : length search.ways.items ≤ WAY_LIMIT
  pub some : 0 < length search.ways.items
  pub covers : (past : List Step) → IsBeginning chains past → IsClean chains past → IsBefore bound past
      → CanWait chains bound past
      → (n : ℕ) × (way : Way) × (slice_get search.ways.items n ≡ Some way)
      × Follows chains bound (slice_index way.came.items) (reached past)
