-- What a client believes of a file's lease, and since where.
use Rattle.std.specs.Prelude.{◌≡◌, ◌≢◌, ⊤, ℕ, ◌+◌, Bool, true, List, ◌∷◌, [], length, Option, Some, None, MatchOption}
use Rattle.std.specs.Prelude.{if◌then◌else◌, ◌==◌, ◌&&◌, not, false, slice_get, unwrap_or}
use Rattle.std.specs.List.{list_any, filter, find, flat_map}
use Rattle.std.specs.Option.{option_to_list}
use Rattle.lease_state.specs.State.{State, state_of, nothing_cached}
use Rattle.lease_model.specs.records.Facts.{Fact}
use Rattle.lease_model.specs.records.Past.{is_good, believed}
use Rattle.lease_model.specs.values.LeaseStates.{holds_any}
use Rattle.lease_reasons.specs.declared.beliefs.Rivals.{Rivals}
use Rattle.lease_reasons.specs.declared.last_beliefs.LastBeliefs.{LastBeliefs}
use Rattle.lease_reasons.specs.declared.reason.Belief.{Belief}

pub record Noted : Type 0 where
  pub place : ℕ
  pub state : State

-- the last belief that the client noted of the file
unfoldable pub last_noted : ℕ → ℕ → List Fact → Option Noted
last_noted client file [] = None
last_noted client file (Fact.Believes other of_file state ∷ past) =
    if other == client && of_file == file
    then Some (record { place = length past + 1; state = state })
    else last_noted client file past
last_noted client file (_ ∷ past) = last_noted client file past

-- A good client's last belief of the file stands there, and is this.
pub record Holds (past : List Fact) (file : ℕ) (belief : Belief) : Type 0 where
  pub good : is_good belief.client.0 past ≡ true
  pub noted : last_noted belief.client.0 file past ≡ Some (record { place = belief.place; state = state_of belief.state })

-- Two good clients believe something of one file, and one of them that it may cache writes.
pub record AreRivals (past : List Fact) (file : ℕ) (writer other : Belief) : Type 0 where
  pub apart : other.client.0 ≢ writer.client.0
  pub one : Holds past file writer
  pub two : Holds past file other
  pub writes : (state_of writer.state).write ≡ true
  pub caches : holds_any (state_of other.state) ≡ true

-- ---- lists of beliefs

abbrev pub Each : {X : Type 0} → (X → Type 0) → List X → Type 0
Each P [] = ⊤
Each P (x ∷ xs) = P x × Each P xs

abbrev pub noted_of : Belief → Noted
noted_of belief = record { place = belief.place; state = state_of belief.state }

-- ---- tables of beliefs

-- the belief of a client, by the numbers of clients
abbrev pub cell_in : List (Option Belief) → ℕ → Option Belief
cell_in cells client = unwrap_or (slice_get cells client) None

-- the beliefs of a file, by the numbers of files
abbrev pub row_in : List (List (Option Belief)) → ℕ → List (Option Belief)
row_in rows file = unwrap_or (slice_get rows file) []

abbrev pub is_empty : List (Option Belief) → Bool
is_empty cells = length cells == 0

-- The belief stands in place of an earlier one of its client.
pub record HasCell (belief : Belief) (before now : List (Option Belief)) : Type 0 where
  pub cells : (client : ℕ) → cell_in now client ≡ (if client == belief.client.0 then Some belief else cell_in before client)
  pub filled : is_empty now ≡ false

abbrev pub HasSameCells : List (Option Belief) → List (Option Belief) → Type 0
HasSameCells before now = (client : ℕ) → cell_in now client ≡ cell_in before client

abbrev pub HasSameRows : List (List (Option Belief)) → List (List (Option Belief)) → Type 0
HasSameRows before now = (file : ℕ) → row_in now file ≡ row_in before file

-- No file is left out of which a belief is in the table.
abbrev pub AreListed : LastBeliefs → Type 0
AreListed beliefs =
    (file : ℕ) → is_empty (row_in beliefs.rows.items file) ≡ false → list_any (λ f. f.0 == file) beliefs.files.items ≡ true

-- The belief of the file stands in place of an earlier one of its client.
pub record HasBelief (file : ℕ) (belief : Belief) (before now : LastBeliefs) : Type 0 where
  pub cells : (f client : ℕ) → cell_in (row_in now.rows.items f) client ≡
      (if f == file && client == belief.client.0 then Some belief else cell_in (row_in before.rows.items f) client)
  pub listed : AreListed before → AreListed now

-- It is the last belief of the file that the client noted; nothing, if it noted none.
abbrev pub IsLast : List Fact → ℕ → ℕ → Option Belief → Type 0
IsLast past file client None = last_noted client file past ≡ None
IsLast past file client (Some belief) = (belief.client.0 ≡ client) × (last_noted client file past ≡ Some (noted_of belief))

abbrev pub AreLastOf : List Fact → ℕ → List (Option Belief) → Type 0
AreLastOf past file cells = (client : ℕ) → IsLast past file client (cell_in cells client)

-- The table has the last belief of each client of each file, and the list the files of which it has some.
pub record AreLast (past : List Fact) (beliefs : LastBeliefs) : Type 0 where
  pub cells : (file : ℕ) → AreLastOf past file (row_in beliefs.rows.items file)
  pub listed : AreListed beliefs

-- ---- rivals

-- the belief is one of a client that passes as good, and holds something
abbrev pub may_clash : (ℕ → Bool) → Belief → Bool
may_clash good belief = holds_any (state_of belief.state) && good belief.client.0

-- those in a row of a table that may go ill with another
abbrev pub clashing : (ℕ → Bool) → List (Option Belief) → List Belief
clashing good cells = filter (may_clash good) (flat_map option_to_list cells)

abbrev pub rivals_of : Belief → Option Belief → Option Rivals
rivals_of writer None = None
rivals_of writer (Some other) = Some (record { writer = writer; other = other })

abbrev pub rivals_with : List Belief → Option Belief → Option Rivals
rivals_with beliefs None = None
rivals_with beliefs (Some writer) = rivals_of writer (find (λ other. not (other.client.0 == writer.client.0)) beliefs)

-- the first of the beliefs that may cache writes, and the first of another client
abbrev pub rivals_among : List Belief → Option Rivals
rivals_among beliefs = rivals_with beliefs (find (λ belief. (state_of belief.state).write) beliefs)

-- Of the file no good client believes that it may cache writes while another caches anything.
abbrev pub HasNoRivals : List Fact → ℕ → Type 0
HasNoRivals past file = (client other : ℕ) → other ≢ client → is_good client past ≡ true → (believed client file past).write ≡
    true
    → is_good other past ≡ true → believed other file past ≡ nothing_cached

-- These are rivals, or there are none.
abbrev pub AreRivalsIfAny : List Fact → ℕ → Option Rivals → Type 0
AreRivalsIfAny past file found =
    MatchOption found (HasNoRivals past file) (λ rivals. AreRivals past file rivals.writer rivals.other)
