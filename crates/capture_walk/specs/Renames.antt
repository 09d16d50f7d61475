-- When names of files may come to lead to other files. Messages that are called past have the newest one first.
use Rattle.std.specs.Prelude.{◌≡◌, ℕ, ◌==◌, ◌&&◌, ◌||◌, Bool, false, List, [], ◌∷◌, Option, Some, None}
use Rattle.std.specs.Option.{is_some}
use Rattle.std.specs.Ordering.{nat_cmp, on, then_cmp}
use Rattle.std.specs.BTreeSet.{contains}
use Rattle.std.specs.declared.cmp.Ordering.{Ordering}
use Rattle.capture_walk.specs.Notes.{rename_asked, answered, is_gap}
use Rattle.capture_walk.specs.declared.note.Seen.{Seen}
use Rattle.capture_walk.specs.declared.renames.Renaming.{Renaming}
use Rattle.capture_walk.specs.declared.renames.Renames.{Renames}

-- ---- by looking back

-- a request on a connection with a MessageId changes names
abbrev pub is_rename : ℕ → ℕ → ℕ → Option ℕ → Bool
is_rename connection id other None = false
is_rename connection id other (Some asked) = other == connection && asked == id

-- one of those that were seen does
abbrev pub was_rename : ℕ → ℕ → List Seen → Bool
was_rename connection id [] = false
was_rename connection id (seen ∷ past) =
    is_rename connection id seen.connection (rename_asked seen.note) || was_rename connection id past

abbrev pub answers_rename : Seen → Option ℕ → List Seen → Bool
answers_rename seen None past = false
answers_rename seen (Some id) past = was_rename seen.connection id past

-- Names may lead to other files after a request that changes names, after the response to one, and where something is missing,
-- which may have been one.
abbrev pub is_change : Seen → List Seen → Bool
is_change seen past =
    is_some (rename_asked seen.note) || (answers_rename seen (answered seen.note) past || is_gap seen.note)

-- ---- the table

abbrev pub renaming_order : Renaming → Renaming → Ordering
renaming_order = then_cmp (on (λ one. one.connection) nat_cmp) (on (λ one. one.id) nat_cmp)

abbrev pub renaming_at : ℕ → ℕ → Renaming
renaming_at connection id = record { connection = connection; id = id }

abbrev pub has_asked : ℕ → ℕ → Renames → Bool
has_asked connection id renames = contains renaming_order renames.asked (renaming_at connection id)

pub record KnowsRenames (past : List Seen) (renames : Renames) : Type 0 where
  pub asked : (connection id : ℕ) → has_asked connection id renames ≡ was_rename connection id past
