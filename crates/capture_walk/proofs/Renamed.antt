-- Requests that change names, after one more.
use Rattle.std.proofs.Common.{◌≡◌, ℕ, ◌||◌, Bool, true, List, ◌∷◌, Option, Some, ap, sym, ◌∙◌, arith}
use Rattle.std.proofs.lemmas.Bool.Decides.{nat_tests}
use Rattle.std.specs.BTreeSet.{BTreeSet, Updates, contains}
use Rattle.capture_walk.specs.Notes.{rename_asked}
use Rattle.capture_walk.specs.Renames.{renaming_at, renaming_order, is_rename, has_asked, KnowsRenames}
use Rattle.capture_walk.specs.declared.note.Seen.{Seen}
use Rattle.capture_walk.specs.declared.renames.Renaming.{Renaming}
use Rattle.capture_walk.specs.declared.renames.Renames.{Renames}

has_one_more : (old new : BTreeSet Renaming) (other asked : ℕ) → Updates renaming_order old new (renaming_at other asked) true
    → (connection id : ℕ) → contains renaming_order new (renaming_at connection id)
    ≡ (is_rename connection id other (Some asked) || contains renaming_order old (renaming_at connection id))
has_one_more old new other asked updates connection id =
    let now = updates.0 (renaming_at connection id) in grind (arith, nat_tests, now)

pub knows_one_more : (seen : Seen) (asked : ℕ) (past : List Seen) (before after : Renames) → rename_asked seen.note ≡ Some asked
    → Updates renaming_order before.asked after.asked (renaming_at seen.connection asked) true
    → KnowsRenames past before → KnowsRenames (seen ∷ past) after
knows_one_more seen asked past before after is updates knows = record {
  asked = λ connection id.
      let was = has_asked connection id before in
      has_one_more before.asked after.asked seen.connection asked updates connection id
      ∙ (ap (λ (one : Option ℕ). is_rename connection id seen.connection one || was) (sym is)
      ∙ ap (λ (b : Bool). is_rename connection id seen.connection (rename_asked seen.note) || b) (knows.asked connection id));
}
