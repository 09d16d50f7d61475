-- What is true of the definitions.
use Rattle.std.specs.Prelude.{◌≡◌, ◌⊎◌, ◌↔◌, ⊤, false, List, [], ◌∷◌, ◌++◌, Some}
use Rattle.capture_walk.specs.Opens.{opens, made, ends}
use Rattle.capture_walk.specs.declared.note.Seen.{Seen}
use Rattle.capture_walk.specs.declared.opens.Open.{Open}

abbrev pub IsAmong : Open → List Open → Type 0
IsAmong one [] = ⊥
IsAmong one (other ∷ held) = (other ≡ one) ⊎ IsAmong one held

-- None of these messages ended the open, where those came before them.
abbrev pub NoneEnds : Open → List Seen → List Seen → Type 0
NoneEnds one [] before = ⊤
NoneEnds one (seen ∷ later) before = (ends (made seen (later ++ before)) seen one ≡ false) × NoneEnds one later before

-- Some message made the open, and none since has ended it.
pub record IsOpen (one : Open) (past : List Seen) : Type 0 where
  pub later : List Seen
  pub seen : Seen
  pub earlier : List Seen
  pub is : past ≡ later ++ seen ∷ earlier
  pub makes : made seen earlier ≡ Some one
  pub kept : NoneEnds one later (seen ∷ earlier)

-- The opens that there are after messages are those that were made and not ended since.
abbrev pub OpensAreMade : Type 0
OpensAreMade = (one : Open) (past : List Seen) → IsAmong one (opens past) ↔ IsOpen one past
