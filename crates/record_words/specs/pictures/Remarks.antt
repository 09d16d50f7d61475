-- What is said of facts beside the lanes of a picture.
use Rattle.std.specs.Prelude.{ℕ, Bool, true, false, List, [], ◌∷◌, take}
use Rattle.std.specs.List.{filter}
use Rattle.record_words.specs.declared.pictures.picture.Remark.{Remark}

abbrev pub words_of : Remark → List ℕ
words_of remark = remark.words

abbrev pub is_said : List ℕ → Bool
is_said [] = false
is_said (byte ∷ words) = true

-- of so many facts, by what is to be said of each, in their order: of the others nothing is said
abbrev pub said_of : ℕ → List (List ℕ) → List (List ℕ)
said_of facts remarks = filter is_said (take facts remarks)
