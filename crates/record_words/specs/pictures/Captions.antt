-- What the marks of a picture say: one for each fact, in order.
use Rattle.std.specs.Prelude.{ℕ, ◌+◌, ◌==◌, Bool, List, [], ◌∷◌}
use Rattle.std.specs.List.{list_any}
use Rattle.lease_facts.specs.declared.fact.Fact.{Fact}
use Rattle.lease_facts.specs.declared.fact.FactKind.{FactKind}
use Rattle.lease_facts.specs.Facts.{kind_of}
use Rattle.record_words.specs.declared.pictures.picture.Caption.{Caption}
use Rattle.record_words.specs.declared.pictures.picture.Mark.{Mark}

-- a caption, of whose words nothing is said here
pub record Seen : Type 0 where
  pub place : ℕ
  pub kind : FactKind
  pub is_bad : Bool

abbrev pub seen_caption : Caption → Seen
seen_caption caption = record { place = caption.place; kind = caption.kind; is_bad = caption.is_bad }

abbrev pub seen_mark : Mark → Seen
seen_mark mark = seen_caption mark.caption

-- what is said of the fact at a place, where these places are bad
abbrev pub caption_of : List ℕ → ℕ → Fact → Seen
caption_of bad place fact = record { place = place; kind = kind_of fact; is_bad = list_any (λ one. one == place) bad }

-- what is said of facts whose places are counted on from one
unfoldable pub captions : List ℕ → ℕ → List Fact → List Seen
captions bad place [] = []
captions bad place (fact ∷ facts) = caption_of bad place fact ∷ captions bad (place + 1) facts
