-- What is said of a verdict.
use Rattle.std.specs.Prelude.{◌≡◌, ℕ, ◌++◌, ◌==◌, if◌then◌else◌, List, [], ◌∷◌, codes, map, length, Option, Some, None}
use Rattle.std.specs.Fmt.{decimal}
use Rattle.std.specs.List.{flat_map}
use Rattle.lease_facts.specs.Facts.{fact_of}
use Rattle.lease_reasons.specs.Extent.{IsExtent}
use Rattle.lease_reasons.specs.Reasons.{Explains}
use Rattle.lease_reasons.specs.declared.extent.Extent.{Extent}
use Rattle.lease_reasons.specs.declared.reason.Reason.{Reason}
use Rattle.lease_state.specs.declared.number.ClientNo.{ClientNo}
use Rattle.lease_facts.specs.declared.verdict.Verdict.{Verdict}
use Rattle.lease_facts.specs.declared.verdict.Verdict.TheVariants as verdict
use Rattle.record_words.specs.words.ReasonWords.{place_line, reason_lines}
use Rattle.record_words.specs.declared.words.placed.Placed.{Placed}

abbrev pub unjoined_line : ClientNo → List ℕ
unjoined_line client =
    codes "client " ++ (decimal client.0 ++ (codes " hasn't joined: its caches and cached reads aren't judged" ++ (10 ∷ [])))

abbrev pub strayed_line : ClientNo → List ℕ
strayed_line client = codes "client " ++ (decimal client.0 ++ (codes " has strayed, so nothing of it is judged" ++ (10 ∷ [])))

abbrev pub word_for : ℕ → List ℕ → List ℕ → List ℕ
word_for count one more = if count == 1 then one else more

abbrev pub count_line : ℕ → ℕ → List ℕ
count_line facts clients = codes "judged: " ++ (decimal facts ++ (codes " " ++ (word_for facts (codes "fact") (codes "facts")
    ++ (codes " of " ++ (decimal clients ++ (codes " " ++ (word_for clients (codes "client") (codes "clients")
    ++ (10 ∷ []))))))))

-- how many facts of how many clients were judged, and whose aren't
abbrev pub extent_lines : Extent → List ℕ
extent_lines extent =
    count_line extent.facts (length extent.clients.items)
    ++ (flat_map unjoined_line extent.unjoined.items ++ flat_map strayed_line extent.strayed.items)

-- the place of a bad fact
abbrev pub bad_place : Verdict → Option ℕ
bad_place verdict.Safe = None
bad_place (verdict.Unsafe place rule) = Some place
bad_place (verdict.Malformed place) = Some place

abbrev pub lines_behind : Placed → ℕ → Option Reason → List ℕ
lines_behind placed place None = []
lines_behind placed place (Some told) = reason_lines placed place told

-- the fact at the bad place, and the facts that make it so
abbrev pub bad_lines : Placed → Option ℕ → Option Reason → List ℕ
bad_lines placed None told = []
bad_lines placed (Some place) told = place_line placed place [] ++ lines_behind placed place told

-- The text says why the verdict is this one: by a reason of it, and how much was judged.
pub record IsExplained (placed : Placed) (told : Verdict) (text : List ℕ) : Type 0 where
  pub reason : Option Reason
  pub extent : Extent
  pub explains : Explains (map fact_of placed.facts.items) told reason
  pub judged : IsExtent placed.facts.items told extent
  pub text_is : text ≡ bad_lines placed (bad_place told) reason ++ extent_lines extent
