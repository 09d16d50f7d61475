-- Where facts stand in a record. A place counts facts from 1, so a fact stands at the place after its past.
use Rattle.std.specs.Prelude.{ℕ, ◌+◌, Bool, List, [], ◌∷◌, length, map, reverse, Option, Some, None, if◌then◌else◌, ◌&&◌, nat_le}
use Rattle.lease_facts.specs.Facts.{fact_of}
use Rattle.lease_facts.specs.declared.fact.Fact as code
use Rattle.lease_model.specs.records.Facts.{Fact}

-- facts as a past, the newest first
abbrev pub past_of : List code.Fact → List Fact
past_of facts = reverse (map fact_of facts)

-- where the last of those facts stands that pass the test
unfoldable pub last_place : (Fact → Bool) → List Fact → Option ℕ
last_place test [] = None
last_place test (fact ∷ past) = if test fact then Some (length past + 1) else last_place test past

abbrev pub earlier : Option ℕ → Option ℕ → Option ℕ
earlier None later = later
earlier (Some place) later = Some place

-- where the first of those facts stands, after a place, that pass the test
unfoldable pub first_place : (Fact → Bool) → ℕ → List Fact → Option ℕ
first_place test behind [] = None
first_place test behind (fact ∷ past) =
    earlier (first_place test behind past) (if nat_le behind (length past) && test fact then Some (length past + 1) else None)
