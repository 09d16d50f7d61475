-- The marks of requests: one for each request that is sent, in order.
use Rattle.std.specs.Prelude.{ℕ, ◌+◌, nat_lt, List, [], ◌∷◌, length, if◌then◌else◌}
use Rattle.lease_facts.specs.declared.passage.Passage.{Passage}
use Rattle.lease_facts.specs.declared.passage.Passage.TheVariants as passage
use Rattle.record_words.specs.declared.pictures.picture.RequestMark.{RequestMark}

-- its place among the requests, from 1
abbrev pub seen_request : RequestMark → ℕ
seen_request mark = mark.place

-- those of the requests that are sent, counted on from one
unfoldable pub asked_from : ℕ → List Passage → List ℕ
asked_from place [] = []
asked_from place (passage.Sent client request facts ∷ passages) = place ∷ asked_from (place + 1) passages
asked_from place (_ ∷ passages) = asked_from place passages

-- what is drawn: all of them, or none where there are more than 5000
abbrev pub requests_drawn : List Passage → List ℕ
requests_drawn passages = if nat_lt 5000 (length (asked_from 1 passages)) then [] else asked_from 1 passages
