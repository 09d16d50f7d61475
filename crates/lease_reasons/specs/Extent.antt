-- How much of a record was judged: how many facts, of which clients.
use Rattle.std.specs.Prelude.{◌≡◌, ℕ, List, [], ◌∷◌, ◌++◌, Option, Some, None, if◌then◌else◌, ◌==◌, not, length, map, take, min}
use Rattle.std.specs.List.{list_any, filter}
use Rattle.lease_facts.specs.Facts.{client_about}
use Rattle.lease_facts.specs.declared.fact.Fact as code
use Rattle.lease_model.specs.records.Past.{has_joined, has_strayed}
use Rattle.lease_state.specs.declared.number.ClientNo.{ClientNo}
use Rattle.lease_reasons.specs.Places.{past_of}
use Rattle.lease_reasons.specs.declared.extent.Extent.{Extent}
use Rattle.lease_model.specs.records.Facts.{Fact}
use Rattle.lease_facts.specs.declared.verdict.Verdict.{Verdict}
use Rattle.lease_facts.specs.declared.verdict.Verdict.TheVariants as verdict

abbrev pub with_client : List ℕ → Option ℕ → List ℕ
with_client clients None = clients
with_client clients (Some client) = if list_any (λ other. other == client) clients then clients else clients ++ client ∷ []

-- the clients that facts are about, each once, in the order in which they come
unfoldable pub clients_named : List Fact → List ℕ
clients_named [] = []
clients_named (fact ∷ past) = with_client (clients_named past) (client_about fact)

abbrev pub numbers : List ClientNo → List ℕ
numbers clients = map (λ client. client.0) clients

-- a judge goes no further than the first bad fact
abbrev pub judged_count : ℕ → Verdict → ℕ
judged_count count verdict.Safe = count
judged_count count (verdict.Unsafe place rule) = min count place
judged_count count (verdict.Malformed place) = min count place

-- So many of the facts were judged, of these clients; some of these didn't join, and some strayed.
pub record IsExtent (facts : List code.Fact) (told : Verdict) (extent : Extent) : Type 0 where
  pub facts_are : extent.facts ≡ judged_count (length facts) told
  pub clients : numbers extent.clients.items ≡ clients_named (past_of (take extent.facts facts))
  pub unjoined : extent.unjoined.items
      ≡ filter (λ client. not (has_joined client.0 (past_of (take extent.facts facts)))) extent.clients.items
  pub strayed : extent.strayed.items ≡ filter (λ client. has_strayed client.0 (past_of (take extent.facts facts)))
      extent.clients.items
