-- What facts say of all clients, by their numbers.
use Rattle.std.specs.Prelude.{◌≡◌, ℕ, Bool, true, false, List, ◌==◌, ◌&&◌, not, slice_get, unwrap_or}
use Rattle.std.specs.List.{list_any}
use Rattle.lease_model.specs.records.Facts.{Fact}
use Rattle.lease_model.specs.records.Past.{has_joined, has_strayed, is_served}
use Rattle.lease_reasons.specs.Extent.{clients_named, numbers}
use Rattle.lease_reasons.specs.declared.clients.Clients.{Clients}
use Rattle.lease_reasons.specs.declared.clients.Standing.{Standing}

-- what facts say of a client
abbrev pub standing_of : ℕ → List Fact → Standing
standing_of client past = record {
  named = list_any (λ other. other == client) (clients_named past);
  joined = has_joined client past;
  served = is_served client past;
  strayed = has_strayed client past;
}

abbrev pub unseen : Standing
unseen = record { named = false; joined = false; served = false; strayed = false }

-- what is said of a client after a fact about it
abbrev pub standing_after : Fact → Standing → Standing
standing_after (Fact.Joined client) standing =
    record { named = true; joined = true; served = true; strayed = standing.strayed }
standing_after (Fact.Dropped client) standing =
    record { named = true; joined = standing.joined; served = false; strayed = standing.strayed }
standing_after (Fact.Expired client file) standing =
    record { named = true; joined = standing.joined; served = false; strayed = standing.strayed }
standing_after (Fact.Strayed client) standing =
    record { named = true; joined = standing.joined; served = standing.served; strayed = true }
standing_after _ standing =
    record { named = true; joined = standing.joined; served = standing.served; strayed = standing.strayed }

-- what a table says of a client; it may end before clients that no fact is about
abbrev pub standing_in : List Standing → ℕ → Standing
standing_in standings client = unwrap_or (slice_get standings client) unseen

abbrev pub is_good_in : List Standing → ℕ → Bool
is_good_in standings client = not (standing_in standings client).strayed && (standing_in standings client).served

abbrev pub HasSameStandings : List Standing → List Standing → Type 0
HasSameStandings before now = (client : ℕ) → standing_in now client ≡ standing_in before client

-- The list has the clients that facts are about, and the table what they say of every client.
pub record Describes (past : List Fact) (clients : Clients) : Type 0 where
  pub named : numbers clients.named.items ≡ clients_named past
  pub standings : (client : ℕ) → standing_in clients.standings.items client ≡ standing_of client past
