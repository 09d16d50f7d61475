-- When what a judge keeps is what a record says.
use Rattle.std.specs.Prelude.{◌≡◌, ⊤, ℕ, zero, suc, ◌+◌, ◌≤◌, Bool, true, false, Option, Some, None, List, [], ◌∷◌, ◌++◌, length}
use Rattle.std.specs.Prelude.{drop, filter, is_some, unwrap_or, if◌then◌else◌}
use Rattle.std.specs.Option.{option_map}
use Rattle.lease_state.specs.State.{State, nothing_cached}
use Rattle.lease_model.specs.values.LeaseStates.{holds_any}
use Rattle.lease_model.specs.records.Facts.{Fact}
use Rattle.lease_model.specs.records.Past.{is_started, start_of, has_joined, is_served, has_strayed, is_good, sendings, takings}
use Rattle.lease_model.specs.records.Past.{last_sending, is_settled, believed}
use Rattle.lease_model.specs.records.Safe.{EachFact, WellFormed, OneWriteCache}
use Rattle.lease_world.specs.judge.Clients.{taken_of}
use Rattle.lease_world.specs.judge.Covers.{layers_at, stack_in}
use Rattle.lease_world.specs.judge.Marks.{IsEarlier}
use Rattle.lease_world.specs.judge.Seen.{KeptFacts, SeenFile, SeenCache, SeenClient, Snapshot, Holders, file_in, client_in, cache_in}
use Rattle.lease_world.specs.judge.Seen.{holders_in, touched_by_others, write_in, has_settled}
use Rattle.lease_world.specs.judge.Told.{placed_changes, last_touch, write_of, pending, place_of, sent_places, is_unsettled}

pub record KnowsFile (file : ℕ) (seen : SeenFile) (past : List Fact) : Type 0 where
  pub started : is_some seen.start ≡ is_started file past
  pub start : unwrap_or seen.start [] ≡ start_of file past
  pub changes : seen.changes ≡ placed_changes file past
  pub touches : (client : ℕ) → touched_by_others client seen.touches ≡ last_touch client file past

-- Of the writes that are kept, those that aren't settled cover a position as the record's do.
pub record KnowsCache (client : ℕ) (file : ℕ) (cache : SeenCache) (past : List Fact) : Type 0 where
  pub belief : cache.belief ≡ believed client file past
  pub covers : (position : ℕ)
      → filter (is_unsettled client past) (layers_at position cache.fresh ++ stack_in cache.covers position)
      ≡ layers_at position (pending client file past past)

-- numbers from the first one on that don't fall, up to the last one
abbrev pub RisesTo : ℕ → List ℕ → ℕ → Type 0
RisesTo low [] high = low ≤ high
RisesTo low (x ∷ xs) high = (low ≤ x) × RisesTo x xs high

pub record KnowsClient (client : ℕ) (seen : SeenClient) (past : List Fact) : Type 0 where
  pub joined : seen.joined ≡ has_joined client past
  pub served : seen.served ≡ is_served client past
  pub strayed : seen.strayed ≡ has_strayed client past
  pub in_order : takings client past ≤ length (sendings client past)
  pub sent : seen.sent ≡ drop (takings client past) (sent_places client past)
  pub taken : taken_of seen ≡ option_map place_of (last_sending client past)
  pub rising : RisesTo seen.taken seen.sent (length past)
  pub settled : (number : ℕ) → has_settled seen number ≡ is_settled client number past
  pub writes : (number : ℕ) → write_in seen number ≡ write_of client number past
  pub caches : (file : ℕ) → KnowsCache client file (cache_in seen.caches file) past

-- the file at a place that isn't after this one
abbrev pub IsBase : SeenFile → ℕ → Option Snapshot → Type 0
IsBase file taken None = ⊤
IsBase file taken (Some base) =
    (is_some file.start ≡ true) × IsEarlier (unwrap_or file.start []) file.changes taken base

-- what is kept of the file for a client
abbrev pub HasContents : SeenFile → ℕ → SeenCache → Type 0
HasContents file taken cache = IsBase file taken cache.base

-- what the client, if it is good, believes of the file; a client that isn't good holds nothing
unfoldable pub held : ℕ → List Fact → ℕ → State
held file past client = if is_good client past then believed client file past else nothing_cached

-- how many numbers below the last one pass
unfoldable pub how_many : (ℕ → Bool) → ℕ → ℕ
how_many test zero = 0
how_many test (suc n) = (if test n then 1 else 0) + how_many test n

pub record IsCounted (held : ℕ → State) (holders : Holders) : Type 0 where
  pub any : holders.any ≡ how_many (λ client. holds_any (held client)) 256
  pub writing : holders.writing ≡ how_many (λ client. (held client).write) 256

-- the holders of each file, and that clients have numbers of 8 bits
pub record KnowsHolders (holders : List Holders) (past : List Fact) : Type 0 where
  pub few : (client : ℕ) → 256 ≤ client → is_good client past ≡ false
  pub counted : (file : ℕ) → IsCounted (held file past) (holders_in holders file)

pub record Knows (seen : KeptFacts) (past : List Fact) : Type 0 where
  pub files : (file : ℕ) → KnowsFile file (file_in seen.files file) past
  pub clients : (client : ℕ) → KnowsClient client (client_in seen.clients client) past
  pub contents : (client file : ℕ) → HasContents (file_in seen.files file) (client_in seen.clients client).taken
      (cache_in (client_in seen.clients client).caches file)
  pub holders : KnowsHolders seen.holders past
  pub well_formed : EachFact WellFormed past
  pub one_write_cache : OneWriteCache past
