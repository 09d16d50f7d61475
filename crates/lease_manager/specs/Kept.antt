-- What the tables keep next to the list of opens.
use Rattle.std.specs.Prelude.{◌≡◌, ◌≤◌, ⊤, ℕ, Bool, true, false, Option, Some, None, List, [], ◌∷◌, ◌++◌, map, if◌then◌else◌}
use Rattle.std.specs.List.{list_any}
use Rattle.lease_laws.specs.server.Laws.{Among}
use Rattle.lease_model.specs.messages.Requests.{FileRequest, CreateAsk}
use Rattle.lease_model.specs.server.Findings.{is_leased_elsewhere}
use Rattle.lease_model.specs.server.Naming.{key_of, own_key}
use Rattle.lease_model.specs.server.Progress.{with_lease}
use Rattle.lease_model.specs.server.State.{Server, Open, Lease, no_lease, has_key}
use Rattle.lease_model.specs.values.Keys.{Key}
use Rattle.lease_model.specs.values.Lists.{without}
use Rattle.lease_model.specs.values.Patches.{is_within_limit}
use Rattle.lease_manager.specs.Filed.{has_id}
use Rattle.lease_manager.specs.Leases.{lease_of}
use Rattle.lease_manager.specs.Summaries.{Agrees, lease_in}
use Rattle.lease_manager.specs.Table.{KeyedLease}
use Rattle.lease_manager.specs.declared.tables.summaries.Summaries.{Summaries}

-- the leases of the records
abbrev pub listed : Summaries → List KeyedLease
listed summaries = map (λ entry. record { key = entry.0; lease = lease_of entry.1.lease }) summaries.leases.entries

-- Records and summaries agree with the opens, and no open has a FileId above the last one given.
pub record AreKept (opens : List Open) (summaries : Summaries) (last_id : ℕ) : Type 0 where
  pub agree : Agrees summaries opens
  pub numbered : (one : Open) → Among one opens → one.file_id ≤ last_id

-- ---- a new open

abbrev pub lease_put_by : Server → ℕ → Option (List ℕ) → Lease → Server
lease_put_by server client None lease = server
lease_put_by server client (Some bytes) lease = with_lease server (key_of client bytes) lease

-- the server with one open more, the last, whose key has this lease
abbrev pub opened_with : Server → Open → Lease → Server
opened_with server one lease = record (lease_put_by server one.client one.lease_key lease) {
  opens = server.opens ++ one ∷ [];
  last_id = one.file_id;
}

-- a create that is no reconnect has no open under its key on another file
abbrev pub IsCreateAtHome : Option Key → ℕ → Option ℕ → Server → Type 0
IsCreateAtHome own file None server = is_leased_elsewhere server own file ≡ false
IsCreateAtHome own file (Some file_id) server = ⊤

abbrev pub AreContextsAtHome : ℕ → ℕ → Option CreateAsk → Server → Type 0
AreContextsAtHome client file None server = ⊤
AreContextsAtHome client file (Some ask) server = IsCreateAtHome (own_key client ask.lease) file ask.reconnect server

-- What a request has to meet where it is answered: besides that of a create, a write ends within the limit of a file.
abbrev pub CanBeAnswered : ℕ → FileRequest → Server → Type 0
CanBeAnswered client (FileRequest.Create file access share contexts) server = AreContextsAtHome client file contexts server
CanBeAnswered client (FileRequest.Write file_id number patch) server = is_within_limit patch ≡ true
CanBeAnswered client request server = ⊤

-- ---- opens that are closed

abbrev pub is_one_of : List ℕ → Open → Bool
is_one_of ids one = list_any (λ id. has_id id one) ids

-- The opens of these FileIds are closed, and leases without an open are gone.
pub record HaveClosed (opens : List Open) (ids : List ℕ) (summaries : Summaries) (left : List Open) (after : Summaries)
    : Type 0 where
  pub opens_left : left ≡ without (is_one_of ids) opens
  pub agree : Agrees after left
  pub leases : (key : Key) → lease_in after key
      ≡ (if list_any (has_key key) left then lease_in summaries key else no_lease)

-- the opens that pass are no longer connected
abbrev pub disconnected_where : (Open → Bool) → Open → Open
disconnected_where test one = if test one then record one { connected = false } else one
