-- Opens that are kept over a restart of a host, and the manager that they make.
use Rattle.std.specs.Prelude.{◌≡◌, ◌&&◌, ◌||◌, ◌++◌, ℕ, Bool, true, false, not, Option, Some, None, List, [], ◌∷◌, is_some, map}
use Rattle.std.specs.Prelude.{filter, nat_le, nat_lt, if◌then◌else◌}
use Rattle.std.specs.List.{list_any}
use Rattle.lease_laws.specs.server.Laws.{Among, IsSound}
use Rattle.lease_model.specs.server.Allowed.{conflicts_on, is_other_on}
use Rattle.lease_model.specs.server.Calls.{outlives_connection}
use Rattle.lease_model.specs.server.Findings.{is_leased_elsewhere}
use Rattle.lease_model.specs.server.Naming.{key_of, key_of_open}
use Rattle.lease_model.specs.server.State.{Lease, Open, Server, has_file, has_lease, no_lease}
use Rattle.lease_model.specs.values.Keys.{Key, key_eq}
use Rattle.lease_state.specs.State.{State, is_state_within, state_of}
use Rattle.lease_state.specs.declared.rules.Rules.{Rules}
use Rattle.manager_model.specs.Handling.{Manager}
use Rattle.lease_manager.specs.Always.{IsManager}
use Rattle.lease_manager.specs.Closing.{lease_under, outlives_under}
use Rattle.lease_manager.specs.Filed.{disconnected_at}
use Rattle.lease_manager.specs.Kept.{opened_with}
use Rattle.lease_manager.specs.Parting.{outlives_by}
use Rattle.lease_manager.specs.Table.{Table, server_of}
use Rattle.lease_manager.specs.Wishes.{is_wanted}
use Rattle.lease_manager.specs.declared.values.want.Wish.TheVariants.{NoWrites}
use Rattle.lease_manager.specs.declared.values.kept.KeptOpen.{KeptOpen}

-- an open that is kept waits for its client
abbrev pub open_kept : KeptOpen → Open
open_kept one = record {
  file_id = one.file_id.0;
  client = one.client.0;
  file = one.file.0;
  lease_key = Some one.key.0;
  access = one.access;
  share = one.share;
  durable = true;
  connected = false;
}

abbrev pub key_kept : KeptOpen → Key
key_kept one = key_of one.client.0 one.key.0

-- its lease isn't breaking
abbrev pub lease_held : KeptOpen → Lease
lease_held one = record { state = state_of one.state; broken_to = None }

-- the lease of a key is that of the first open that has it
abbrev pub lease_kept : List KeptOpen → Key → Lease
lease_kept [] key = no_lease
lease_kept (one ∷ kept) key = if key_eq key (key_kept one) then lease_held one else lease_kept kept key

-- ---- the manager that they make

-- The server of these rules and files that has these opens, where this FileId was given last. Nobody is connected, nothing waits,
-- no timer ran out.
abbrev pub kept_server : Rules → ℕ → ℕ → List KeptOpen → Server
kept_server rules files last kept = record {
  rules = rules;
  files = files;
  contents = λ file. [];
  opens = map open_kept kept;
  leases = lease_kept kept;
  held = λ file. [];
  present = λ client. false;
  expired = λ key. false;
  last_id = last;
}

abbrev pub kept_manager : Rules → ℕ → ℕ → List KeptOpen → Manager
kept_manager rules files last kept = record { server = kept_server rules files last kept; queues = λ file. [] }

-- The opens may be restored.
--   sound: the laws of servers hold of what they make
--   on_files: each is on a file
--   agree: two opens of one key have one state
pub record MayBeRestored (rules : Rules) (files : ℕ) (last : ℕ) (kept : List KeptOpen) : Type 0 where
  pub sound : IsSound (kept_server rules files last kept)
  pub on_files : (one : KeptOpen) → Among one kept → has_file (kept_server rules files last kept) one.file.0 ≡ true
  pub agree : (one other : KeptOpen) → Among one kept → Among other kept → key_kept one ≡ key_kept other
      → state_of one.state ≡ state_of other.state

-- ---- what a manager keeps

abbrev pub without_client : Open → Open
without_client one = record one { connected = false }

-- The opens that would be there were each client cut now, and what their leases hold.
--   opens: those that outlive their connection, in their order
--   states: what the lease of each one's key holds
pub record AreKeptOf (server : Server) (kept : List KeptOpen) : Type 0 where
  pub opens : map open_kept kept ≡ map without_client (filter (outlives_connection server) server.opens)
  pub states : (one : KeptOpen) → Among one kept → state_of one.state ≡ (server.leases (key_kept one)).state

-- ---- the same, open by open

-- an open that is kept, and what its lease holds
abbrev pub pair_kept : KeptOpen → Open × State
pair_kept one = (open_kept one, state_of one.state)

abbrev pub pair_of : Lease → Open → Open × State
pair_of lease one = (without_client one, lease.state)

-- what is kept of an open under this lease
abbrev pub kept_under : Lease → Open → Option (Open × State)
kept_under lease one = if is_some one.lease_key && outlives_under lease one then Some (pair_of lease one) else None

-- what is kept of opens under these leases
abbrev pub pairs_in : (Key → Lease) → List Open → List (Open × State)
pairs_in leases opens =
    map (λ (one : Open). pair_of (lease_under leases (key_of_open one)) one) (filter (outlives_by leases) opens)

-- ---- the law

-- What a manager keeps may be restored under its own rules, its files and the FileId that it gave last.
abbrev pub KeptMayBeRestored : Type 0
KeptMayBeRestored = (table : Table) (kept : List KeptOpen) → IsManager table → AreKeptOf (server_of table) kept
    → MayBeRestored table.rules table.files table.last_id kept

-- ---- one open more

-- its FileId comes after those that were given, and not after this one
abbrev pub has_next_id : Server → ℕ → KeptOpen → Bool
has_next_id server last one = nat_lt server.last_id one.file_id.0 && nat_le one.file_id.0 last

-- what a lease holds is a granted form, with H
abbrev pub is_lasting_state : State → Bool
is_lasting_state state = state.read && state.handle

-- its key is on no other file, and no open on its file conflicts with it
abbrev pub has_room_for : Server → KeptOpen → Bool
has_room_for server one = not (is_leased_elsewhere server (Some (key_kept one)) one.file.0)
    && not (list_any (conflicts_on one.file.0 one.access one.share) server.opens)

-- the lease of its key, where there is one, holds the same
abbrev pub holds_the_same : Server → KeptOpen → Bool
holds_the_same server one = not (has_lease server (key_kept one))
    || (is_state_within (server.leases (key_kept one)).state (state_of one.state)
    && is_state_within (state_of one.state) (server.leases (key_kept one)).state)

-- where it holds W no other key is on its file, and no other key there holds W
abbrev pub writes_alone : Server → KeptOpen → Bool
writes_alone server one =
    not ((state_of one.state).write && list_any (is_other_on (Some (key_kept one)) one.file.0) server.opens)
    && not (list_any (is_wanted NoWrites server (Some (key_kept one)) one.file.0) server.opens)

-- one open more breaks no law
abbrev pub may_keep : Server → ℕ → KeptOpen → Bool
may_keep server last one = has_next_id server last one && has_file server one.file.0 && is_lasting_state (state_of one.state)
    && has_room_for server one && holds_the_same server one && writes_alone server one

abbrev pub open_here : KeptOpen → Open
open_here one = record (open_kept one) { connected = true }

-- the server with one open more, which was opened and then lost its client
abbrev pub server_with : Server → KeptOpen → Server
server_with server one = record (opened_with server (open_here one) (lease_held one)) {
  opens = map (disconnected_at one.file_id.0) (server.opens ++ open_here one ∷ []);
}

-- What was restored is kept again: the same opens, and what their leases hold.
abbrev pub RestoredIsKept : Type 0
RestoredIsKept = (rules : Rules) (files last : ℕ) (kept again : List KeptOpen) → MayBeRestored rules files last kept
    → AreKeptOf (kept_server rules files last kept) again → map pair_kept again ≡ map pair_kept kept

-- Where nobody is connected all opens are kept: what is restored of them then is what there was.
abbrev pub AllIsKept : Type 0
AllIsKept = (table : Table) (kept : List KeptOpen) → IsManager table
    → ((client : ℕ) → (server_of table).present client ≡ false) → AreKeptOf (server_of table) kept
    → map open_kept kept ≡ (server_of table).opens
