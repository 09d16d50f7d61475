-- What a call makes of a server: each of the ways, with what is known of it, what it begins with and what it comes to.
-- Whatever holds of each way holds of every call.
use Rattle.lease_laws.proofs.Words.{◌≡◌, Bool, Call, FileRequest, Key, LeaseOf, List, Option, Progress, Request, Server, ℕ}
use Rattle.lease_laws.proofs.Words.{acknowledged, all_passes, arrived, begun, call_begun, called, client_forgotten, cut, expire}
use Rattle.lease_laws.proofs.Words.{false, file_request_arrived, has_key, has_marked, held_left, if◌then◌else◌, is_breaking}
use Rattle.lease_laws.proofs.Words.{is_left_behind, is_lost}
use Rattle.lease_laws.proofs.Words.{Extent, give_up, is_lost_of, is_named, leave, opens_parted, others_broken, requests_left}
use Rattle.lease_laws.proofs.Words.{join, joined, key_expired, list_any, opens_disconnected, opens_dropped, receive, refl}
use Rattle.lease_laws.proofs.Words.{scavenge, true, unmarked, withdraw}

-- why a call does nothing
abbrev pub IsIdle : Server → Call → Type 0
IsIdle server (Call.Join client) = server.present client ≡ true
IsIdle server (Call.Receive client request) = server.present client ≡ false
IsIdle server (Call.Cut client) = server.present client ≡ false
IsIdle server (Call.Expire key) = is_breaking (server.leases key) ≡ false
IsIdle server (Call.Scavenge file_id) = list_any (is_left_behind file_id) server.opens ≡ false
IsIdle server (Call.Withdraw file marks) = has_marked marks (server.held file) ≡ false
IsIdle server (Call.GiveUp own file extent) = ⊥
IsIdle server (Call.Leave client file_ids marks) = server.present client ≡ false

-- what a cut, an expiry, a withdrawal and a leave do before held requests are tried again
abbrev pub links_lost : Server → ℕ → Progress
links_lost server client =
    client_forgotten client (opens_disconnected client (opens_dropped (is_lost server client) (begun server)))

abbrev pub lease_lost : Server → Key → Progress
lease_lost server key = key_expired key (opens_dropped (has_key key) (begun server))

abbrev pub requests_lost : Server → ℕ → List Bool → Progress
requests_lost server file marks = held_left file (unmarked marks (server.held file)) (begun server)

abbrev pub opens_left : Server → ℕ → List ℕ → Progress
opens_left server client file_ids = opens_parted (is_named client file_ids)
    (opens_dropped (is_lost_of server (is_named client file_ids)) (begun server))

abbrev pub parts_left : Server → ℕ → List ℕ → (ℕ → List Bool) → Progress
parts_left server client file_ids marks = requests_left marks (opens_left server client file_ids)

pub record HasCalls (server : Server) (P : Call → Progress → Progress → Type 0) : Type 0 where
  pub idle : (call : Call) → IsIdle server call → P call (begun server) (begun server)
  pub joins : (client : ℕ) → server.present client ≡ false
      → P (Call.Join client) (joined client (begun server)) (joined client (begun server))
  pub judges : (client : ℕ) (given : Option LeaseOf) → server.present client ≡ true
      → P (Call.Receive client (Request.Acknowledge given)) (begun server)
      (all_passes (acknowledged client given (begun server)))
  pub receives : (client : ℕ) (request : FileRequest) → server.present client ≡ true
      → P (Call.Receive client (Request.OnFile request)) (begun server) (file_request_arrived client request (begun server))
  pub cuts : (client : ℕ) → server.present client ≡ true
      → P (Call.Cut client) (links_lost server client) (all_passes (links_lost server client))
  pub expires : (key : Key) → is_breaking (server.leases key) ≡ true
      → P (Call.Expire key) (lease_lost server key) (all_passes (lease_lost server key))
  pub scavenges : (file_id : ℕ) → list_any (is_left_behind file_id) server.opens ≡ true
      → P (Call.Scavenge file_id) (opens_dropped (is_left_behind file_id) (begun server))
      (all_passes (opens_dropped (is_left_behind file_id) (begun server)))
  pub withdraws : (file : ℕ) (marks : List Bool) → has_marked marks (server.held file) ≡ true
      → P (Call.Withdraw file marks) (requests_lost server file marks) (all_passes (requests_lost server file marks))
  pub gives_up : (own : Option Key) (file : ℕ) (extent : Extent)
      → P (Call.GiveUp own file extent) (begun server) (all_passes (others_broken server own file extent))
  pub leaves : (client : ℕ) (file_ids : List ℕ) (marks : ℕ → List Bool) → server.present client ≡ true
      → P (Call.Leave client file_ids marks) (parts_left server client file_ids marks)
      (all_passes (parts_left server client file_ids marks))

-- a call that applies, or doesn't
either_way : (P : Progress → Progress → Type 0) (applies : Bool) (start after start_idle after_idle : Progress)
    → (applies ≡ true → P start after) → (applies ≡ false → P start_idle after_idle)
    → P (if applies then start else start_idle) (if applies then after else after_idle)
either_way P true start after start_idle after_idle does idle = does refl
either_way P false start after start_idle after_idle does idle = idle refl

-- a request that comes, or doesn't
received : (server : Server) (P : Call → Progress → Progress → Type 0) → HasCalls server P → (client : ℕ)
    (request : Request) (up : Bool) → server.present client ≡ up → P (Call.Receive client request) (begun server)
    (if up then arrived client request (begun server) else begun server)
unfolding arrived
received server P h client request false e = h.idle (Call.Receive client request) e
received server P h client (Request.Acknowledge given) true e = h.judges client given e
received server P h client (Request.OnFile request) true e = h.receives client request e

pub any_call : (server : Server) (P : Call → Progress → Progress → Type 0) → HasCalls server P → (call : Call)
    → P call (call_begun server call) (called server call)
unfolding join receive cut expire scavenge withdraw give_up leave
any_call server P h (Call.Join client) = either_way (P (Call.Join client)) (server.present client) (begun server)
    (begun server) _ _ (h.idle (Call.Join client)) (h.joins client)
any_call server P h (Call.Receive client request) = received server P h client request (server.present client) refl
any_call server P h (Call.Cut client) = either_way (P (Call.Cut client)) (server.present client) _ _ _ _ (h.cuts client)
    (h.idle (Call.Cut client))
any_call server P h (Call.Expire key) = either_way (P (Call.Expire key)) (is_breaking (server.leases key)) _ _ _ _
    (h.expires key) (h.idle (Call.Expire key))
any_call server P h (Call.Scavenge file_id) = either_way (P (Call.Scavenge file_id))
    (list_any (is_left_behind file_id) server.opens) _ _ _ _ (h.scavenges file_id) (h.idle (Call.Scavenge file_id))
any_call server P h (Call.Withdraw file marks) = either_way (P (Call.Withdraw file marks))
    (has_marked marks (server.held file)) _ _ _ _ (h.withdraws file marks) (h.idle (Call.Withdraw file marks))
any_call server P h (Call.GiveUp own file extent) = h.gives_up own file extent
any_call server P h (Call.Leave client file_ids marks) = either_way (P (Call.Leave client file_ids marks))
    (server.present client) _ _ _ _ (h.leaves client file_ids marks) (h.idle (Call.Leave client file_ids marks))

-- ---- single calls

pub joins : (server : Server) (client : ℕ) → server.present client ≡ false → join server client ≡ joined client (begun server)
unfolding join
joins server client e = rw (e) refl

pub receives : (server : Server) (client : ℕ) (request : FileRequest) → server.present client ≡ true
    → receive server client (Request.OnFile request) ≡ file_request_arrived client request (begun server)
unfolding receive arrived
receives server client request e = rw (e) refl

pub judges : (server : Server) (client : ℕ) (given : Option LeaseOf) → server.present client ≡ true
    → receive server client (Request.Acknowledge given) ≡ all_passes (acknowledged client given (begun server))
unfolding receive arrived
judges server client given e = rw (e) refl

pub passes_by : (server : Server) (client : ℕ) (request : Request) → server.present client ≡ false
    → receive server client request ≡ begun server
unfolding receive
passes_by server client request e = rw (e) refl

pub cuts : (server : Server) (client : ℕ) → server.present client ≡ true
    → cut server client ≡ all_passes (links_lost server client)
unfolding cut
cuts server client e = rw (e) refl

pub cuts_nothing : (server : Server) (client : ℕ) → server.present client ≡ false → cut server client ≡ begun server
unfolding cut
cuts_nothing server client e = rw (e) refl
