-- Calls, with and without bytes.
use Rattle.lease_laws.proofs.Words.{◌==◌, ◌∙◌, ◌≡◌, Call, Err, FileRequest, Held, Key, List, Ok, Outcome, Progress, Request}
use Rattle.lease_laws.proofs.Words.{Result, Server, Status, ℕ, [], acknowledged, after_first_try, all_passes, ap, ap₂, arrived}
use Rattle.lease_laws.proofs.Words.{arrived_before}
use Rattle.lease_laws.proofs.Words.{as_held, begun, client_forgotten, cut, expire, file_asked, file_request_arrived}
use Rattle.lease_laws.proofs.Words.{fun_ext, has_key, if◌then◌else◌, is_behind, is_breaking, is_left_behind, is_lost, join}
use Rattle.lease_laws.proofs.Words.{joined}
use Rattle.lease_laws.proofs.Words.{key_expired, list_any, not, opens_disconnected, opens_dropped, receive, refl, request_held}
use Rattle.lease_laws.proofs.Words.{has_marked, held_left, scavenge, unmarked, withdraw}
use Rattle.lease_laws.proofs.Words.{tried, Tried}
use Rattle.lease_laws.proofs.Words.{Bool, Extent, Option, give_up, is_lost_of, is_named, leave, opens_parted, others_broken}
use Rattle.lease_laws.proofs.Words.{others_wants, requests_left}
use Rattle.lease_model.specs.server.Calls.{first_tried}
use Rattle.lease_model.specs.server.Progress.{stepped}
use Rattle.manager_model.specs.Bare.{bare, bare_held, bare_of, bare_progress, bare_request}
use Rattle.manager_model.specs.Handling.{opens_left}
use Rattle.manager_model.specs.Laws.{BytesDecideNothing}
use Rattle.manager_model.proofs.bytes.Ends.{acknowledged_so, concluded_so}
use Rattle.manager_model.proofs.bytes.Passes.{all_so}
use Rattle.manager_model.proofs.bytes.Steps.{behind_so, choose_so, dropped_so, filter_map, hold_so, left_so, marked_map}
use Rattle.manager_model.proofs.bytes.Steps.{refused_so, stepped_so, unmarked_map}
use Rattle.manager_model.proofs.bytes.Tries.{as_held_so, asked_so, tried_so, wants_so}

first_so : (file : ℕ) (one : Held) (progress : Progress) (outcome : Outcome)
    → after_first_try file (bare_held one) (bare_progress progress) outcome
    ≡ bare_progress (after_first_try file one progress outcome)
first_so file one progress Outcome.Waits = hold_so file one progress
first_so file one progress outcome = concluded_so one.client one.request progress outcome

before_so : (one : Held) (progress : Progress) (asked : Result ℕ Status)
    → arrived_before (bare_held one) (bare_progress progress) asked ≡ bare_progress (arrived_before one progress asked)
before_so one progress (Err status) = refused_so one.client one.request status progress
before_so one progress (Ok file) =
    let done = tried one.client one.request progress in
    ap₂ (λ b (after : Progress). if b then request_held file (bare_held one) (bare_progress progress) else after)
    (behind_so progress.server.rules one (progress.server.held file))
    (ap (λ (tried : Tried). after_first_try file (bare_held one) tried.progress tried.outcome)
    (tried_so one.client one.request progress) ∙ first_so file one done.progress done.outcome)
    ∙ choose_so bare_progress (is_behind progress.server.rules one (progress.server.held file)) _ _ _ _
    (hold_so file one progress) refl

first_tried_so : (client : ℕ) (request : FileRequest) (progress : Progress)
    → first_tried client (bare_request request) (bare_progress progress) ≡ bare_progress (first_tried client request progress)
first_tried_so client request progress =
    ap₂ (λ (one : Held) (asked : Result ℕ Status). arrived_before one (bare_progress progress) asked)
    (as_held_so progress.server client request) (asked_so progress.server client request)
    ∙ before_so (as_held progress.server client request) progress (file_asked progress.server client request)

request_so : (client : ℕ) (request : FileRequest) (progress : Progress)
    → file_request_arrived client (bare_request request) (bare_progress progress)
    ≡ bare_progress (file_request_arrived client request progress)
request_so client (FileRequest.Create file access share contexts) progress =
    first_tried_so client (FileRequest.Create file access share contexts) progress
request_so client (FileRequest.Read file_id) progress = first_tried_so client (FileRequest.Read file_id) progress
request_so client (FileRequest.Write file_id number patch) progress =
    first_tried_so client (FileRequest.Write file_id number patch) progress
request_so client (FileRequest.Close file_id) progress =
    ap all_passes (first_tried_so client (FileRequest.Close file_id) progress)
    ∙ all_so (first_tried client (FileRequest.Close file_id) progress)

arrived_so : (client : ℕ) (request : Request) (progress : Progress)
    → arrived client (bare_of request) (bare_progress progress) ≡ bare_progress (arrived client request progress)
unfolding arrived
arrived_so client (Request.OnFile request) progress = request_so client request progress
arrived_so client (Request.Acknowledge given) progress =
    ap all_passes (acknowledged_so client given progress) ∙ all_so (acknowledged client given progress)

forgotten_so : (client : ℕ) (progress : Progress)
    → client_forgotten client (bare_progress progress) ≡ bare_progress (client_forgotten client progress)
forgotten_so client progress =
    ap (λ (held : ℕ → List Held). stepped (bare_progress progress)
    (record (bare progress.server) { present = (client_forgotten client progress).server.present; held = held }) [])
    (fun_ext (λ file. filter_map (λ one. not (one.client == client)) bare_held (progress.server.held file)))
    ∙ stepped_so progress (client_forgotten client progress).server []

disconnected_so : (client : ℕ) (progress : Progress)
    → opens_disconnected client (bare_progress progress) ≡ bare_progress (opens_disconnected client progress)
disconnected_so client progress = stepped_so progress (opens_disconnected client progress).server []

pub expired_so : (key : Key) (progress : Progress) → key_expired key (bare_progress progress) ≡ bare_progress
    (key_expired key progress)
expired_so key progress = stepped_so progress (key_expired key progress).server []

pub links_so : (server : Server) (client : ℕ)
    → client_forgotten client (opens_disconnected client (opens_dropped (is_lost server client) (begun (bare server))))
    ≡ bare_progress (client_forgotten client (opens_disconnected client (opens_dropped (is_lost server client) (begun server))))
links_so server client =
    ap (λ p. client_forgotten client (opens_disconnected client p)) (dropped_so (is_lost server client) (begun server))
    ∙ ap (client_forgotten client) (disconnected_so client (opens_dropped (is_lost server client) (begun server)))
    ∙ forgotten_so client (opens_disconnected client (opens_dropped (is_lost server client) (begun server)))

-- what other keys are to give up
pub others_so : (server : Server) (own : Option Key) (file : ℕ) (extent : Extent)
    → others_broken (bare server) own file extent ≡ bare_progress (others_broken server own file extent)
others_so server own file Extent.Handles = wants_so (others_wants server own file Extent.Handles) (begun server)
others_so server own file Extent.All = wants_so (others_wants server own file Extent.All) (begun server)

-- opens and requests that are left
marked_so : (marks : ℕ → List Bool) (progress : Progress)
    → requests_left marks (bare_progress progress) ≡ bare_progress (requests_left marks progress)
marked_so marks progress =
    ap (λ (held : ℕ → List Held). stepped (bare_progress progress) (record (bare progress.server) { held = held }) [])
    (fun_ext (λ file. unmarked_map (marks file) bare_held (progress.server.held file)))
    ∙ stepped_so progress (requests_left marks progress).server []

opens_left_so : (server : Server) (client : ℕ) (file_ids : List ℕ)
    → opens_left (bare server) client file_ids ≡ bare_progress (opens_left server client file_ids)
opens_left_so server client file_ids =
    let lost = is_lost_of server (is_named client file_ids) in
    ap (opens_parted (is_named client file_ids)) (dropped_so lost (begun server))
    ∙ stepped_so (opens_dropped lost (begun server)) (opens_left server client file_ids).server []

pub bytes_decide_nothing : BytesDecideNothing
unfolding join receive cut expire scavenge withdraw give_up leave
bytes_decide_nothing server (Call.Join client) = choose_so bare_progress (server.present client) _ _ _ _ refl
    (stepped_so (begun server) (joined client (begun server)).server [])
bytes_decide_nothing server (Call.Receive client request) = choose_so bare_progress (server.present client) _ _ _ _
    (arrived_so client request (begun server)) refl
bytes_decide_nothing server (Call.Cut client) =
    let lost = client_forgotten client (opens_disconnected client (opens_dropped (is_lost server client) (begun server))) in
    choose_so bare_progress (server.present client) _ _ _ _ (ap all_passes (links_so server client) ∙ all_so lost) refl
bytes_decide_nothing server (Call.Expire key) =
    let lost = key_expired key (opens_dropped (has_key key) (begun server)) in
    choose_so bare_progress (is_breaking (server.leases key)) _ _ _ _
    (ap all_passes (ap (key_expired key) (dropped_so (has_key key) (begun server))
    ∙ expired_so key (opens_dropped (has_key key) (begun server))) ∙ all_so lost) refl
bytes_decide_nothing server (Call.Scavenge file_id) =
    let dropped = opens_dropped (is_left_behind file_id) (begun server) in
    choose_so bare_progress (list_any (is_left_behind file_id) server.opens) _ _ _ _
    (ap all_passes (dropped_so (is_left_behind file_id) (begun server)) ∙ all_so dropped) refl
bytes_decide_nothing server (Call.Withdraw file marks) =
    let left = held_left file (unmarked marks (server.held file)) (begun server) in
    ap₂ (λ b (after : Progress). if b then after else begun (bare server)) (marked_map marks bare_held (server.held file))
    (ap (λ queue. all_passes (held_left file queue (begun (bare server)))) (unmarked_map marks bare_held (server.held file))
    ∙ ap all_passes (left_so file (unmarked marks (server.held file)) (begun server)) ∙ all_so left)
    ∙ choose_so bare_progress (has_marked marks (server.held file)) _ _ _ _ refl refl
bytes_decide_nothing server (Call.GiveUp own file extent) =
    ap all_passes (others_so server own file extent) ∙ all_so (others_broken server own file extent)
bytes_decide_nothing server (Call.Leave client file_ids marks) =
    let left = opens_left server client file_ids in
    choose_so bare_progress (server.present client) _ _ _ _
    (ap all_passes (ap (requests_left marks) (opens_left_so server client file_ids) ∙ marked_so marks left)
    ∙ all_so (requests_left marks left)) refl
