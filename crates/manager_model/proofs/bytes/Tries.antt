-- A try of a request, with and without bytes.
use Rattle.lease_laws.proofs.Words.{◌&&◌, ◌∙◌, ◌∷◌, ◌≡◌, Bool, FileRequest, Finding, Key, Lease, List, Open}
use Rattle.lease_laws.proofs.Words.{Outcome, Patch, Progress, Server, State, Tried, Want, ℕ, [], after_breaks, after_finding}
use Rattle.lease_laws.proofs.Words.{ap, ap₂}
use Rattle.lease_laws.proofs.Words.{as_held, by_open, connected_open, ended, false, finding, has_lease, held_of, if◌then◌else◌}
use Rattle.lease_laws.proofs.Words.{is_breaking, is_left_open, is_ready, is_within_limit, lane_of, lease_broken, must_wait}
use Rattle.lease_laws.proofs.Words.{needs_acknowledgment, not, opens_dropped, refl, suc, true, tried, tried_for, want_met}
use Rattle.lease_laws.proofs.Words.{all_wants, key_of_open, may_write}
use Rattle.lease_laws.proofs.Words.{wants_met, zero, FILE_LIMIT, Status, file_asked}
use Rattle.manager_model.specs.Bare.{bare, bare_held, bare_patch, bare_progress, bare_request}
use Rattle.manager_model.proofs.bytes.Steps.{begun_so, choose_so, dropped_so, lowered_so}

-- ---- what is looked at

limit_so : (patch : Patch) → is_within_limit (bare_patch patch) ≡ is_within_limit patch
limit_so patch = by (is_within_limit patch)
  where
    by : (within : Bool) → is_within_limit (record { offset = if within then 0 else suc FILE_LIMIT; bytes = [] }) ≡ within
    by true = refl
    by false = refl

-- what a look at a write finds, by whether it ends within the limit
abbrev written : Server → Open → Bool → Finding
written server one within =
    if may_write one.access
    then (if within then Finding.Needs (all_wants server (key_of_open one) one.file) else Finding.Fails Status.InvalidParameter)
    else Finding.Fails Status.AccessDenied

finding_so : (server : Server) (client : ℕ) (request : FileRequest)
    → finding (bare server) client (bare_request request) ≡ finding server client request
unfolding finding
finding_so server client (FileRequest.Create file access share contexts) = refl
finding_so server client (FileRequest.Read file_id) = refl
finding_so server client (FileRequest.Write file_id number patch) =
    ap (λ within. by_open (connected_open server client file_id) (λ one. written server one within)) (limit_so patch)
finding_so server client (FileRequest.Close file_id) = refl

pub asked_so : (server : Server) (client : ℕ) (request : FileRequest)
    → file_asked (bare server) client (bare_request request) ≡ file_asked server client request
asked_so server client (FileRequest.Create file access share contexts) = refl
asked_so server client (FileRequest.Read file_id) = refl
asked_so server client (FileRequest.Write file_id number patch) = refl
asked_so server client (FileRequest.Close file_id) = refl

pub lane_so : (server : Server) (client : ℕ) (request : FileRequest)
    → lane_of (bare server) client (bare_request request) ≡ lane_of server client request
lane_so server client (FileRequest.Create file access share contexts) = refl
lane_so server client (FileRequest.Read file_id) = refl
lane_so server client (FileRequest.Write file_id number patch) = refl
lane_so server client (FileRequest.Close file_id) = refl

pub as_held_so : (server : Server) (client : ℕ) (request : FileRequest)
    → as_held (bare server) client (bare_request request) ≡ bare_held (as_held server client request)
as_held_so server client request = ap (held_of client (bare_request request)) (lane_so server client request)

ready_so : (request : FileRequest) (leases : Key → Lease) (wants : List Want)
    → is_ready (bare_request request) leases wants ≡ is_ready request leases wants
ready_so (FileRequest.Create file access share contexts) leases wants = refl
ready_so (FileRequest.Read file_id) leases wants = refl
ready_so (FileRequest.Write file_id number patch) leases wants = refl
ready_so (FileRequest.Close file_id) leases wants = refl

wait_so : (request : FileRequest) (progress : Progress) (wants : List Want)
    → must_wait (bare_request request) (bare_progress progress) wants ≡ must_wait request progress wants
wait_so (FileRequest.Create file access share contexts) progress wants = refl
wait_so (FileRequest.Read file_id) progress wants = refl
wait_so (FileRequest.Write file_id number patch) progress wants = refl
wait_so (FileRequest.Close file_id) progress wants = refl

-- ---- rounds

broken_so : (key : Key) (lowered : State) (progress : Progress)
    → lease_broken key lowered (bare_progress progress) ≡ bare_progress (lease_broken key lowered progress)
unfolding lease_broken
broken_so key lowered progress =
    choose_so bare_progress (has_lease progress.server key && not (is_breaking (progress.server.leases key))) _ _ _ _
    (choose_so bare_progress (needs_acknowledgment (progress.server.leases key).state) _ _ _ _
    (begun_so key lowered progress) (lowered_so key lowered progress)) refl

met_so : (want : Want) (progress : Progress) → want_met want (bare_progress progress) ≡ bare_progress (want_met want progress)
met_so want progress =
    ap (lease_broken want.key want.lowered) (dropped_so (is_left_open want.key) progress)
    ∙ broken_so want.key want.lowered (opens_dropped (is_left_open want.key) progress)

pub wants_so : (wants : List Want) (progress : Progress)
    → wants_met wants (bare_progress progress) ≡ bare_progress (wants_met wants progress)
unfolding wants_met
wants_so [] progress = refl
wants_so (want ∷ wants) progress =
    ap (wants_met wants) (met_so want progress) ∙ wants_so wants (want_met want progress)

-- a try without bytes
abbrev pub bare_tried : Tried → Tried
bare_tried done = ended (bare_progress done.progress) done.outcome

breaks_so : (again later : Progress → Tried) (request : FileRequest) (wants : List Want) (progress : Progress)
    → later (bare_progress progress) ≡ bare_tried (again progress)
    → after_breaks later (bare_request request) wants (bare_progress progress)
    ≡ bare_tried (after_breaks again request wants progress)
breaks_so again later request wants progress same =
    ap (λ b. if b then ended (bare_progress progress) Outcome.Waits else later (bare_progress progress))
    (wait_so request progress wants)
    ∙ choose_so bare_tried (must_wait request progress wants) _ _ _ _ refl same

found_so : (again later : Progress → Tried) (request : FileRequest) (progress : Progress) (found : Finding)
    → ((next : Progress) → later (bare_progress next) ≡ bare_tried (again next))
    → after_finding later (bare_request request) (bare_progress progress) found
    ≡ bare_tried (after_finding again request progress found)
found_so again later request progress (Finding.Fails status) same = refl
found_so again later request progress (Finding.Needs wants) same =
    let met = wants_met wants progress in
    ap₂ (λ b tried. if b then ended (bare_progress progress) Outcome.Ready else tried)
    (ready_so request progress.server.leases wants)
    (ap (after_breaks later (bare_request request) wants) (wants_so wants progress)
    ∙ breaks_so again later request wants met (same met))
    ∙ choose_so bare_tried (is_ready request progress.server.leases wants) _ _ _ _ refl refl

rounds_so : (rounds client : ℕ) (request : FileRequest) (progress : Progress)
    → tried_for rounds client (bare_request request) (bare_progress progress)
    ≡ bare_tried (tried_for rounds client request progress)
unfolding tried_for
rounds_so zero client request progress = refl
rounds_so (suc rounds) client request progress =
    ap (after_finding (tried_for rounds client (bare_request request)) (bare_request request) (bare_progress progress))
    (finding_so progress.server client request)
    ∙ found_so (tried_for rounds client request) (tried_for rounds client (bare_request request)) request progress
    (finding progress.server client request) (rounds_so rounds client request)

pub tried_so : (client : ℕ) (request : FileRequest) (progress : Progress)
    → tried client (bare_request request) (bare_progress progress) ≡ bare_tried (tried client request progress)
tried_so = rounds_so 3
