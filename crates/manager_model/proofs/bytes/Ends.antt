-- The end of a try, with and without bytes.
use Rattle.lease_laws.proofs.Words.{◌==◌, ◌∙◌, ◌∷◌, ◌≡◌, Access, Bool, CreateAsk, FileRequest, Lease, List, LeaseOf, None, Open}
use Rattle.lease_laws.proofs.Words.{Option, Out}
use Rattle.lease_laws.proofs.Words.{Outcome, Patch, Progress, Reply, Share, Some, Status, ℕ, [], acknowledged, answered, ap}
use Rattle.lease_laws.proofs.Words.{begun}
use Rattle.lease_laws.proofs.Words.{break_ended, changed, closed, concluded, connected_open, created, granted, granted_with}
use Rattle.lease_laws.proofs.Words.{has_lease}
use Rattle.lease_laws.proofs.Words.{judged, key_of, last_file_id, lease_after, on_contexts, on_open, opens_dropped}
use Rattle.lease_laws.proofs.Words.{read_done, reconnected, refl, replied, State, Key, is_state_within}
use Rattle.lease_model.specs.server.Progress.{stepped}
use Rattle.manager_model.specs.Bare.{bare, bare_patch, bare_progress, bare_request}
use Rattle.manager_model.proofs.bytes.Steps.{choose_so, dropped_so, map_put, refused_so, replied_so, stepped_so}

granting_so : (client file : ℕ) (access : Access) (share : Share) (asked : Option LeaseOf) (durable : Bool) (lease : Lease)
    (progress : Progress) → granted_with client file access share asked durable lease (bare_progress progress)
    ≡ bare_progress (granted_with client file access share asked durable lease progress)
granting_so client file access share None durable lease progress =
    stepped_so progress (granted_with client file access share None durable lease progress).server
    (granted_with client file access share None durable lease (begun progress.server)).outs
granting_so client file access share (Some asked) durable lease progress =
    stepped_so progress (granted_with client file access share (Some asked) durable lease progress).server
    (granted_with client file access share (Some asked) durable lease (begun progress.server)).outs

granted_so : (client file : ℕ) (access : Access) (share : Share) (asked : Option LeaseOf) (durable : Bool) (progress : Progress)
    → granted client file access share asked durable (bare_progress progress)
    ≡ bare_progress (granted client file access share asked durable progress)
granted_so client file access share asked durable progress =
    let lease = lease_after progress.server client file asked in
    choose_so bare_progress (progress.server.last_id == last_file_id)
    (replied client (Reply.CreateFailed file Status.InsufficientResources) progress)
    (granted_with client file access share asked durable lease progress)
    (replied client (Reply.CreateFailed file Status.InsufficientResources) (bare_progress progress))
    (granted_with client file access share asked durable lease (bare_progress progress))
    (replied_so client (Reply.CreateFailed file Status.InsufficientResources) progress)
    (granting_so client file access share asked durable lease progress)

created_so : (client file : ℕ) (access : Access) (share : Share) (asked : Option LeaseOf) (durable : Bool) (again : Option ℕ)
    (progress : Progress) → created client file access share asked durable again (bare_progress progress)
    ≡ bare_progress (created client file access share asked durable again progress)
created_so client file access share asked durable None progress = granted_so client file access share asked durable progress
created_so client file access share asked durable (Some file_id) progress =
    stepped_so progress (reconnected client file asked file_id progress).server
    (reconnected client file asked file_id (begun progress.server)).outs

read_so : (client file file_id : ℕ) (progress : Progress)
    → read_done client file file_id (bare_progress progress) ≡ bare_progress (read_done client file file_id progress)
read_so client file file_id progress = replied_so client (Reply.ReadDone file_id (progress.server.contents file)) progress

changed_so : (client file file_id number : ℕ) (patch : Patch) (progress : Progress)
    → changed client file file_id 0 (bare_patch patch) (bare_progress progress)
    ≡ bare_progress (changed client file file_id number patch progress)
changed_so client file file_id number patch progress =
    ap (λ (contents : ℕ → List ℕ). stepped (bare_progress progress) (record (bare progress.server) { contents = contents })
    (Out.Changed file client 0 (bare_patch patch) ∷ Out.Sent client (Reply.WriteDone file_id 0) ∷ []))
    (map_put {X = ℕ} {Y = List ℕ} (λ n. []) (λ n. 0) file 0)
    ∙ stepped_so progress (changed client file file_id number patch progress).server
    (Out.Changed file client number patch ∷ Out.Sent client (Reply.WriteDone file_id number) ∷ [])

closed_so : (client file_id : ℕ) (progress : Progress)
    → closed client file_id (bare_progress progress) ≡ bare_progress (closed client file_id progress)
closed_so client file_id progress =
    ap (replied client (Reply.Closed file_id)) (dropped_so (λ one. one.file_id == file_id) progress)
    ∙ replied_so client (Reply.Closed file_id) (opens_dropped (λ one. one.file_id == file_id) progress)

on_open_so : (found : Option Open) (done later : ℕ → Progress → Progress) (progress : Progress)
    → ((file : ℕ) → later file (bare_progress progress) ≡ bare_progress (done file progress))
    → on_open found later (bare_progress progress) ≡ bare_progress (on_open found done progress)
on_open_so None done later progress same = refl
on_open_so (Some one) done later progress same = same one.file

on_contexts_so : (contexts : Option CreateAsk) (done : CreateAsk → Progress → Progress) (progress : Progress)
    → ((ask : CreateAsk) → done ask (bare_progress progress) ≡ bare_progress (done ask progress))
    → on_contexts contexts done (bare_progress progress) ≡ bare_progress (on_contexts contexts done progress)
on_contexts_so None done progress same = refl
on_contexts_so (Some ask) done progress same = same ask

answered_so : (client : ℕ) (request : FileRequest) (progress : Progress)
    → answered client (bare_request request) (bare_progress progress) ≡ bare_progress (answered client request progress)
unfolding answered
answered_so client (FileRequest.Create file access share contexts) progress = on_contexts_so contexts
    (λ ask. created client file access share ask.lease ask.durable ask.reconnect) progress
    (λ ask. created_so client file access share ask.lease ask.durable ask.reconnect progress)
answered_so client (FileRequest.Read file_id) progress = on_open_so (connected_open progress.server client file_id)
    (λ file. read_done client file file_id) (λ file. read_done client file file_id) progress
    (λ file. read_so client file file_id progress)
answered_so client (FileRequest.Write file_id number patch) progress = on_open_so
    (connected_open progress.server client file_id) (λ file. changed client file file_id number patch)
    (λ file. changed client file file_id 0 (bare_patch patch)) progress
    (λ file. changed_so client file file_id number patch progress)
answered_so client (FileRequest.Close file_id) progress = on_open_so (connected_open progress.server client file_id)
    (λ file. closed client file_id) (λ file. closed client file_id) progress (λ file. closed_so client file_id progress)

pub concluded_so : (client : ℕ) (request : FileRequest) (progress : Progress) (outcome : Outcome)
    → concluded client (bare_request request) (bare_progress progress) outcome
    ≡ bare_progress (concluded client request progress outcome)
concluded_so client request progress (Outcome.Refused status) = refused_so client request status progress
concluded_so client request progress Outcome.Waits = refl
concluded_so client request progress Outcome.Ready = answered_so client request progress

-- ---- acknowledgments

judged_so : (key : Key) (state : State) (broken_to : Option State) (progress : Progress)
    → judged key state broken_to (bare_progress progress) ≡ bare_progress (judged key state broken_to progress)
judged_so key state None progress = replied_so key.client (Reply.AckFailed Status.Unsuccessful) progress
judged_so key state (Some lowered) progress = choose_so bare_progress (is_state_within state lowered) _ _ _ _
    (stepped_so progress (break_ended key state progress).server (break_ended key state (begun progress.server)).outs)
    (replied_so key.client (Reply.AckFailed Status.RequestNotAccepted) progress)

pub acknowledged_so : (client : ℕ) (given : Option LeaseOf) (progress : Progress)
    → acknowledged client given (bare_progress progress) ≡ bare_progress (acknowledged client given progress)
unfolding acknowledged
acknowledged_so client None progress = replied_so client (Reply.AckFailed Status.InvalidParameter) progress
acknowledged_so client (Some given) progress =
    let key = key_of client given.key in
    choose_so bare_progress (has_lease progress.server key) _ _ _ _
    (judged_so key given.state (progress.server.leases key).broken_to progress)
    (replied_so client (Reply.AckFailed Status.ObjectNameNotFound) progress)
