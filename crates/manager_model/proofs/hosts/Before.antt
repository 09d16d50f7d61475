-- What a call gave out before a try or an answer is no part of it.
use Rattle.lease_laws.proofs.Words.{◌&&◌, ◌++◌, ◌==◌, ◌∙◌, ◌∷◌, ◌≡◌, Access, Bool, FileRequest, Key, Lease, LeaseOf, List, None}
use Rattle.lease_laws.proofs.Words.{Open, Option}
use Rattle.lease_laws.proofs.Words.{Out, Outcome, Progress, Reply, Server, Share, Some, State, Status, Tried, Want, ℕ, []}
use Rattle.lease_laws.proofs.Words.{acknowledged, ap, append-nil}
use Rattle.lease_laws.proofs.Words.{append_assoc, begun, break_begun, break_ended, changed, concluded, ended, granted_with}
use Rattle.lease_laws.proofs.Words.{has_lease}
use Rattle.lease_laws.proofs.Words.{is_breaking, is_left_open, judged, key_of, lease_after, lease_broken, lease_lowered}
use Rattle.lease_laws.proofs.Words.{needs_acknowledgment}
use Rattle.lease_laws.proofs.Words.{not, opens_dropped, reconnected, refl, refusal_of, replied, sym, tried, tried_for, want_met}
use Rattle.lease_laws.proofs.Words.{wants_met, is_state_within}
use Rattle.lease_laws.proofs.server.cases.Ends.{any_end, ends_again, ends_changed, ends_closed, ends_full, ends_granted}
use Rattle.lease_laws.proofs.server.cases.Ends.{ends_left, ends_read}
use Rattle.lease_laws.proofs.server.cases.Tries.{any_rounds, any_wants, met_in_order}
use Rattle.lease_laws.proofs.server.cases.Tries.{no_round, nothing_met, round_ends, round_fails, round_goes_on, round_waits}
use Rattle.lease_model.specs.server.Progress.{stepped}
use Rattle.manager_model.proofs.bytes.Steps.{choose_so}

-- a call under way that gave these out before
abbrev pub behind : List Out → Progress → Progress
behind outs progress = record { server = progress.server; outs = outs ++ progress.outs }

abbrev pub tried_behind : List Out → Tried → Tried
tried_behind outs done = ended (behind outs done.progress) done.outcome

pub stepped_on : (before : List Out) (progress : Progress) (server : Server) (outs : List Out)
    → stepped (behind before progress) server outs ≡ behind before (stepped progress server outs)
stepped_on before progress server outs =
    ap (λ (o : List Out). record { server = server; outs = o }) (append_assoc before progress.outs outs)

pub replied_on : (before : List Out) (client : ℕ) (reply : Reply) (progress : Progress)
    → replied client reply (behind before progress) ≡ behind before (replied client reply progress)
replied_on before client reply progress = stepped_on before progress progress.server (Out.Sent client reply ∷ [])

dropped_on : (before : List Out) (test : Open → Bool) (progress : Progress)
    → opens_dropped test (behind before progress) ≡ behind before (opens_dropped test progress)
dropped_on before test progress = stepped_on before progress (opens_dropped test progress).server []

-- ---- tries

broken_on : (before : List Out) (key : Key) (lowered : State) (progress : Progress)
    → lease_broken key lowered (behind before progress) ≡ behind before (lease_broken key lowered progress)
unfolding lease_broken
broken_on before key lowered progress =
    choose_so (behind before) (has_lease progress.server key && not (is_breaking (progress.server.leases key))) _ _ _ _
    (choose_so (behind before) (needs_acknowledgment (progress.server.leases key).state) _ _ _ _
    (stepped_on before progress (break_begun key lowered progress).server (break_begun key lowered (begun progress.server)).outs)
    (stepped_on before progress (lease_lowered key lowered progress).server
    (lease_lowered key lowered (begun progress.server)).outs)) refl

met_on : (before : List Out) (want : Want) (progress : Progress)
    → want_met want (behind before progress) ≡ behind before (want_met want progress)
met_on before want progress =
    ap (lease_broken want.key want.lowered) (dropped_on before (is_left_open want.key) progress)
    ∙ broken_on before want.key want.lowered (opens_dropped (is_left_open want.key) progress)

wants_on : (before : List Out) (wants : List Want) (progress : Progress)
    → wants_met wants (behind before progress) ≡ behind before (wants_met wants progress)
wants_on before = any_wants (λ wants progress after. wants_met wants (behind before progress) ≡ behind before after)
    (λ progress. nothing_met (behind before progress))
    (λ want wants progress after rest. met_in_order want wants (behind before progress)
    ∙ ap (wants_met wants) (met_on before want progress) ∙ rest)

rounds_on : (before : List Out) (rounds client : ℕ) (request : FileRequest) (progress : Progress)
    → tried_for rounds client request (behind before progress) ≡ tried_behind before (tried_for rounds client request progress)
rounds_on before rounds client request = any_rounds client request
    (λ rounds progress done. tried_for rounds client request (behind before progress) ≡ tried_behind before done) (record {
      out = λ progress. no_round client request (behind before progress);
      fails = λ rounds progress status is. round_fails rounds client request (behind before progress) status is;
      ready = λ rounds progress wants is ready. round_ends rounds client request (behind before progress) wants is ready;
      waits = λ rounds progress wants needs wait.
          let met = wants_on before wants progress in
          round_waits rounds client request (behind before progress) wants
          (record { found = needs.found; unready = needs.unready })
          (rw (met) wait) ∙ ap (λ p. ended p Outcome.Waits) met;
      again = λ rounds progress wants done needs goes rest.
          let met = wants_on before wants progress in
          round_goes_on rounds client request (behind before progress) wants
          (record { found = needs.found; unready = needs.unready })
          (rw (met) goes) ∙ ap (tried_for rounds client request) met ∙ rest;
    }) rounds

pub tried_on : (before : List Out) (client : ℕ) (request : FileRequest) (progress : Progress)
    → tried client request (behind before progress) ≡ tried_behind before (tried client request progress)
tried_on before = rounds_on before 3

-- ---- answers

granted_on : (before : List Out) (client file : ℕ) (access : Access) (share : Share) (asked : Option LeaseOf) (durable : Bool)
    (lease : Lease) (progress : Progress) → granted_with client file access share asked durable lease (behind before progress)
    ≡ behind before (granted_with client file access share asked durable lease progress)
granted_on before client file access share None durable lease progress =
    stepped_on before progress (granted_with client file access share None durable lease progress).server
    (granted_with client file access share None durable lease (begun progress.server)).outs
granted_on before client file access share (Some asked) durable lease progress =
    stepped_on before progress (granted_with client file access share (Some asked) durable lease progress).server
    (granted_with client file access share (Some asked) durable lease (begun progress.server)).outs

pub concluded_on : (before : List Out) (client : ℕ) (progress : Progress) (request : FileRequest) (outcome : Outcome)
    → concluded client request (behind before progress) outcome ≡ behind before (concluded client request progress outcome)
concluded_on before client progress = any_end client progress
    (λ request outcome after. concluded client request (behind before progress) outcome ≡ behind before after) (record {
      refused = λ request status. replied_on before client (refusal_of request status) progress;
      left = λ request outcome why. ends_left client request (behind before progress) outcome why;
      full = λ file access share ask none out. ends_full client file access share ask (behind before progress) none out
          ∙ replied_on before client (Reply.CreateFailed file Status.InsufficientResources) progress;
      granted = λ file access share ask none room. ends_granted client file access share ask (behind before progress) none room
          ∙ granted_on before client file access share ask.lease ask.durable
          (lease_after progress.server client file ask.lease) progress;
      again = λ file access share ask file_id some. ends_again client file access share ask file_id (behind before progress) some
          ∙ stepped_on before progress (reconnected client file ask.lease file_id progress).server
          (reconnected client file ask.lease file_id (begun progress.server)).outs;
      read = λ file_id one found. ends_read client file_id one (behind before progress) found.found
          ∙ replied_on before client (Reply.ReadDone file_id (progress.server.contents one.file)) progress;
      changed = λ file_id number patch one found. ends_changed client file_id number patch one
          (behind before progress) found.found
          ∙ stepped_on before progress (changed client one.file file_id number patch progress).server
          (changed client one.file file_id number patch (begun progress.server)).outs;
      closed = λ file_id one found. ends_closed client file_id one (behind before progress) found.found
          ∙ ap (replied client (Reply.Closed file_id)) (dropped_on before (λ other. other.file_id == file_id) progress)
          ∙ replied_on before client (Reply.Closed file_id) (opens_dropped (λ other. other.file_id == file_id) progress);
    })

judged_on : (before : List Out) (key : Key) (state : State) (broken_to : Option State) (progress : Progress)
    → judged key state broken_to (behind before progress) ≡ behind before (judged key state broken_to progress)
judged_on before key state None progress = replied_on before key.client (Reply.AckFailed Status.Unsuccessful) progress
judged_on before key state (Some lowered) progress = choose_so (behind before) (is_state_within state lowered) _ _ _ _
    (stepped_on before progress (break_ended key state progress).server (break_ended key state (begun progress.server)).outs)
    (replied_on before key.client (Reply.AckFailed Status.RequestNotAccepted) progress)

pub acknowledged_on : (before : List Out) (client : ℕ) (given : Option LeaseOf) (progress : Progress)
    → acknowledged client given (behind before progress) ≡ behind before (acknowledged client given progress)
unfolding acknowledged
acknowledged_on before client None progress = replied_on before client (Reply.AckFailed Status.InvalidParameter) progress
acknowledged_on before client (Some given) progress =
    let key = key_of client given.key in
    choose_so (behind before) (has_lease progress.server key) _ _ _ _
    (judged_on before key given.state (progress.server.leases key).broken_to progress)
    (replied_on before client (Reply.AckFailed Status.ObjectNameNotFound) progress)

-- a call under way has given out what it gave out before
pub as_begun : (progress : Progress) → progress ≡ behind progress.outs (begun progress.server)
as_begun progress = ap (λ (o : List Out). record { server = progress.server; outs = o }) (sym (append-nil progress.outs))
