-- The end of a try, by a host.
use Rattle.lease_laws.proofs.Words.{◌&&◌, ◌++◌, ◌+◌, ◌==◌, ◌∙◌, ◌∷◌, ◌≡◌, ◌≤◌, Access, Among, Bool, CreateAnswer, CreateAsk}
use Rattle.lease_laws.proofs.Words.{FileRequest, Key, Lease, LeaseOf}
use Rattle.lease_laws.proofs.Words.{List, None, Open, Option, Out, Outcome, Patch, Progress, Reply, Server, Share, Some, State}
use Rattle.lease_laws.proofs.Words.{Status, ℕ, ⊎_elim, [], ap}
use Rattle.lease_laws.proofs.Words.{append-nil, arith, begun, break_ended, changed, concluded, connected_again, false}
use Rattle.lease_laws.proofs.Words.{granted_with}
use Rattle.lease_laws.proofs.Words.{has_lease, is_state_within, judged, key_of, lease_after, lease_given, map, nat_tests}
use Rattle.lease_laws.proofs.Words.{new_open}
use Rattle.lease_laws.proofs.Words.{opens_dropped, put, read_done, reconnected, refl, refusal_of, replied, standing_lease}
use Rattle.lease_laws.proofs.Words.{subst, sym, true, acknowledged}
use Rattle.lease_laws.proofs.server.Lists.{among_append, among_map, if_cases}
use Rattle.lease_laws.proofs.server.cases.Ends.{any_end, IsFoundOpen}
use Rattle.lease_state.specs.Content.{patch as patched}
use Rattle.manager_model.specs.Decisions.{Decision}
use Rattle.manager_model.specs.Hosting.{Host, Hosted, IsHostOf, closed_as, gone_on_with, opened, opened_as}
use Rattle.manager_model.proofs.hosts.Faithful.{GoesFaithfully, host_of_fewer, one_done, same_host, stays_faithful, told_bare}
use Rattle.manager_model.proofs.passes.Tables.{put_apart, put_here}

-- ---- refusals

told_refusal : (tag client : ℕ) (request : FileRequest) (status : Status)
    → told_bare tag (Out.Sent client (refusal_of request status) ∷ []) ≡ Decision.Refused client tag status ∷ []
told_refusal tag client (FileRequest.Create file access share contexts) status = refl
told_refusal tag client (FileRequest.Read file_id) status = refl
told_refusal tag client (FileRequest.Write file_id number patch) status = refl
told_refusal tag client (FileRequest.Close file_id) status = refl

pub refused_faithfully : (requests : ℕ → FileRequest) (tag client : ℕ) (request : FileRequest) (status : Status)
    (progress : Progress)
    → requests tag ≡ request → GoesFaithfully requests tag progress (replied client (refusal_of request status) progress)
refused_faithfully requests tag client request status progress asked =
    one_done requests tag progress (replied client (refusal_of request status) progress)
    (Out.Sent client (refusal_of request status) ∷ []) (Decision.Refused client tag status) refl
    (told_refusal tag client request status)
    (λ host outs is. (ap (λ r. outs ++ Out.Sent client (refusal_of r status) ∷ []) asked, is))

-- ---- creates

below : (n last : ℕ) → n ≤ last → (n == last + 1) ≡ false
below n last low = grind (arith, nat_tests)

-- the handle of a new open
host_of_more : (host : Host) (progress : Progress) (client file : ℕ) (access : Access) (share : Share) (asked : Option LeaseOf)
    (durable : Bool) (lease : Lease) → IsHostOf host progress.server
    → IsHostOf (record { contents = host.contents; handles = put host.handles (progress.server.last_id + 1) file })
    (granted_with client file access share asked durable lease progress).server
host_of_more host progress client file access share asked durable lease is =
    let one = new_open progress.server client file access share asked durable lease in record {
      contents = is.contents ∙ same_contents asked;
      handles = λ other among. ⊎_elim (λ old. old_handle other old)
          (λ new. ⊎_elim (λ same. new_handle other same) (λ never. absurd never) new)
          (among_append other progress.server.opens (one ∷ []) among);
      numbered = λ other among. ⊎_elim (λ old. let low = is.numbered other old in omega (arith, low))
          (λ new. ⊎_elim (λ same. subst (λ (o : Open). o.file_id ≤ progress.server.last_id + 1) (sym same) (omega arith))
          (λ never. absurd never) new) (among_append other progress.server.opens (one ∷ []) among);
    }
  where
    same_contents : (asked : Option LeaseOf)
        → progress.server.contents ≡ (granted_with client file access share asked durable lease progress).server.contents
    same_contents None = refl
    same_contents (Some key) = refl

    old_handle : (other : Open) → Among other progress.server.opens
        → put host.handles (progress.server.last_id + 1) file other.file_id ≡ other.file
    old_handle other old =
        let low = is.numbered other old in
        put_apart host.handles (progress.server.last_id + 1) other.file_id file (below other.file_id progress.server.last_id low)
        ∙ is.handles other old

    new_handle : (other : Open) → other ≡ new_open progress.server client file access share asked durable lease
        → put host.handles (progress.server.last_id + 1) file other.file_id ≡ other.file
    new_handle other same = subst (λ (o : Open). put host.handles (progress.server.last_id + 1) file o.file_id ≡ o.file)
        (sym same)
        (put_here host.handles (progress.server.last_id + 1) file)

granted_faithfully : (requests : ℕ → FileRequest) (tag client file : ℕ) (access : Access) (share : Share) (ask : CreateAsk)
    (lease : Lease) (progress : Progress) → ask.reconnect ≡ None → requests tag ≡ FileRequest.Create file access share (Some ask)
    → GoesFaithfully requests tag progress (granted_with client file access share ask.lease ask.durable lease progress)
granted_faithfully requests tag client file access share ask lease progress none asked =
    let answer : CreateAnswer = record { lease = lease_given ask.lease lease; durable = ask.durable && lease.state.handle } in
    one_done requests tag progress (granted_with client file access share ask.lease ask.durable lease progress)
    (Out.Opened file client ∷ Out.Sent client (Reply.Created file (progress.server.last_id + 1) (Some answer)) ∷ [])
    (Decision.Opened client tag (progress.server.last_id + 1) answer) refl refl
    (λ host outs is.
    let done : opened_as client (progress.server.last_id + 1) answer (requests tag) (record { host = host; outs = outs })
    ≡ opened client file (progress.server.last_id + 1) answer None (record { host = host; outs = outs }) =
    ap (λ r. opened_as client (progress.server.last_id + 1) answer r (record { host = host; outs = outs })) asked
    ∙ ap (λ again. opened client file (progress.server.last_id + 1) answer again (record { host = host; outs = outs })) none in (
      ap (λ (d : Hosted). d.outs) done,
      subst (λ (d : Hosted). IsHostOf d.host (granted_with client file access share ask.lease ask.durable lease progress).server)
          (sym done) (host_of_more host progress client file access share ask.lease ask.durable lease is),
    ))

same_open : (file_id : ℕ) (one : Open) → ((connected_again file_id one).file_id ≡ one.file_id)
    × ((connected_again file_id one).file ≡ one.file)
same_open file_id one = if_cases (λ (o : Open). (o.file_id ≡ one.file_id) × (o.file ≡ one.file)) (one.file_id == file_id)
    (record one { connected = true }) one (λ e. (refl, refl)) (λ e. (refl, refl))

host_of_again : (host : Host) (server : Server) (file_id : ℕ) → IsHostOf host server
    → IsHostOf host (record server { opens = map (connected_again file_id) server.opens })
host_of_again host server file_id is = record {
  contents = is.contents;
  handles = λ one among.
      let was = among_map (connected_again file_id) one server.opens among in
      let same = same_open file_id was.0 in
      ap (λ (o : Open). host.handles o.file_id) was.2 ∙ ap host.handles same.0 ∙ is.handles was.0 was.1 ∙ sym same.1
      ∙ sym (ap (λ (o : Open). o.file) was.2);
  numbered = λ one among.
      let was = among_map (connected_again file_id) one server.opens among in
      let same = same_open file_id was.0 in
      subst (λ n. n ≤ server.last_id) (sym (ap (λ (o : Open). o.file_id) was.2 ∙ same.0)) (is.numbered was.0 was.1);
}

again_faithfully : (requests : ℕ → FileRequest) (tag client file : ℕ) (access : Access) (share : Share) (ask : CreateAsk)
    (file_id : ℕ) (progress : Progress) → ask.reconnect ≡ Some file_id
    → requests tag ≡ FileRequest.Create file access share (Some ask)
    → GoesFaithfully requests tag progress (reconnected client file ask.lease file_id progress)
again_faithfully requests tag client file access share ask file_id progress some asked =
    let answer : CreateAnswer = record {
      lease = lease_given ask.lease (standing_lease progress.server client ask.lease);
      durable = false;
    } in
    one_done requests tag progress (reconnected client file ask.lease file_id progress)
    (Out.Sent client (Reply.Created file file_id (Some answer)) ∷ []) (Decision.Opened client tag file_id answer) refl refl
    (λ host outs is.
    let done : opened_as client file_id answer (requests tag) (record { host = host; outs = outs })
    ≡ opened client file file_id answer (Some file_id) (record { host = host; outs = outs }) =
    ap (λ r. opened_as client file_id answer r (record { host = host; outs = outs })) asked
    ∙ ap (λ again. opened client file file_id answer again (record { host = host; outs = outs })) some in (
      ap (λ (d : Hosted). d.outs) done,
      subst (λ (d : Hosted). IsHostOf d.host (reconnected client file ask.lease file_id progress).server) (sym done)
          (host_of_again host progress.server file_id is),
    ))

-- ---- reads, writes and closes

read_faithfully : (requests : ℕ → FileRequest) (tag client file_id : ℕ) (one : Open) (progress : Progress)
    → IsFoundOpen progress.server client file_id one → requests tag ≡ FileRequest.Read file_id
    → GoesFaithfully requests tag progress (read_done client one.file file_id progress)
read_faithfully requests tag client file_id one progress found asked =
    one_done requests tag progress (read_done client one.file file_id progress)
    (Out.Sent client (Reply.ReadDone file_id (progress.server.contents one.file)) ∷ []) (Decision.GoesOn client tag) refl refl
    (λ host outs is.
    let done = ap (λ r. gone_on_with client r (record { host = host; outs = outs })) asked in
    let file : host.handles file_id ≡ one.file = ap host.handles (sym found.id) ∙ is.handles one found.there in (
      ap (λ (d : Hosted). d.outs) done
          ∙ ap (λ bytes. outs ++ Out.Sent client (Reply.ReadDone file_id bytes) ∷ [])
          (ap (λ (contents : ℕ → List ℕ). contents (host.handles file_id)) is.contents ∙ ap progress.server.contents file),
      subst (λ (d : Hosted). IsHostOf d.host progress.server) (sym done) is,
    ))

changed_faithfully : (requests : ℕ → FileRequest) (tag client file_id number : ℕ) (patch : Patch) (one : Open)
    (progress : Progress)
    → IsFoundOpen progress.server client file_id one → requests tag ≡ FileRequest.Write file_id number patch
    → GoesFaithfully requests tag progress (changed client one.file file_id number patch progress)
changed_faithfully requests tag client file_id number patch one progress found asked =
    one_done requests tag progress (changed client one.file file_id number patch progress)
    (Out.Changed one.file client number patch ∷ Out.Sent client (Reply.WriteDone file_id number) ∷ [])
    (Decision.GoesOn client tag)
    refl refl
    (λ host outs is.
    let done = ap (λ r. gone_on_with client r (record { host = host; outs = outs })) asked in
    let file : host.handles file_id ≡ one.file = ap host.handles (sym found.id) ∙ is.handles one found.there in (
      ap (λ (d : Hosted). d.outs) done
          ∙ ap (λ at. outs ++ Out.Changed at client number patch ∷ Out.Sent client (Reply.WriteDone file_id number) ∷ []) file,
      subst (λ (d : Hosted). IsHostOf d.host (changed client one.file file_id number patch progress).server) (sym done) (record {
        contents = ap (λ at. put host.contents at (patched (host.contents at) patch)) file
            ∙ ap (λ (contents : ℕ → List ℕ). put contents one.file (patched (contents one.file) patch)) is.contents;
        handles = is.handles;
        numbered = is.numbered;
      }),
    ))

closed_faithfully : (requests : ℕ → FileRequest) (tag client file_id : ℕ) (progress : Progress)
    → requests tag ≡ FileRequest.Close file_id → GoesFaithfully requests tag progress
    (replied client (Reply.Closed file_id) (opens_dropped (λ other. other.file_id == file_id) progress))
closed_faithfully requests tag client file_id progress asked =
    let test : Open → Bool = λ other. other.file_id == file_id in
    one_done requests tag progress (replied client (Reply.Closed file_id) (opens_dropped test progress))
    (Out.Sent client (Reply.Closed file_id) ∷ []) (Decision.Closed client tag)
    (ap (λ o. o ++ Out.Sent client (Reply.Closed file_id) ∷ []) (append-nil progress.outs)) refl
    (λ host outs is.
    let done = ap (λ r. closed_as client r (record { host = host; outs = outs })) asked in (
      ap (λ (d : Hosted). d.outs) done,
      subst (λ (d : Hosted). IsHostOf d.host (opens_dropped test progress).server) (sym done)
          (host_of_fewer test progress host is),
    ))

pub ends_faithfully : (requests : ℕ → FileRequest) (tag client : ℕ) (progress : Progress) (request : FileRequest)
    (outcome : Outcome)
    → requests tag ≡ request → GoesFaithfully requests tag progress (concluded client request progress outcome)
ends_faithfully requests tag client progress = any_end client progress
    (λ request outcome after. requests tag ≡ request → GoesFaithfully requests tag progress after) (record {
      refused = λ request status asked. refused_faithfully requests tag client request status progress asked;
      left = λ request outcome why asked. stays_faithful requests tag progress;
      full = λ file access share ask none out asked. refused_faithfully requests tag client
          (FileRequest.Create file access share (Some ask)) Status.InsufficientResources progress asked;
      granted = λ file access share ask none room asked. granted_faithfully requests tag client file access share ask
          (lease_after progress.server client file ask.lease) progress none asked;
      again = λ file access share ask file_id some asked.
          again_faithfully requests tag client file access share ask file_id progress some asked;
      read = λ file_id one found asked. read_faithfully requests tag client file_id one progress found asked;
      changed = λ file_id number patch one found asked.
          changed_faithfully requests tag client file_id number patch one progress found asked;
      closed = λ file_id one found asked. closed_faithfully requests tag client file_id progress asked;
    })

-- ---- acknowledgments

not_acknowledged : (requests : ℕ → FileRequest) (tag client : ℕ) (status : Status) (progress : Progress)
    → GoesFaithfully requests tag progress (replied client (Reply.AckFailed status) progress)
not_acknowledged requests tag client status progress = one_done requests tag progress
    (replied client (Reply.AckFailed status) progress) (Out.Sent client (Reply.AckFailed status) ∷ [])
    (Decision.NotAcknowledged client status) refl refl (λ host outs is. (refl, is))

break_ended_faithfully : (requests : ℕ → FileRequest) (tag : ℕ) (key : Key) (state : State) (progress : Progress)
    → GoesFaithfully requests tag progress (break_ended key state progress)
break_ended_faithfully requests tag key state progress = one_done requests tag progress (break_ended key state progress)
    (break_ended key state (begun progress.server)).outs _ refl refl
    (λ host outs is. (refl, same_host host progress.server (break_ended key state progress).server is refl refl refl))

judged_faithfully : (requests : ℕ → FileRequest) (tag : ℕ) (key : Key) (state : State) (broken_to : Option State)
    (progress : Progress)
    → GoesFaithfully requests tag progress (judged key state broken_to progress)
judged_faithfully requests tag key state None progress =
    not_acknowledged requests tag key.client Status.Unsuccessful progress
judged_faithfully requests tag key state (Some lowered) progress =
    if_cases (GoesFaithfully requests tag progress) (is_state_within state lowered) (break_ended key state progress)
    (replied key.client (Reply.AckFailed Status.RequestNotAccepted) progress)
    (λ within. break_ended_faithfully requests tag key state progress)
    (λ apart. not_acknowledged requests tag key.client Status.RequestNotAccepted progress)

pub acknowledged_faithfully : (requests : ℕ → FileRequest) (tag client : ℕ) (given : Option LeaseOf) (progress : Progress)
    → GoesFaithfully requests tag progress (acknowledged client given progress)
unfolding acknowledged
acknowledged_faithfully requests tag client None progress =
    not_acknowledged requests tag client Status.InvalidParameter progress
acknowledged_faithfully requests tag client (Some given) progress =
    let key = key_of client given.key in
    if_cases (GoesFaithfully requests tag progress) (has_lease progress.server key)
    (judged key given.state (progress.server.leases key).broken_to progress)
    (replied client (Reply.AckFailed Status.ObjectNameNotFound) progress)
    (λ there. judged_faithfully requests tag key given.state (progress.server.leases key).broken_to progress)
    (λ none. not_acknowledged requests tag client Status.ObjectNameNotFound progress)
