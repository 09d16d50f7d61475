-- What commands and replies make of the beliefs of a client's entries, once for all that is said of beliefs: but for a
-- grant and a break, no entry is live with another belief than it had, and nothing is acknowledged.
use Rattle.lease_laws.proofs.Words.{◌++◌, ◌+◌, ◌∙◌, ◌∷◌, ◌≡◌, ◌≢◌, ◌⊎◌, Answer, Asked, BreakNotice, Client, CreateAnswer, Entry}
use Rattle.lease_laws.proofs.Words.{FileRequest, LeaseGiven, List, LiveEntry, None, Option, Pending, Phase, Reply, Request}
use Rattle.lease_laws.proofs.Words.{Some, State, Step, Turn, ℕ, [], ⊤, acknowledgment, ap, ap₂, arith, belief_lowered, bytes_eq}
use Rattle.lease_laws.proofs.Words.{bytes_eq-Decides, create_request, false, flushed, given_state, inl, inr, is_key_of}
use Rattle.lease_laws.proofs.Words.{lease_key, meet, next_write, parked_closed, phase_with, promoted_belief, put, quiet_step}
use Rattle.lease_laws.proofs.Words.{refl, subst, sym, take, true, turned, without_open, write_requests, wrote_step}
use Rattle.lease_laws.proofs.client.Thin.{put_other, put_same}
use Rattle.lease_laws.proofs.client.cases.Commands.{HasCommands, sent_of}
use Rattle.lease_laws.proofs.client.cases.Files.{found_so}
use Rattle.lease_laws.proofs.client.cases.Replies.{HasTakes, PassesOver, is_live}
use Rattle.lease_laws.proofs.client.cases.Turns.{by_turn}
use Rattle.lease_laws.proofs.server.Lists.{clash, either, if_cases, not_true}
use Rattle.lease_laws.proofs.world.Links.{by_client}
use Rattle.lease_coherence.specs.Creates.{one_if}
use Rattle.lease_coherence.specs.Names.{Each}
use Rattle.lease_coherence.proofs.beliefs.OneLease.{acks, acks_append}
use Rattle.lease_coherence.proofs.names.NamedInRecord.{each_append}

-- ---- requests about files

abbrev pub IsAboutFile : Request → Type 0
IsAboutFile (Request.OnFile request) = ⊤
IsAboutFile (Request.Acknowledge given) = ⊥

pub file_no_acks : (key : List ℕ) (queue : List Request) → Each IsAboutFile queue → acks key queue ≡ 0
file_no_acks key [] each = refl
file_no_acks key (Request.OnFile request ∷ queue) each = ap (λ n. 0 + n) (file_no_acks key queue each.1) ∙ (omega arith)
file_no_acks key (Request.Acknowledge given ∷ queue) each = absurd each.0

pub writes_about : (file_id : ℕ) (writes : List Pending) → Each IsAboutFile (write_requests file_id writes)
writes_about file_id [] = tt
writes_about file_id (write ∷ writes) = (tt, writes_about file_id writes)

pub writes_close_about : (file_id : ℕ) (writes : List Pending) (more : List Request) → Each IsAboutFile more
    → Each IsAboutFile (write_requests file_id writes ++ Request.OnFile (FileRequest.Close file_id) ∷ more)
writes_close_about file_id writes more each =
    each_append IsAboutFile (write_requests file_id writes) _ (writes_about file_id writes) (tt, each)

-- ---- keys of files

same_file : (front : List ℕ) (file other : ℕ) (rest : List ℕ) → front ++ file ∷ rest ≡ front ++ other ∷ rest → file ≡ other
same_file [] file other rest e = cc
same_file (x ∷ front) file other rest e = same_file front file other rest (tails e)
  where
    tails : {xs ys : List ℕ} → x ∷ xs ≡ x ∷ ys → xs ≡ ys
    tails e = cc

pub keys_apart : (guid : List ℕ) (file other : ℕ) → file ≢ other → bytes_eq (lease_key guid file) (lease_key guid other) ≡ false
unfolding lease_key
keys_apart guid file other ne = not_true (bytes_eq (lease_key guid file) (lease_key guid other))
    (λ e. ne (same_file (take 12 guid) file other (0 ∷ 0 ∷ 0 ∷ [])
    ((bytes_eq-Decides (lease_key guid file) (lease_key guid other)).0 e)))

-- ---- steps that change no belief

-- an entry that is live, with its belief
pub record HadBelief (phase : Phase) (belief : State) : Type 0 where
  pub live : LiveEntry
  pub was : phase ≡ Phase.Live live
  pub same : belief ≡ live.belief

pub record IsStill (machine : Client) (step : Step) : Type 0 where
  pub about : Each IsAboutFile step.requests
  pub beliefs : (file : ℕ) (now : LiveEntry) → (step.client.entries file).phase ≡ Phase.Live now
      → HadBelief (machine.entries file).phase now.belief

pub as_it_was : (phase : Phase) (live : LiveEntry) → phase ≡ Phase.Live live → HadBelief phase live.belief
as_it_was phase live is = record { live = live; was = is; same = refl }

pub one_live : (live other : LiveEntry) → Phase.Live other ≡ Phase.Live live → other ≡ live
one_live live other e = cc

-- an entry that is live with the same belief
had_same : (old : Phase) (live next : LiveEntry) → old ≡ Phase.Live live → next.belief ≡ live.belief
    → (now : LiveEntry) → Phase.Live next ≡ Phase.Live now → HadBelief old now.belief
had_same old live next is same now e =
    record { live = live; was = is; same = ap (λ (l : LiveEntry). l.belief) (sym (one_live now next e)) ∙ same }

-- one that isn't live
pub never_live : (old new : Phase) → is_live new ≡ false → (now : LiveEntry) → new ≡ Phase.Live now → HadBelief old now.belief
never_live old new idle now e = clash (is_live new) (ap is_live e) idle

with_same : (old : Phase) (write : Option Pending) (phase : Phase) → old ≡ phase
    → (now : LiveEntry) → phase_with write phase ≡ Phase.Live now → HadBelief old now.belief
with_same old write (Phase.Live live) is now e = had_same old live _ is refl now e
with_same old write phase is now e = never_live old phase refl now e

pub idle_still : (machine : Client) (answer : Answer) → IsStill machine
    (record { client = machine; answer = answer; requests = []; notes = [] })
idle_still machine answer = record { about = tt; beliefs = λ file now is. as_it_was (machine.entries file).phase now is }

put_still : (machine : Client) (at : ℕ) (entry : Entry)
    → ((now : LiveEntry) → entry.phase ≡ Phase.Live now → HadBelief (machine.entries at).phase now.belief)
    → (file : ℕ) (now : LiveEntry) → (put machine.entries at entry file).phase ≡ Phase.Live now
    → HadBelief (machine.entries file).phase now.belief
put_still machine at entry had file now is = by_client (λ f. (put machine.entries at entry f).phase ≡ Phase.Live now
    → HadBelief (machine.entries f).phase now.belief) at file
    (λ e. had now (ap (λ (x : Entry). x.phase) (sym (put_same machine.entries at entry)) ∙ e))
    (λ ne apart e. as_it_was (machine.entries file).phase now
    (ap (λ (x : Entry). x.phase) (sym (put_other machine.entries at entry file ne)) ∙ e)) is

turned_still : (machine : Client) (at : ℕ) (turn : Turn) → Each IsAboutFile turn.requests
    → ((now : LiveEntry) → turn.entry.phase ≡ Phase.Live now → HadBelief (machine.entries at).phase now.belief)
    → IsStill machine (turned machine at turn)
turned_still machine at turn about had =
    by_turn (IsStill machine) machine at turn (record { about = about; beliefs = put_still machine at turn.entry had })

wrote_still : (machine : Client) (at : ℕ) (entry : Entry) (answer : Answer) (requests : List Request) (write : Pending)
    → Each IsAboutFile requests
    → ((now : LiveEntry) → entry.phase ≡ Phase.Live now → HadBelief (machine.entries at).phase now.belief)
    → IsStill machine (wrote_step machine at entry answer requests write)
wrote_still machine at entry answer requests write about had =
    record { about = about; beliefs = put_still machine at entry had }

pub commands_still : (machine : Client) → HasCommands machine (IsStill machine)
commands_still machine = record {
  refused = λ refusal. idle_still machine (Answer.Refused refusal);
  opening = λ file terms is on. turned_still machine file _ (tt, tt)
      (λ now e. never_live (machine.entries file).phase (Phase.Opening terms.access terms.share) refl now e);
  added = λ file live is. turned_still machine file _ tt
      (λ now e. had_same (machine.entries file).phase live _ is.is_so refl now e);
  asked = λ file live terms is idle some. turned_still machine file _ (tt, tt)
      (λ now e. had_same (machine.entries file).phase live _ is.is_so refl now e);
  anew = λ file live terms is idle none. turned_still machine file _
      (writes_close_about live.file_id live.unsent (create_request machine file terms ∷ []) (tt, tt))
      (λ now e. never_live (machine.entries file).phase (Phase.Opening terms.access terms.share) refl now e);
  fewer = λ file live is more. turned_still machine file _ tt
      (λ now e. had_same (machine.entries file).phase live _ is.is_so refl now e);
  parked = λ file live is idle done stays. turned_still machine file _ tt
      (λ now e. had_same (machine.entries file).phase live _ is.is_so refl now e);
  closed = λ file live is idle done goes. turned_still machine file _ (writes_close_about live.file_id live.unsent [] tt)
      (λ now e. never_live (machine.entries file).phase Phase.Closed refl now e);
  cached = λ file live base is reads has. record { about = tt; beliefs = λ f now e. as_it_was (machine.entries f).phase now e };
  read = λ file live is idle. turned_still machine file _ (tt, tt)
      (λ now e. had_same (machine.entries file).phase live _ is.is_so refl now e);
  buffered = λ file live patch is fits caches. wrote_still machine file _ Answer.Done [] (next_write machine patch true) tt
      (λ now e. had_same (machine.entries file).phase live _ is.is_so refl now e);
  written = λ file live patch is fits sends. wrote_still machine file _ Answer.Waiting
      (Request.OnFile (FileRequest.Write live.file_id (machine.last_number + 1) patch) ∷ [])
      (next_write machine patch false) (tt, tt)
      (λ now e. had_same (machine.entries file).phase live _ is.is_so refl now e);
  flushed = λ file live is. turned_still machine file _ (writes_about live.file_id live.unsent)
      (λ now e. had_same (machine.entries file).phase live _ is.is_so refl now e);
}

-- ---- replies

-- a reply that isn't a break
abbrev pub IsNoBreak : Reply → Type 0
IsNoBreak (Reply.Break notice) = ⊥
IsNoBreak reply = ⊤

-- what is to be shown of replies
pub record HasBeliefTakes (machine : Client) (P : Reply → Step → Type 0) : Type 0 where
  pub passed : (reply : Reply) → PassesOver machine reply → P reply (quiet_step machine)
  pub parked : (at : ℕ) (notice : BreakNotice) (live : LiveEntry) → is_key_of machine notice.key at ≡ true
      → P (Reply.Break (Some notice)) (turned machine at (parked_closed live (sent_of machine at)))
  pub lowered : (at : ℕ) (notice : BreakNotice) (live : LiveEntry) → is_key_of machine notice.key at ≡ true
      → (machine.entries at).phase ≡ Phase.Live live → P (Reply.Break (Some notice)) (turned machine at
      (belief_lowered live (sent_of machine at) notice (meet live.belief notice.lowered)))
  pub granted : (at file_id : ℕ) (answer : CreateAnswer) (turn : Turn) (next : LiveEntry)
      → turn.entry.phase ≡ Phase.Live next → Each IsAboutFile turn.requests
      → (next.belief ≡ given_state (lease_key machine.guid at) answer.lease) ⊎ HadBelief (machine.entries at).phase next.belief
      → P (Reply.Created at file_id (Some answer)) (turned machine at turn)
  pub still : (reply : Reply) (step : Step) → IsNoBreak reply → IsStill machine step → P reply step

-- the state that a promoted entry believes
promoted_from : (key : List ℕ) (live : LiveEntry) (old : Phase) → old ≡ Phase.Live live → (given : Option LeaseGiven)
    → (promoted_belief key live.belief given ≡ given_state key given) ⊎ HadBelief old (promoted_belief key live.belief given)
promoted_from key live old is None = inl refl
promoted_from key live old is (Some given) = either given.in_progress
    (λ busy. inr (subst (λ s. HadBelief old s) (sym (rw (busy) refl)) (as_it_was old live is)))
    (λ done. either (bytes_eq given.key key) (λ own. inl (rw (done, own) refl)) (λ other. inl (rw (done, other) refl)))

gone_idle : (asking : Option Asked) (sent : List Pending) → is_live (without_open asking sent).phase ≡ false
gone_idle None sent = refl
gone_idle (Some asked) sent = refl

pub parked_still : (machine : Client) (at : ℕ) (live : LiveEntry)
    → IsStill machine (turned machine at (parked_closed live (sent_of machine at)))
parked_still machine at live = turned_still machine at _ (writes_close_about live.file_id live.unsent [] tt)
    (λ now e. never_live (machine.entries at).phase Phase.Closed refl now e)

pub takes_by_belief : (machine : Client) (P : Reply → Step → Type 0) → HasBeliefTakes machine P → HasTakes machine P
takes_by_belief machine P h = record {
  passed = h.passed;
  parked_closes = λ at notice live found is parked. h.parked at notice live
      (found_so machine (is_key_of machine notice.key) at found);
  lowered = λ at notice live found is stays. h.lowered at notice live
      (found_so machine (is_key_of machine notice.key) at found) is;
  opened = λ at file_id answer access share is. h.granted at file_id answer _ _ refl tt (inl refl);
  reconnected = λ at file_id answer parted is. h.granted at file_id answer _ _ refl tt (inl refl);
  promoted = λ at file_id answer live asked is asks. h.granted at file_id answer _ _ refl (tt, tt)
      (promoted_from (lease_key machine.guid at) live (machine.entries at).phase is answer.lease);
  not_opened = λ at status access share is. answered at _ (Reply.CreateFailed at status) tt tt
      (λ now e. never_live (machine.entries at).phase Phase.Closed refl now e);
  not_reconnected = λ at status parted is. answered at _ (Reply.CreateFailed at status) tt tt
      (λ now e. never_live (machine.entries at).phase Phase.Closed refl now e);
  not_promoted = λ at status live asked is asks. answered at _ (Reply.CreateFailed at status) tt tt
      (λ now e. had_same (machine.entries at).phase live _ is refl now e);
  read = λ at file_id bytes live is id some. answered at _ (Reply.ReadDone file_id bytes) tt tt
      (λ now e. had_same (machine.entries at).phase live _ is refl now e);
  read_closed = λ at file_id status live is id gone. answered at _ (Reply.ReadFailed file_id status) tt tt
      (λ now e. never_live (machine.entries at).phase _ (gone_idle live.asking _) now e);
  not_read = λ at file_id status live is id some. answered at _ (Reply.ReadFailed file_id status) tt tt
      (λ now e. had_same (machine.entries at).phase live _ is refl now e);
  written = λ at file_id number has known. answered at _ (Reply.WriteDone file_id number) tt tt
      (with_same (machine.entries at).phase _ (machine.entries at).phase refl);
  write_closed = λ at file_id number status live has known is id gone.
      answered at _ (Reply.WriteFailed file_id number status) tt tt
      (λ now e. never_live (machine.entries at).phase _ (gone_idle live.asking _) now e);
  not_written = λ at file_id number status has known. answered at _ (Reply.WriteFailed file_id number status) tt tt
      (λ now e. had_same (machine.entries at).phase now _ e refl now refl);
}
  where
    answered : (at : ℕ) (turn : Turn) (reply : Reply) → IsNoBreak reply → Each IsAboutFile turn.requests
        → ((now : LiveEntry) → turn.entry.phase ≡ Phase.Live now → HadBelief (machine.entries at).phase now.belief)
        → P reply (turned machine at turn)
    answered at turn reply none about had = h.still reply (turned machine at turn) none (turned_still machine at turn about had)

-- ---- acknowledgments

ack_elsewhere : (guid : List ℕ) (file at : ℕ) (notice : BreakNotice) (state : State) → file ≢ at
    → bytes_eq (lease_key guid at) notice.key ≡ true → acks (lease_key guid file) (acknowledgment notice state) ≡ 0
ack_elsewhere guid file at notice state ne own = if_cases (λ q. acks (lease_key guid file) q ≡ 0) notice.ack_required
    (Request.Acknowledge (Some (record { key = notice.key; state = state })) ∷ []) []
    (λ asked. ap (λ b. one_if b + 0) (ap (bytes_eq (lease_key guid file))
    (sym ((bytes_eq-Decides (lease_key guid at) notice.key).0 own)) ∙ keys_apart guid file at ne) ∙ (omega arith))
    (λ plain. refl)

-- what a lowered entry sends acknowledges no other key
pub lowered_elsewhere : (machine : Client) (at : ℕ) (notice : BreakNotice) (live : LiveEntry)
    → is_key_of machine notice.key at ≡ true → (file : ℕ) → file ≢ at → acks (lease_key machine.guid file)
    (write_requests live.file_id (flushed live.belief (meet live.belief notice.lowered) live.unsent)
    ++ acknowledgment notice (meet live.belief notice.lowered)) ≡ 0
lowered_elsewhere machine at notice live own file ne =
    let new = meet live.belief notice.lowered in
    let writes = flushed live.belief new live.unsent in
    acks_append (lease_key machine.guid file) (write_requests live.file_id writes) (acknowledgment notice new)
    ∙ ap₂ (λ a b. a + b) (file_no_acks (lease_key machine.guid file) (write_requests live.file_id writes)
    (writes_about live.file_id writes)) (ack_elsewhere machine.guid file at notice new ne own) ∙ (omega arith)
