-- What a client's step names is in the record already, and a write that it settles as done was accepted.
use Rattle.lease_laws.proofs.Words.{◌++◌, ◌==◌, ◌∷◌, ◌≡◌, Answer, Asked, Bool, BreakNotice, Client, ClientCall, Entry, Fact}
use Rattle.lease_laws.proofs.Words.{FileRequest, List, LiveEntry, None, Note, OpenTerms, Option, Parted, Patch, Pending, Phase}
use Rattle.lease_laws.proofs.Words.{Reply, Request, Settlement, Some, State, Step, Turn, ℕ, [], ⊤, acknowledgment, all_turned}
use Rattle.lease_laws.proofs.Words.{belief_of, believes_noted, bytes_eq, bytes_eq-Decides, client_called, connect_turn}
use Rattle.lease_laws.proofs.Words.{create_request, eq-eqb, false, find, first_belief, flat_map, flushed, gives_up, has_written}
use Rattle.lease_laws.proofs.Words.{if◌then◌else◌, is_accepted, is_key_of, is_numbered, joint_terms, lease_key, meet}
use Rattle.lease_laws.proofs.Words.{next_write, notice_turn, numbers_to, phase_with, promoted_belief, put, reconnect_request}
use Rattle.lease_laws.proofs.Words.{refl, same_patch, same_state, sent_without, settled_as, silent_turn, subst, sym, true}
use Rattle.lease_laws.proofs.Words.{turned, unflushed, was_opened, without_open, write_requests, wrote_step}
use Rattle.lease_laws.proofs.client.Thin.{put_other, put_same}
use Rattle.lease_laws.proofs.client.cases.Commands.{HasCommands, any_command, sent_of}
use Rattle.lease_laws.proofs.client.cases.Files.{found_so}
use Rattle.lease_laws.proofs.client.cases.Links.{HasNotices, any_notice}
use Rattle.lease_laws.proofs.client.cases.Replies.{HasTakes, any_reply}
use Rattle.lease_laws.proofs.client.cases.Turns.{by_turn, step_of}
use Rattle.lease_laws.proofs.server.Lists.{and_both, if_cases, true_or}
use Rattle.lease_laws.proofs.world.Links.{by_client}
use Rattle.lease_coherence.specs.Names.{Each, IsNamedEntry, IsNamedPhase, IsNamedReply, IsNamedRequest, WasWritten}
use Rattle.lease_coherence.proofs.names.NamedInRecord.{each_append, each_either, each_filter, each_without, entry_later}
use Rattle.lease_coherence.proofs.names.NamedInRecord.{request_later, writes_later}
use Rattle.lease_coherence.proofs.records.Later.{IsLater, later_fact, later_noted, past_noted}
use Rattle.lease_coherence.proofs.wellformed.Notes.{EachNote, notes_append}

-- a write that is settled as done was accepted
abbrev pub IsTrueDone : ℕ → List Fact → Note → Type 0
IsTrueDone client past (Note.Settled number Settlement.Done) = is_accepted client number past ≡ true
IsTrueDone client past note = ⊤

-- what a step names, once its notes are made
pub record IsStepNamed (client : ℕ) (machine : Client) (past : List Fact) (step : Step) : Type 0 where
  pub requests : Each (IsNamedRequest client machine.guid (past_noted client past step.notes)) step.requests
  pub entries : (file : ℕ) → IsNamedEntry client file (past_noted client past step.notes) (step.client.entries file)
  pub done : EachNote (IsTrueDone client past) step.notes

abbrev pub HasNames : ℕ → Client → List Fact → Type 0
HasNames client machine past = (file : ℕ) → IsNamedEntry client file past (machine.entries file)

-- ---- turns

settled_true : (client : ℕ) (past : List Fact) (outcome : Settlement) (writes : List Pending)
    → (outcome ≡ Settlement.Done → ⊥) → EachNote (IsTrueDone client past) (settled_as outcome writes)
settled_true client past outcome [] never = tt
settled_true client past outcome (write ∷ writes) never = (one outcome never, settled_true client past outcome writes never)
  where
    one : (o : Settlement) → (o ≡ Settlement.Done → ⊥) → IsTrueDone client past (Note.Settled write.number o)
    one Settlement.Done never = absurd (never refl)
    one settlement never = tt

believed_true : (client : ℕ) (past : List Fact) (file : ℕ) (old new : State)
    → EachNote (IsTrueDone client past) (believes_noted file old new)
believed_true client past file old new = if_cases (EachNote (IsTrueDone client past)) (same_state old new) []
    (Note.Believes file new ∷ []) (λ same. tt) (λ other. (tt, tt))

requests_later : (client : ℕ) (guid : List ℕ) (past new : List Fact) → IsLater past new → (requests : List Request)
    → Each (IsNamedRequest client guid past) requests → Each (IsNamedRequest client guid new) requests
requests_later client guid past new l [] each = tt
requests_later client guid past new l (request ∷ requests) each =
    (request_later client guid past new l request each.0, requests_later client guid past new l requests each.1)

turned_named : (client : ℕ) (machine : Client) (past : List Fact) (file : ℕ) (turn : Turn)
    → HasNames client machine past → IsNamedEntry client file past turn.entry
    → Each (IsNamedRequest client machine.guid past) turn.requests → EachNote (IsTrueDone client past) turn.settled
    → IsStepNamed client machine past (turned machine file turn)
turned_named client machine past file turn names entry requests settled =
    let notes = (step_of machine file turn).notes in
    let later = later_noted client past notes in by_turn (IsStepNamed client machine past) machine file turn (record {
      requests = requests_later client machine.guid past (past_noted client past notes) later turn.requests requests;
      entries = λ f. entry_later client f past (past_noted client past notes) later _
          (by_client (λ g. IsNamedEntry client g past (put machine.entries file turn.entry g)) file f
          (subst (IsNamedEntry client file past) (sym (put_same machine.entries file turn.entry)) entry)
          (λ ne apart. subst (IsNamedEntry client f past) (sym (put_other machine.entries file turn.entry f ne)) (names f)));
      done = notes_append (IsTrueDone client past) turn.settled _ settled
          (believed_true client past file (belief_of (machine.entries file)) (belief_of turn.entry));
    })

-- a step that changes no entry, sends nothing and settles nothing
idle_named : (client : ℕ) (machine : Client) (past : List Fact) (answer : Answer) → HasNames client machine past
    → IsStepNamed client machine past (record { client = machine; answer = answer; requests = []; notes = [] })
idle_named client machine past answer names = record { requests = tt; entries = names; done = tt }

-- ---- requests

writes_named : (client : ℕ) (guid : List ℕ) (past : List Fact) (file file_id : ℕ) (writes : List Pending)
    → was_opened file_id file client past ≡ true → Each (WasWritten client file past) writes
    → Each (IsNamedRequest client guid past) (write_requests file_id writes)
writes_named client guid past file file_id [] opened each = tt
writes_named client guid past file file_id (write ∷ writes) opened each = (
  record { file = file; opened = opened; written = each.0 },
  writes_named client guid past file file_id writes opened each.1,
)

create_named : (client : ℕ) (machine : Client) (past : List Fact) (file : ℕ) (terms : OpenTerms)
    → IsNamedRequest client machine.guid past (create_request machine file terms)
create_named client machine past file terms = record {
  lease = record { key = lease_key machine.guid file; state = terms.want };
  asks = refl;
  key = refl;
  again = λ file_id e. absurd (none file_id e);
}
  where
    none : (n : ℕ) → None ≡ Some n → ⊥
    none n e = cc

close_named : (client : ℕ) (guid : List ℕ) (past : List Fact) (file file_id : ℕ) → was_opened file_id file client past ≡ true
    → IsNamedRequest client guid past (Request.OnFile (FileRequest.Close file_id))
close_named client guid past file file_id opened = record { file = file; opened = opened }

-- ---- commands

-- a write that was noted just now
patch_same : (patch : Patch) → same_patch patch patch ≡ true
patch_same patch = and_both (patch.offset == patch.offset) (bytes_eq patch.bytes patch.bytes)
    (eq-eqb patch.offset patch.offset refl) ((bytes_eq-Decides patch.bytes patch.bytes).1 refl)

just_written : (client file number : ℕ) (patch : Patch) (buffered : Bool) (past : List Fact)
    → has_written client file number patch (Fact.Wrote client file number patch buffered ∷ past) ≡ true
unfolding has_written
just_written client file number patch buffered past = true_or _ (has_written client file number patch past)
    (and_both _ _ (and_both _ _ (and_both _ _ (eq-eqb client client refl) (eq-eqb file file refl))
    (eq-eqb number number refl)) (patch_same patch))

-- a write under way
wrote_named : (client : ℕ) (machine : Client) (past : List Fact) (file : ℕ) (entry : Entry) (answer : Answer)
    (requests : List Request) (write : Pending) → HasNames client machine past
    → IsNamedEntry client file (Fact.Wrote client file write.number write.patch write.buffered ∷ past) entry
    → Each (IsNamedRequest client machine.guid (Fact.Wrote client file write.number write.patch write.buffered ∷ past)) requests
    → IsStepNamed client machine past (wrote_step machine file entry answer requests write)
wrote_named client machine past file entry answer requests write names named asked =
    let fact = Fact.Wrote client file write.number write.patch write.buffered in record {
      requests = asked;
      entries = λ f. by_client (λ g. IsNamedEntry client g (fact ∷ past) (put machine.entries file entry g)) file f
          (subst (IsNamedEntry client file (fact ∷ past)) (sym (put_same machine.entries file entry)) named)
          (λ ne apart. subst (IsNamedEntry client f (fact ∷ past)) (sym (put_other machine.entries file entry f ne))
          (entry_later client f past (fact ∷ past) (later_fact past fact) (machine.entries f) (names f)));
      done = (tt, tt);
    }

live_named : (client : ℕ) (machine : Client) (past : List Fact) (file : ℕ) (live : LiveEntry)
    → HasNames client machine past → (machine.entries file).phase ≡ Phase.Live live
    → IsNamedPhase client file past (Phase.Live live)
live_named client machine past file live names is = subst (IsNamedPhase client file past) is (names file).phase

commands_named : (client : ℕ) (machine : Client) (past : List Fact) → HasNames client machine past
    → HasCommands machine (IsStepNamed client machine past)
commands_named client machine past names = record {
  refused = λ refusal. idle_named client machine past (Answer.Refused refusal) names;
  opening = λ file terms is on. turned_named client machine past file _ names
      (record { sent = (names file).sent; phase = tt }) (create_named client machine past file terms, tt) tt;
  added = λ file live is. turned_named client machine past file _ names
      (record { sent = (names file).sent; phase = live_named client machine past file live names is.is_so }) tt tt;
  asked = λ file live terms is idle some. turned_named client machine past file _ names
      (record { sent = (names file).sent; phase = live_named client machine past file live names is.is_so })
      (create_named client machine past file (joint_terms live terms), tt) tt;
  anew = λ file live terms is idle none. let n = live_named client machine past file live names is.is_so in
      turned_named client machine past file _ names (record {
        sent = each_append (WasWritten client file past) (sent_of machine file) live.unsent (names file).sent n.1;
        phase = tt;
      }) (each_append (IsNamedRequest client machine.guid past) (write_requests live.file_id live.unsent) _
      (writes_named client machine.guid past file live.file_id live.unsent n.0 n.1)
      (close_named client machine.guid past file live.file_id n.0, (create_named client machine past file terms, tt))) tt;
  fewer = λ file live is more. turned_named client machine past file _ names
      (record { sent = (names file).sent; phase = live_named client machine past file live names is.is_so }) tt tt;
  parked = λ file live is idle done stays. turned_named client machine past file _ names
      (record { sent = (names file).sent; phase = live_named client machine past file live names is.is_so }) tt tt;
  closed = λ file live is idle done goes. let n = live_named client machine past file live names is.is_so in
      turned_named client machine past file _ names (record {
        sent = each_append (WasWritten client file past) (sent_of machine file) live.unsent (names file).sent n.1;
        phase = tt;
      }) (each_append (IsNamedRequest client machine.guid past) (write_requests live.file_id live.unsent) _
      (writes_named client machine.guid past file live.file_id live.unsent n.0 n.1)
      (close_named client machine.guid past file live.file_id n.0, tt)) tt;
  cached = λ file live base is reads has. record {
    requests = tt;
    entries = λ f. entry_later client f past _ (later_fact past _) (machine.entries f) (names f);
    done = (tt, tt);
  };
  read = λ file live is idle. let n = live_named client machine past file live names is.is_so in
      turned_named client machine past file _ names (record { sent = (names file).sent; phase = n })
      (close_named client machine.guid past file live.file_id n.0, tt) tt;
  buffered = λ file live patch is fits caches.
      let n = live_named client machine past file live names is.is_so in
      let write = next_write machine patch true in
      let fact = Fact.Wrote client file write.number write.patch write.buffered in
      let later = later_fact past fact in
      wrote_named client machine past file _ Answer.Done [] write names (record {
        sent = writes_later client file past (fact ∷ past) later (sent_of machine file) (names file).sent;
        phase = (
          later.opened live.file_id file client n.0,
          each_append (WasWritten client file (fact ∷ past)) live.unsent (write ∷ [])
              (writes_later client file past (fact ∷ past) later live.unsent n.1)
              (just_written client file write.number patch true past, tt),
        );
      }) tt;
  written = λ file live patch is fits sends.
      let n = live_named client machine past file live names is.is_so in
      let write = next_write machine patch false in
      let fact = Fact.Wrote client file write.number write.patch write.buffered in
      let later = later_fact past fact in
      wrote_named client machine past file _ Answer.Waiting _ write names (record {
        sent = each_append (WasWritten client file (fact ∷ past)) (sent_of machine file) (write ∷ [])
            (writes_later client file past (fact ∷ past) later (sent_of machine file) (names file).sent)
            (just_written client file write.number patch false past, tt);
        phase = (
          later.opened live.file_id file client n.0,
          writes_later client file past (fact ∷ past) later live.unsent n.1,
        );
      }) (
        record {
          file = file;
          opened = later.opened live.file_id file client n.0;
          written = just_written client file write.number patch false past;
        },
        tt,
      );
  flushed = λ file live is. let n = live_named client machine past file live names is.is_so in
      turned_named client machine past file _ names (record {
        sent = each_append (WasWritten client file past) (sent_of machine file) live.unsent (names file).sent n.1;
        phase = (n.0, tt);
      }) (writes_named client machine.guid past file live.file_id live.unsent n.0 n.1) tt;
}

-- ---- replies

flushed_named : (P : Pending → Type 0) (old new : State) (unsent : List Pending) → Each P unsent
    → Each P (flushed old new unsent) × Each P (unflushed old new unsent)
flushed_named P old new unsent each =
    (each_either P (gives_up old new) unsent [] each tt, each_either P (gives_up old new) [] unsent tt each)

ack_named : (client : ℕ) (machine : Client) (past : List Fact) (file : ℕ) (notice : BreakNotice) (state : State)
    → is_key_of machine notice.key file ≡ true → Each (IsNamedRequest client machine.guid past) (acknowledgment notice state)
ack_named client machine past file notice state own =
    if_cases (Each (IsNamedRequest client machine.guid past)) notice.ack_required _ []
    (λ required. (
      record {
        file = file;
        lease = record { key = notice.key; state = state };
        gives = refl;
        key = sym ((bytes_eq-Decides (lease_key machine.guid file) notice.key).0 own);
      },
      tt,
    ))
    (λ plain. tt)

either_true : (client : ℕ) (past : List Fact) (b : Bool) (outcome : Settlement) (writes : List Pending)
    → (outcome ≡ Settlement.Done → ⊥) → EachNote (IsTrueDone client past) (if b then [] else settled_as outcome writes)
either_true client past b outcome writes never = if_cases (EachNote (IsTrueDone client past)) b [] (settled_as outcome writes)
    (λ keeps. tt) (λ loses. settled_true client past outcome writes never)

phase_written : (client file : ℕ) (past : List Fact) (write : Option Pending) (phase : Phase)
    → IsNamedPhase client file past phase → IsNamedPhase client file past (phase_with write phase)
phase_written client file past write Phase.Closed n = tt
phase_written client file past write (Phase.Opening access share) n = tt
phase_written client file past write phase n = n

opening_named : (client file : ℕ) (past : List Fact) (asking : Option Asked) (sent : List Pending)
    → Each (WasWritten client file past) sent → IsNamedEntry client file past (without_open asking sent)
opening_named client file past None sent each = record { sent = each; phase = tt }
opening_named client file past (Some asked) sent each = record { sent = each; phase = tt }

no_failed : Settlement.Failed ≡ Settlement.Done → ⊥
no_failed e = cc

no_lost : Settlement.Lost ≡ Settlement.Done → ⊥
no_lost e = cc

no_unknown : Settlement.Unknown ≡ Settlement.Done → ⊥
no_unknown e = cc

abbrev TakesNamed : ℕ → Client → List Fact → Reply → Step → Type 0
TakesNamed client machine past reply step = IsNamedReply client past reply → IsStepNamed client machine past step

takes_named : (client : ℕ) (machine : Client) (past : List Fact) → HasNames client machine past
    → HasTakes machine (TakesNamed client machine past)
takes_named client machine past names = record {
  passed = λ reply why named. idle_named client machine past Answer.Quiet names;
  parked_closes = λ file notice live at is parked named. let n = live_named client machine past file live names is in
      turned_named client machine past file _ names (record {
        sent = each_append (WasWritten client file past) (sent_of machine file) live.unsent (names file).sent n.1;
        phase = tt;
      }) (each_append (IsNamedRequest client machine.guid past) (write_requests live.file_id live.unsent) _
      (writes_named client machine.guid past file live.file_id live.unsent n.0 n.1)
      (close_named client machine.guid past file live.file_id n.0, tt)) tt;
  lowered = λ file notice live at is stays named. let n = live_named client machine past file live names is in
      let new = meet live.belief notice.lowered in
      let gone = flushed live.belief new live.unsent in
      let parts = flushed_named (WasWritten client file past) live.belief new live.unsent n.1 in
      turned_named client machine past file _ names (record {
        sent = each_append (WasWritten client file past) (sent_of machine file) gone (names file).sent parts.0;
        phase = (n.0, parts.1);
      }) (each_append (IsNamedRequest client machine.guid past) (write_requests live.file_id gone) (acknowledgment notice new)
      (writes_named client machine.guid past file live.file_id gone n.0 parts.0)
      (ack_named client machine past file notice new (found_so machine (is_key_of machine notice.key) file at))) tt;
  opened = λ file file_id answer access share is named. turned_named client machine past file _ names
      (record { sent = (names file).sent; phase = (named, tt) }) tt tt;
  reconnected = λ file file_id answer parted is named.
      let n : IsNamedPhase client file past (Phase.Reconnecting parted) =
      subst (IsNamedPhase client file past) is (names file).phase in
      turned_named client machine past file _ names (record {
        sent = (names file).sent;
        phase = (
          n.0,
          each_either (WasWritten client file past) (first_belief machine file answer).write parted.writes [] n.1 tt,
        );
      }) tt (either_true client past (first_belief machine file answer).write Settlement.Lost parted.writes no_lost);
  promoted = λ file file_id answer live asked is asks named.
      let n = live_named client machine past file live names is in
      let belief = promoted_belief (lease_key machine.guid file) live.belief answer.lease in
      turned_named client machine past file _ names (record {
        sent = (names file).sent;
        phase = (named, each_either (WasWritten client file past) belief.write live.unsent [] n.1 tt);
      }) (close_named client machine.guid past file live.file_id n.0, tt)
      (either_true client past belief.write Settlement.Failed live.unsent no_failed);
  not_opened = λ file status access share is named. turned_named client machine past file _ names
      (record { sent = (names file).sent; phase = tt }) tt tt;
  not_reconnected = λ file status parted is named. turned_named client machine past file _ names
      (record { sent = (names file).sent; phase = tt }) tt (settled_true client past Settlement.Lost parted.writes no_lost);
  not_promoted = λ file status live asked is asks named. turned_named client machine past file _ names
      (record { sent = (names file).sent; phase = live_named client machine past file live names is }) tt tt;
  read = λ file file_id bytes live is id some named. turned_named client machine past file _ names
      (record { sent = (names file).sent; phase = live_named client machine past file live names is }) tt tt;
  read_closed = λ file file_id status live is id gone named. turned_named client machine past file _ names
      (opening_named client file past live.asking (sent_of machine file) (names file).sent) tt
      (settled_true client past Settlement.Failed live.unsent no_failed);
  not_read = λ file file_id status live is id some named. turned_named client machine past file _ names
      (record { sent = (names file).sent; phase = live_named client machine past file live names is }) tt tt;
  written = λ file file_id number at known named. turned_named client machine past file _ names (record {
    sent = each_without (WasWritten client file past) number (sent_of machine file) (names file).sent;
    phase = phase_written client file past (find (is_numbered number) (sent_of machine file))
        (machine.entries file).phase (names file).phase;
  }) tt (named, tt);
  write_closed = λ file file_id number status live at known is id gone named. turned_named client machine past file _ names
      (opening_named client file past live.asking (sent_without number (sent_of machine file))
      (each_without (WasWritten client file past) number (sent_of machine file) (names file).sent)) tt
      (tt, settled_true client past Settlement.Failed live.unsent no_failed);
  not_written = λ file file_id number status at known named. turned_named client machine past file _ names (record {
    sent = each_without (WasWritten client file past) number (sent_of machine file) (names file).sent;
    phase = (names file).phase;
  }) tt (tt, tt);
}

-- ---- connections

pub record IsTurnNamed (client : ℕ) (guid : List ℕ) (past : List Fact) (file : ℕ) (turn : Turn) : Type 0 where
  pub entry : IsNamedEntry client file past turn.entry
  pub requests : Each (IsNamedRequest client guid past) turn.requests
  pub settled : EachNote (IsTrueDone client past) turn.settled

all_named : (client : ℕ) (machine : Client) (past : List Fact) (online : Bool) (turn : ℕ → Entry → Turn)
    → ((file : ℕ) → IsTurnNamed client machine.guid past file (turn file (machine.entries file)))
    → IsStepNamed client machine past (all_turned machine online turn)
all_named client machine past online turn each =
    let notes = (all_turned machine online turn).notes in
    let later = later_noted client past notes in record {
      requests = requests_later client machine.guid past (past_noted client past notes) later _
          (all_requests (numbers_to machine.files));
      entries = λ file. entry_later client file past (past_noted client past notes) later _ (each file).entry;
      done = all_done (numbers_to machine.files);
    }
  where
    all_requests : (files : List ℕ) → Each (IsNamedRequest client machine.guid past)
        (flat_map (λ file. (turn file (machine.entries file)).requests) files)
    all_requests [] = tt
    all_requests (file ∷ files) = each_append (IsNamedRequest client machine.guid past)
        (turn file (machine.entries file)).requests _ (each file).requests (all_requests files)

    all_done : (files : List ℕ) → EachNote (IsTrueDone client past) (flat_map
        (λ file. (turn file (machine.entries file)).settled ++ believes_noted file (belief_of (machine.entries file))
        (belief_of (turn file (machine.entries file)).entry)) files)
    all_done [] = tt
    all_done (file ∷ files) = notes_append (IsTrueDone client past) _ _
        (notes_append (IsTrueDone client past) (turn file (machine.entries file)).settled _ (each file).settled
        (believed_true client past file (belief_of (machine.entries file))
        (belief_of (turn file (machine.entries file)).entry))) (all_done files)

-- what an entry is left with where the connection is lost
lost_turn : (client : ℕ) (guid : List ℕ) (past : List Fact) (file : ℕ) (phase : Phase) (unanswered : List Pending)
    → IsNamedPhase client file past phase → IsTurnNamed client guid past file
    (silent_turn (record { phase = phase; sent = [] }) (settled_as Settlement.Unknown unanswered))
lost_turn client guid past file phase unanswered n = record {
  entry = record { sent = tt; phase = n };
  requests = tt;
  settled = settled_true client past Settlement.Unknown unanswered no_unknown;
}

notices_named : (client : ℕ) (guid : List ℕ) (past : List Fact) (file : ℕ) (sent : List Pending)
    → HasNotices sent (λ phase turn. Each (WasWritten client file past) sent → IsNamedPhase client file past phase
    → IsTurnNamed client guid past file turn)
notices_named client guid past file sent = record {
  closed = λ each n. lost_turn client guid past file Phase.Closed sent tt;
  opening = λ access share each n. lost_turn client guid past file Phase.Closed sent tt;
  ended = λ live each n. lost_turn client guid past file Phase.Closed (sent ++ live.unsent) tt;
  kept = λ live writes each n. lost_turn client guid past file (Phase.Offline _) _ (
    n.0,
    each_filter (WasWritten client file past) (λ write. write.buffered) (sent ++ live.unsent)
        (each_append (WasWritten client file past) sent live.unsent each n.1),
  );
  bare = λ live none each n. lost_turn client guid past file (Phase.Offline _) _ (n.0, tt);
  offline = λ parted each n. lost_turn client guid past file (Phase.Offline parted) sent n;
  reconnecting = λ parted each n. lost_turn client guid past file (Phase.Offline parted) sent n;
}

again_named : (client : ℕ) (machine : Client) (past : List Fact) (file : ℕ) (parted : Parted)
    → was_opened parted.file_id file client past ≡ true
    → IsNamedRequest client machine.guid past (reconnect_request machine file parted)
again_named client machine past file parted opened = record {
  lease = _;
  asks = refl;
  key = refl;
  again = λ file_id e. subst (λ n. was_opened n file client past ≡ true) (one file_id e) opened;
}
  where
    one : (n : ℕ) → Some parted.file_id ≡ Some n → parted.file_id ≡ n
    one n e = cc

connect_named : (client : ℕ) (machine : Client) (past : List Fact) (file : ℕ) (sent : List Pending) (phase : Phase)
    → Each (WasWritten client file past) sent → IsNamedPhase client file past phase
    → IsTurnNamed client machine.guid past file (connect_turn machine file sent phase)
connect_named client machine past file sent (Phase.Offline parted) each n = record {
  entry = record { sent = each; phase = n };
  requests = (again_named client machine past file parted n.0, tt);
  settled = tt;
}
connect_named client machine past file sent other each n =
    record { entry = record { sent = each; phase = n }; requests = tt; settled = tt }

-- ---- any call

abbrev pub IsCallNamed : ℕ → List Fact → ClientCall → Type 0
IsCallNamed client past (ClientCall.Taken reply) = IsNamedReply client past reply
IsCallNamed client past call = ⊤

pub call_named : (client : ℕ) (machine : Client) (past : List Fact) (call : ClientCall) → HasNames client machine past
    → IsCallNamed client past call → IsStepNamed client machine past (client_called machine call)
call_named client machine past (ClientCall.Commanded command) names named =
    any_command machine (IsStepNamed client machine past) (commands_named client machine past names) command
call_named client machine past (ClientCall.Taken reply) names named =
    any_reply machine (TakesNamed client machine past) (takes_named client machine past names) reply named
call_named client machine past ClientCall.Noticed names named = all_named client machine past false
    (λ file entry. notice_turn entry.sent entry.phase)
    (λ file. any_notice (machine.entries file).sent _ (notices_named client machine.guid past file (machine.entries file).sent)
    (machine.entries file).phase (names file).sent (names file).phase)
call_named client machine past ClientCall.Connected names named = all_named client machine past true
    (λ file entry. connect_turn machine file entry.sent entry.phase)
    (λ file. connect_named client machine past file (machine.entries file).sent (machine.entries file).phase
    (names file).sent (names file).phase)
