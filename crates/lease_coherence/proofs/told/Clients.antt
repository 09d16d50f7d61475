-- A live entry that meets a break acknowledges it or closes its open, and one that stops being live closes its open.
use Rattle.lease_laws.proofs.Words.{◌&&◌, ◌++◌, ◌+◌, ◌==◌, ◌||◌, ◌∙◌, ◌∷◌, ◌≡◌, ◌≢◌, ◌⊎◌, Answer, Bool, BreakNotice, Client}
use Rattle.lease_laws.proofs.Words.{CreateAnswer, Entry, Fact, FileRequest, IsSoundClient, List, LiveEntry, None, Option}
use Rattle.lease_laws.proofs.Words.{Pending, Phase, Reply, Request, Some, State, Step, Turn, ℕ, [], ⊎_elim, ⊤, acknowledgment}
use Rattle.lease_laws.proofs.Words.{ap, arith, belief_lowered, bytes_eq, bytes_eq-Decides, create_request, eq-eqb, eqb-true}
use Rattle.lease_laws.proofs.Words.{false, flushed, inl, inr, is_asking, is_key_of, lease_key, meet, next_write, not}
use Rattle.lease_laws.proofs.Words.{parked_closed, phase_with, put, quiet_step, refl, subst, sym, true, true≢false, turned}
use Rattle.lease_laws.proofs.Words.{write_requests, wrote_step}
use Rattle.lease_laws.proofs.client.Thin.{put_other, put_same}
use Rattle.lease_laws.proofs.client.cases.Commands.{HasCommands, sent_of}
use Rattle.lease_laws.proofs.client.cases.Files.{found_so}
use Rattle.lease_laws.proofs.client.cases.Replies.{HasTakes, PassesOver, is_live}
use Rattle.lease_laws.proofs.client.cases.Turns.{by_turn, step_of}
use Rattle.lease_laws.proofs.server.Lists.{and_parts, clash, either, if_cases, not_true, or_true}
use Rattle.lease_laws.proofs.world.Links.{by_client}
use Rattle.lease_coherence.specs.Creates.{has_asked, one_if}
use Rattle.lease_coherence.specs.Names.{Each, IsNamedReply}
use Rattle.lease_coherence.proofs.beliefs.Forms.{IsAboutFile, keys_apart, writes_about}
use Rattle.lease_coherence.proofs.beliefs.OneLease.{acks, acks_append, is_ack_break, is_created}
use Rattle.lease_coherence.proofs.covered.Clients.{IsCounted, closed_status, parked_idle}
use Rattle.lease_coherence.proofs.covered.CoveredOpens.{ClosedBefore, NotFailed, closed_behind, closed_behind_writes}
use Rattle.lease_coherence.proofs.creates.Counts.{none_asked}
use Rattle.lease_coherence.proofs.fresh.Clients.{never_passed, sound_live}
use Rattle.lease_coherence.proofs.told.BreaksMet.{HasMet, IsClosing, met_more}

-- ---- commands

-- an entry stays live, or closes its open
abbrev pub StaysOrCloses : Client → Step → ℕ → Type 0
StaysOrCloses machine step file = (is_live (machine.entries file).phase ≡ true → is_live (step.client.entries file).phase ≡ true)
    ⊎ IsClosing machine step file

abbrev pub StepTold : Client → Step → Type 0
StepTold machine step = (file : ℕ) → StaysOrCloses machine step file

-- with a turn of one file, the others are as they were
put_told : (machine : Client) (at : ℕ) (entry : Entry) (step : Step) → step.client.entries ≡ put machine.entries at entry
    → ((is_live (machine.entries at).phase ≡ true → is_live entry.phase ≡ true) ⊎ IsClosing machine step at)
    → StepTold machine step
put_told machine at entry step is here file = by_client (λ f. StaysOrCloses machine step f) at file
    (⊎_elim (λ stays. inl (λ e. ap (λ (t : ℕ → Entry). is_live (t at).phase) is
    ∙ ap (λ (x : Entry). is_live x.phase) (put_same machine.entries at entry) ∙ stays e)) (λ closing. inr closing) here)
    (λ ne off. inl (λ e. ap (λ (t : ℕ → Entry). is_live (t file).phase) is
    ∙ ap (λ (x : Entry). is_live x.phase) (put_other machine.entries at entry file ne) ∙ e))

turn_stays : (machine : Client) (at : ℕ) (turn : Turn)
    → (is_live (machine.entries at).phase ≡ true → is_live turn.entry.phase ≡ true) → StepTold machine (turned machine at turn)
turn_stays machine at turn stays =
    by_turn (StepTold machine) machine at turn (put_told machine at turn.entry (step_of machine at turn) refl (inl stays))

wrote_stays : (machine : Client) (at : ℕ) (entry : Entry) (answer : Answer) (requests : List Request) (write : Pending)
    → (is_live (machine.entries at).phase ≡ true → is_live entry.phase ≡ true)
    → StepTold machine (wrote_step machine at entry answer requests write)
wrote_stays machine at entry answer requests write stays =
    put_told machine at entry (wrote_step machine at entry answer requests write) refl (inl stays)

-- the entry flushes its writes and closes its open
turn_closes : (machine : Client) (at : ℕ) (turn : Turn) (live : LiveEntry) (more : List Request)
    → (machine.entries at).phase ≡ Phase.Live live → is_asking live ≡ false
    → turn.requests ≡ write_requests live.file_id live.unsent ++ Request.OnFile (FileRequest.Close live.file_id) ∷ more
    → StepTold machine (turned machine at turn)
turn_closes machine at turn live more is idle sends =
    by_turn (StepTold machine) machine at turn (put_told machine at turn.entry (step_of machine at turn) refl (inr (record {
      live = live;
      was = is;
      idle = idle;
      closes = λ asked none. subst (λ q. ClosedBefore at live.file_id (asked ++ q)) (sym sends)
          (closed_behind at live.file_id asked _ none (closed_behind_writes at live.file_id live.unsent more));
    })))

pub commands_told : (machine : Client) → HasCommands machine (StepTold machine)
commands_told machine = record {
  refused = λ refusal file. inl (λ e. e);
  opening = λ file terms is on. turn_stays machine file _
      (λ e. clash (is_live (machine.entries file).phase) e (ap is_live is.is_so));
  added = λ file live is. turn_stays machine file _ (λ e. refl);
  asked = λ file live terms is idle some. turn_stays machine file _ (λ e. refl);
  anew = λ file live terms is idle none. turn_closes machine file _ live (create_request machine file terms ∷ []) is.is_so
      idle refl;
  fewer = λ file live is more. turn_stays machine file _ (λ e. refl);
  parked = λ file live is idle done stays. turn_stays machine file _ (λ e. refl);
  closed = λ file live is idle done goes. turn_closes machine file _ live [] is.is_so idle refl;
  cached = λ file live base is reads has f. inl (λ e. e);
  read = λ file live is idle. turn_stays machine file _ (λ e. refl);
  buffered = λ file live patch is fits caches. wrote_stays machine file _ Answer.Done [] (next_write machine patch true)
      (λ e. refl);
  written = λ file live patch is fits sends. wrote_stays machine file _ Answer.Waiting
      (Request.OnFile (FileRequest.Write live.file_id (machine.last_number + 1) patch) ∷ [])
      (next_write machine patch false) (λ e. refl);
  flushed = λ file live is. turn_stays machine file _ (λ e. refl);
}

-- ---- replies

-- a break that was to be met is acknowledged with the step, or still is to be met, or the entry closes its open
abbrev pub IsToldStill : Client → Step → List Reply → ℕ → Type 0
IsToldStill machine step queue file = (acks (lease_key machine.guid file) step.requests ≡ 0 → ⊥)
    ⊎ (HasMet (lease_key machine.guid file) file (is_live (step.client.entries file).phase) queue ⊎ IsClosing machine step file)

pub record IsMetAt (machine : Client) (reply : Reply) (queue : List Reply) (file : ℕ) (asked : List Request) : Type 0
  where
    pub counted : IsCounted machine file asked (reply ∷ queue)
    pub not_failed : (live : LiveEntry) → (machine.entries file).phase ≡ Phase.Live live → NotFailed live.file_id reply

-- a reply to a create has its contexts
abbrev IsWhole : Reply → Type 0
IsWhole (Reply.Created file file_id None) = ⊥
IsWhole reply = ⊤

pub whole_of : (c : ℕ) (past : List Fact) (reply : Reply) → IsNamedReply c past reply → IsWhole reply
whole_of c past (Reply.Created file file_id None) n = n
whole_of c past reply n = tt

abbrev pub TakeTold : Client → Reply → Step → Type 0
TakeTold machine reply step = IsWhole reply → (queue : List Reply) (file : ℕ) (asked : List Request)
    → IsMetAt machine reply queue file asked
    → HasMet (lease_key machine.guid file) file (is_live (machine.entries file).phase) (reply ∷ queue)
    → IsToldStill machine step queue file

-- a reply that is no break, by what it leaves of each file's entry
abbrev LeavesLive : Client → Reply → Step → Type 0
LeavesLive machine reply step = IsWhole reply → (queue : List Reply) (file : ℕ) (asked : List Request)
    → IsMetAt machine reply queue file asked
    → (is_live (machine.entries file).phase || is_created file reply) ≡ true → is_live (step.client.entries file).phase ≡ true

abbrev IsNoBreak : Client → Reply → Type 0
IsNoBreak machine reply = (file : ℕ) → is_live (machine.entries file).phase ≡ true
    → is_ack_break (lease_key machine.guid file) reply ≡ true → ⊥

left_told : (machine : Client) (reply : Reply) (step : Step) → IsNoBreak machine reply → LeavesLive machine reply step
    → TakeTold machine reply step
left_told machine reply step none leaves whole queue file asked m met = ⊎_elim
    (λ here. absurd (none file here.0 here.1))
    (λ later. inr (inl (met_more (lease_key machine.guid file) file
    (is_live (machine.entries file).phase || is_created file reply) (is_live (step.client.entries file).phase) queue
    (leaves whole queue file asked m) later))) met

-- a turn of one file
turn_leaves : (machine : Client) (reply : Reply) (at : ℕ) (turn : Turn) → ((file : ℕ) → file ≢ at → is_created file reply ≡ false)
    → (IsWhole reply → (queue : List Reply) (asked : List Request) → IsMetAt machine reply queue at asked
    → (is_live (machine.entries at).phase || is_created at reply) ≡ true → is_live turn.entry.phase ≡ true)
    → LeavesLive machine reply (turned machine at turn)
turn_leaves machine reply at turn others here = by_turn (LeavesLive machine reply) machine at turn
    (λ whole queue file asked m. by_client
    (λ f. IsMetAt machine reply queue f asked → (is_live (machine.entries f).phase || is_created f reply) ≡ true
    → is_live (put machine.entries at turn.entry f).phase ≡ true) at file
    (λ k e. ap (λ (x : Entry). is_live x.phase) (put_same machine.entries at turn.entry) ∙ here whole queue asked k e)
    (λ ne off k e. ap (λ (x : Entry). is_live x.phase) (put_other machine.entries at turn.entry file ne)
    ∙ was (is_live (machine.entries file).phase) (is_created file reply) (others file ne) e) m)
  where
    was : (a b : Bool) → b ≡ false → (a || b) ≡ true → a ≡ true
    was true b e f = refl
    was false b e f = clash b f e

-- a reply that creates nothing
plain_leaves : (machine : Client) (reply : Reply) (at : ℕ) (turn : Turn) → ((file : ℕ) → is_created file reply ≡ false)
    → (is_live (machine.entries at).phase ≡ true → is_live turn.entry.phase ≡ true)
    → LeavesLive machine reply (turned machine at turn)
plain_leaves machine reply at turn none stays = turn_leaves machine reply at turn (λ file ne. none file)
    (λ whole queue asked m e. stays (was (is_live (machine.entries at).phase) (is_created at reply) (none at) e))
  where
    was : (a b : Bool) → b ≡ false → (a || b) ≡ true → a ≡ true
    was true b e f = refl
    was false b e f = clash b f e

plain_told : (machine : Client) (reply : Reply) (at : ℕ) (turn : Turn) → ((file : ℕ) → is_created file reply ≡ false)
    → IsNoBreak machine reply → (is_live (machine.entries at).phase ≡ true → is_live turn.entry.phase ≡ true)
    → TakeTold machine reply (turned machine at turn)
plain_told machine reply at turn none no_break stays = left_told machine reply (turned machine at turn) no_break
    (plain_leaves machine reply at turn none stays)

-- ---- grants

granted_leaves : (machine : Client) (at file_id : ℕ) (answer : CreateAnswer) (turn : Turn)
    → is_live turn.entry.phase ≡ true → LeavesLive machine (Reply.Created at file_id (Some answer)) (turned machine at turn)
granted_leaves machine at file_id answer turn live = turn_leaves machine (Reply.Created at file_id (Some answer)) at turn
    (λ file ne. not_true (at == file) (λ e. ne (sym (eqb-true at file e)))) (λ whole queue asked m e. live)

granted_told : (machine : Client) (at file_id : ℕ) (answer : CreateAnswer) (turn : Turn)
    → is_live turn.entry.phase ≡ true → TakeTold machine (Reply.Created at file_id (Some answer)) (turned machine at turn)
granted_told machine at file_id answer turn live =
    left_told machine (Reply.Created at file_id (Some answer)) (turned machine at turn) (λ file e is. true≢false (sym is))
    (granted_leaves machine at file_id answer turn live)

-- one that changes nothing
idle_leaves : (machine : Client) (reply : Reply) → ((file : ℕ) → is_created file reply ≡ false)
    → LeavesLive machine reply (quiet_step machine)
idle_leaves machine reply none whole queue file asked m e =
    was (is_live (machine.entries file).phase) (is_created file reply) (none file) e
  where
    was : (a b : Bool) → b ≡ false → (a || b) ≡ true → a ≡ true
    was true b e f = refl
    was false b e f = clash b f e

-- one that is passed over isn't due
passed_leaves : (machine : Client) (reply : Reply) → PassesOver machine reply → LeavesLive machine reply (quiet_step machine)
passed_leaves machine (Reply.Created other id (Some answer)) why = leaves
  where
    leaves : LeavesLive machine (Reply.Created other id (Some answer)) (quiet_step machine)
    leaves whole queue file asked m e = ⊎_elim (λ live. live)
        (λ here. absurd (omega (
          arith,
          m.counted,
          ap one_if here,
          ap one_if (ap (λ f. has_asked (machine.entries f).phase) (sym (eqb-true other file here)) ∙ none_asked
              (machine.entries other).phase why),
        ))) (or_true (is_live (machine.entries file).phase) (other == file) e)
passed_leaves machine (Reply.Created other id None) why = λ whole. absurd whole
passed_leaves machine (Reply.Break notice) why = idle_leaves machine (Reply.Break notice) (λ f. refl)
passed_leaves machine reply why = idle_leaves machine _ (λ f. refl)

passed_no_break : (machine : Client) (reply : Reply) → IsSoundClient machine → PassesOver machine reply → IsNoBreak machine reply
passed_no_break machine (Reply.Break (Some notice)) s why = never
  where
    never : IsNoBreak machine (Reply.Break (Some notice))
    never file live is = live_case (machine.entries file).phase refl live
      where
        own : bytes_eq (lease_key machine.guid file) notice.key ≡ true
        own = (and_parts notice.ack_required (bytes_eq (lease_key machine.guid file) notice.key) is).1

        live_case : (phase : Phase) → (machine.entries file).phase ≡ phase → is_live (machine.entries file).phase ≡ true → ⊥
        live_case (Phase.Live entry) at e = never_passed machine notice s why file entry at own
        live_case other at e = clash (is_live (machine.entries file).phase) e (ap is_live at)
passed_no_break machine (Reply.Break None) s why = λ f e is. true≢false (sym is)
passed_no_break machine reply s why = λ f e is. true≢false (sym is)

passed_told : (machine : Client) (reply : Reply) → IsSoundClient machine → PassesOver machine reply
    → TakeTold machine reply (quiet_step machine)
passed_told machine reply s why = left_told machine reply (quiet_step machine) (passed_no_break machine reply s why)
    (passed_leaves machine reply why)

-- ---- replies that fail

-- an open that is gone: the reply would have failed it
gone_leaves : (machine : Client) (reply : Reply) (at : ℕ) (live : LiveEntry) (turn : Turn)
    → (machine.entries at).phase ≡ Phase.Live live → ((file : ℕ) → is_created file reply ≡ false)
    → (NotFailed live.file_id reply → ⊥) → LeavesLive machine reply (turned machine at turn)
gone_leaves machine reply at live turn is none failed = turn_leaves machine reply at turn (λ file ne. none file)
    (λ whole queue asked m. absurd (failed (m.not_failed live is)))

with_live : (write : Option Pending) (phase : Phase) → is_live phase ≡ true → is_live (phase_with write phase) ≡ true
with_live write (Phase.Live live) e = refl
with_live write phase e = e

-- ---- breaks

-- a break of another key
break_apart : (machine : Client) (at : ℕ) (notice : BreakNotice) → is_key_of machine notice.key at ≡ true
    → (file : ℕ) → file ≢ at → is_ack_break (lease_key machine.guid file) (Reply.Break (Some notice)) ≡ true → ⊥
break_apart machine at notice own file ne is = clash (bytes_eq (lease_key machine.guid file) (lease_key machine.guid at))
    (ap (bytes_eq (lease_key machine.guid file)) ((bytes_eq-Decides (lease_key machine.guid at) notice.key).0 own)
    ∙ (and_parts notice.ack_required (bytes_eq (lease_key machine.guid file) notice.key) is).1)
    (keys_apart machine.guid file at ne)

-- one that asks for an acknowledgment gets it
acks_sent : (key : List ℕ) (notice : BreakNotice) (state : State) (writes : List Request) → Each IsAboutFile writes
    → is_ack_break key (Reply.Break (Some notice)) ≡ true → acks key (writes ++ acknowledgment notice state) ≡ 0 → ⊥
acks_sent key notice state writes about is = if_cases (λ q. acks key (writes ++ q) ≡ 0 → ⊥) notice.ack_required
    (Request.Acknowledge (Some (record { key = notice.key; state = state })) ∷ []) []
    (λ asked e. omega (arith, sym (acks_append key writes _) ∙ e, ap (λ b. one_if b + 0) own))
    (λ plain. clash notice.ack_required (and_parts notice.ack_required (bytes_eq key notice.key) is).0 plain)
  where
    own : bytes_eq key notice.key ≡ true
    own = (and_parts notice.ack_required (bytes_eq key notice.key) is).1

abbrev lowered_by : Client → ℕ → BreakNotice → LiveEntry → Turn
lowered_by machine at notice live = belief_lowered live (sent_of machine at) notice (meet live.belief notice.lowered)

-- what a break does to another file
elsewhere_told : (machine : Client) (at : ℕ) (notice : BreakNotice) (turn : Turn) (queue : List Reply) (file : ℕ)
    → is_key_of machine notice.key at ≡ true → (file == at) ≡ false
    → HasMet (lease_key machine.guid file) file (is_live (machine.entries file).phase) (Reply.Break (Some notice) ∷ queue)
    → IsToldStill machine (step_of machine at turn) queue file
elsewhere_told machine at notice turn queue file own there met = ⊎_elim
    (λ here. absurd (break_apart machine at notice own file ne here.1))
    (λ later. inr (inl (met_more (lease_key machine.guid file) file (is_live (machine.entries file).phase || false)
    (is_live (put machine.entries at turn.entry file).phase) queue
    (λ e. ap (λ (x : Entry). is_live x.phase) (put_other machine.entries at turn.entry file ne)
    ∙ was (is_live (machine.entries file).phase) e) later))) met
  where
    ne : file ≢ at
    ne e = clash (file == at) (eq-eqb file at e) there

    was : (a : Bool) → (a || false) ≡ true → a ≡ true
    was true e = refl
    was false e = e

parked_told : (machine : Client) → IsSoundClient machine → (at : ℕ) (notice : BreakNotice) (live : LiveEntry)
    → is_key_of machine notice.key at ≡ true → (machine.entries at).phase ≡ Phase.Live live → (live.handles == 0) ≡ true
    → TakeTold machine (Reply.Break (Some notice)) (turned machine at (parked_closed live (sent_of machine at)))
parked_told machine s at notice live own is parked = by_turn (TakeTold machine (Reply.Break (Some notice))) machine at
    (parked_closed live (sent_of machine at)) (λ whole queue file asked m met. either (file == at)
    (λ here. let e = eqb-true file at here in inr (inr (subst (λ f. IsClosing machine
    (step_of machine at (parked_closed live (sent_of machine at))) f) (sym e) (record {
      live = live;
      was = is;
      idle = parked_idle live parked (sound_live machine at live s is).asking_with_handles;
      closes = λ before none. closed_behind at live.file_id before _ none (closed_behind_writes at live.file_id live.unsent []);
    }))))
    (λ there. elsewhere_told machine at notice (parked_closed live (sent_of machine at)) queue file own there met))

lowered_told : (machine : Client) (at : ℕ) (notice : BreakNotice) (live : LiveEntry) → is_key_of machine notice.key at ≡ true
    → TakeTold machine (Reply.Break (Some notice)) (turned machine at (lowered_by machine at notice live))
lowered_told machine at notice live own = by_turn (TakeTold machine (Reply.Break (Some notice))) machine at
    (lowered_by machine at notice live) (λ whole queue file asked m met. either (file == at)
    (λ here. met_here queue file met (eqb-true file at here))
    (λ there. elsewhere_told machine at notice (lowered_by machine at notice live) queue file own there met))
  where
    gone : List Pending
    gone = flushed live.belief (meet live.belief notice.lowered) live.unsent

    met_here : (queue : List Reply) (file : ℕ)
        → HasMet (lease_key machine.guid file) file (is_live (machine.entries file).phase) (Reply.Break (Some notice) ∷ queue)
        → file ≡ at → IsToldStill machine (step_of machine at (lowered_by machine at notice live)) queue file
    met_here queue file met e = ⊎_elim
        (λ now. inl (acks_sent (lease_key machine.guid file) notice (meet live.belief notice.lowered)
        (write_requests live.file_id gone) (writes_about live.file_id gone) now.1))
        (λ later. inr (inl (met_more (lease_key machine.guid file) file (is_live (machine.entries file).phase || false) _ queue
        (λ x. ap (λ f. is_live (put machine.entries at (lowered_by machine at notice live).entry f).phase) e
        ∙ ap (λ (y : Entry). is_live y.phase) (put_same machine.entries at _)) later))) met

pub takes_told : (machine : Client) → IsSoundClient machine → HasTakes machine (TakeTold machine)
takes_told machine s = record {
  passed = λ reply why. passed_told machine reply s why;
  parked_closes = λ at notice live found is parked. parked_told machine s at notice live
      (found_so machine (is_key_of machine notice.key) at found) is (and_parts (live.handles == 0) _ parked).0;
  lowered = λ at notice live found is stays. lowered_told machine at notice live
      (found_so machine (is_key_of machine notice.key) at found);
  opened = λ at file_id answer access share is. granted_told machine at file_id answer _ refl;
  reconnected = λ at file_id answer parted is. granted_told machine at file_id answer _ refl;
  promoted = λ at file_id answer live asked is asks. granted_told machine at file_id answer _ refl;
  not_opened = λ at status access share is. plain_told machine (Reply.CreateFailed at status) at _ (λ f. refl)
      (λ f e b. true≢false (sym b)) (λ e. clash (is_live (machine.entries at).phase) e (ap is_live is));
  not_reconnected = λ at status parted is. plain_told machine (Reply.CreateFailed at status) at _ (λ f. refl)
      (λ f e b. true≢false (sym b)) (λ e. clash (is_live (machine.entries at).phase) e (ap is_live is));
  not_promoted = λ at status live asked is asks. plain_told machine (Reply.CreateFailed at status) at _ (λ f. refl)
      (λ f e b. true≢false (sym b)) (λ e. refl);
  read = λ at file_id bytes live is id some. plain_told machine (Reply.ReadDone file_id bytes) at _ (λ f. refl)
      (λ f e b. true≢false (sym b)) (λ e. refl);
  read_closed = λ at file_id status live is id gone. left_told machine (Reply.ReadFailed file_id status) _
      (λ f e b. true≢false (sym b)) (gone_leaves machine (Reply.ReadFailed file_id status) at live _ is (λ f. refl)
      (λ n. n (closed_status status gone) (sym id)));
  not_read = λ at file_id status live is id some. plain_told machine (Reply.ReadFailed file_id status) at _ (λ f. refl)
      (λ f e b. true≢false (sym b)) (λ e. refl);
  written = λ at file_id number has known. plain_told machine (Reply.WriteDone file_id number) at _ (λ f. refl)
      (λ f e b. true≢false (sym b)) (with_live _ (machine.entries at).phase);
  write_closed = λ at file_id number status live has known is id gone.
      left_told machine (Reply.WriteFailed file_id number status) _ (λ f e b. true≢false (sym b))
      (gone_leaves machine (Reply.WriteFailed file_id number status) at live _ is (λ f. refl)
      (λ n. n (closed_status status gone) (sym id)));
  not_written = λ at file_id number status has known. plain_told machine (Reply.WriteFailed file_id number status) at _
      (λ f. refl) (λ f e b. true≢false (sym b)) (λ e. e);
}

-- ---- breaks that end an entry

-- a break of the key, where the entry is parked and believes in handles
pub record IsParkedBreak (machine : Client) (reply : Reply) (file : ℕ) : Type 0 where
  pub notice : BreakNotice
  pub is : reply ≡ Reply.Break (Some notice)
  pub own : bytes_eq (lease_key machine.guid file) notice.key ≡ true
  pub live : LiveEntry
  pub was : (machine.entries file).phase ≡ Phase.Live live
  pub idle : is_asking live ≡ false
  pub handles : live.belief.handle ≡ true

-- An entry that is live, or becomes so by a reply, is live after it, unless that is such a break.
abbrev pub TakeLives : Client → Reply → Step → Type 0
TakeLives machine reply step = IsWhole reply → (queue : List Reply) (file : ℕ) (asked : List Request)
    → IsMetAt machine reply queue file asked
    → ((is_live (machine.entries file).phase || is_created file reply) ≡ true → is_live (step.client.entries file).phase ≡ true)
    ⊎ IsParkedBreak machine reply file

lives : (machine : Client) (reply : Reply) (step : Step) → LeavesLive machine reply step → TakeLives machine reply step
lives machine reply step leaves whole queue file asked m = inl (leaves whole queue file asked m)

plain_lives : (machine : Client) (reply : Reply) (at : ℕ) (turn : Turn) → ((file : ℕ) → is_created file reply ≡ false)
    → (is_live (machine.entries at).phase ≡ true → is_live turn.entry.phase ≡ true)
    → TakeLives machine reply (turned machine at turn)
plain_lives machine reply at turn none stays =
    lives machine reply (turned machine at turn) (plain_leaves machine reply at turn none stays)

granted_lives : (machine : Client) (at file_id : ℕ) (answer : CreateAnswer) (turn : Turn)
    → is_live turn.entry.phase ≡ true → TakeLives machine (Reply.Created at file_id (Some answer)) (turned machine at turn)
granted_lives machine at file_id answer turn live = lives machine (Reply.Created at file_id (Some answer))
    (turned machine at turn) (granted_leaves machine at file_id answer turn live)

parked_lives : (machine : Client) → IsSoundClient machine → (at : ℕ) (notice : BreakNotice) (live : LiveEntry)
    → is_key_of machine notice.key at ≡ true → (machine.entries at).phase ≡ Phase.Live live
    → (live.handles == 0 && (live.belief.handle && not (meet live.belief notice.lowered).handle)) ≡ true
    → TakeLives machine (Reply.Break (Some notice)) (turned machine at (parked_closed live (sent_of machine at)))
parked_lives machine s at notice live own is parked = by_turn (TakeLives machine (Reply.Break (Some notice))) machine at
    (parked_closed live (sent_of machine at)) (λ whole queue file asked m. either (file == at)
    (λ here. inr (subst (IsParkedBreak machine (Reply.Break (Some notice))) (sym (eqb-true file at here)) (record {
      notice = notice;
      is = refl;
      own = own;
      live = live;
      was = is;
      idle = parked_idle live (and_parts _ _ parked).0 (sound_live machine at live s is).asking_with_handles;
      handles = (and_parts live.belief.handle _ (and_parts (live.handles == 0) _ parked).1).0;
    })))
    (λ there. inl (λ e. ap (λ (x : Entry). is_live x.phase) (put_other machine.entries at _ file
    (λ same. clash (file == at) (eq-eqb file at same) there)) ∙ was (is_live (machine.entries file).phase) e)))
  where
    was : (a : Bool) → (a || false) ≡ true → a ≡ true
    was true e = refl
    was false e = e

pub takes_live : (machine : Client) → IsSoundClient machine → HasTakes machine (TakeLives machine)
takes_live machine s = record {
  passed = λ reply why. lives machine reply (quiet_step machine) (passed_leaves machine reply why);
  parked_closes = λ at notice live found is parked. parked_lives machine s at notice live
      (found_so machine (is_key_of machine notice.key) at found) is parked;
  lowered = λ at notice live found is stays. plain_lives machine (Reply.Break (Some notice)) at _ (λ f. refl) (λ e. refl);
  opened = λ at file_id answer access share is. granted_lives machine at file_id answer _ refl;
  reconnected = λ at file_id answer parted is. granted_lives machine at file_id answer _ refl;
  promoted = λ at file_id answer live asked is asks. granted_lives machine at file_id answer _ refl;
  not_opened = λ at status access share is. plain_lives machine (Reply.CreateFailed at status) at _ (λ f. refl)
      (λ e. clash (is_live (machine.entries at).phase) e (ap is_live is));
  not_reconnected = λ at status parted is. plain_lives machine (Reply.CreateFailed at status) at _ (λ f. refl)
      (λ e. clash (is_live (machine.entries at).phase) e (ap is_live is));
  not_promoted = λ at status live asked is asks. plain_lives machine (Reply.CreateFailed at status) at _ (λ f. refl)
      (λ e. refl);
  read = λ at file_id bytes live is id some. plain_lives machine (Reply.ReadDone file_id bytes) at _ (λ f. refl)
      (λ e. refl);
  read_closed = λ at file_id status live is id gone whole queue file asked m.
      inl (gone_leaves machine (Reply.ReadFailed file_id status) at live _ is (λ f. refl)
      (λ n. n (closed_status status gone) (sym id)) whole queue file asked m);
  not_read = λ at file_id status live is id some. plain_lives machine (Reply.ReadFailed file_id status) at _ (λ f. refl)
      (λ e. refl);
  written = λ at file_id number has known. plain_lives machine (Reply.WriteDone file_id number) at _ (λ f. refl)
      (with_live _ (machine.entries at).phase);
  write_closed = λ at file_id number status live has known is id gone whole queue file asked m.
      inl (gone_leaves machine (Reply.WriteFailed file_id number status) at live _ is (λ f. refl)
      (λ n. n (closed_status status gone) (sym id)) whole queue file asked m);
  not_written = λ at file_id number status has known. plain_lives machine (Reply.WriteFailed file_id number status) at _
      (λ f. refl) (λ e. e);
}
