-- What a client's step adds to the creates under way, and what it takes.
use Rattle.lease_laws.proofs.Words.{◌++◌, ◌+◌, ◌==◌, ◌∙◌, ◌∷◌, ◌≡◌, ◌≢◌, ◌≤◌, Answer, Asked, BreakNotice, Client, Entry, Fact}
use Rattle.lease_laws.proofs.Words.{FileRequest, List, LiveEntry, None, Option, Pending, Phase, Reply, Request, Some, State}
use Rattle.lease_laws.proofs.Words.{Step, Turn, ℕ, [], acknowledgment, ap, ap₂, arith, eq-eqb, eqb-true, false, flushed}
use Rattle.lease_laws.proofs.Words.{if◌then◌else◌, is_asking, is_some, meet, next_write, phase_with, put, refl, sent_without}
use Rattle.lease_laws.proofs.Words.{subst, sym, true, turned, without_open, write_requests, wrote_step}
use Rattle.lease_laws.proofs.client.Thin.{put_other, put_same}
use Rattle.lease_laws.proofs.client.cases.Commands.{HasCommands, sent_of}
use Rattle.lease_laws.proofs.client.cases.Replies.{HasTakes, PassesOver}
use Rattle.lease_laws.proofs.client.cases.Turns.{by_turn}
use Rattle.lease_laws.proofs.server.Lists.{and_parts, either, if_cases}
use Rattle.lease_laws.proofs.world.Links.{by_client}
use Rattle.lease_coherence.specs.Creates.{answer_of, asked_by, creates, has_asked, one_if}
use Rattle.lease_coherence.specs.Names.{IsNamedReply}
use Rattle.lease_coherence.proofs.creates.Counts.{creates_append, none_asked, writes_create}

-- a step of the client: so many creates were answered to it
abbrev pub IsCountedStep : Client → (ℕ → ℕ) → Step → Type 0
IsCountedStep client answered step = (file : ℕ)
    → answered file + asked_by step.client file ≡ creates file step.requests + asked_by client file

abbrev pub none_answered : ℕ → ℕ
none_answered file = 0

-- a turn of one file
turned_counts : (client : Client) (answered : ℕ → ℕ) (file : ℕ) (turn : Turn)
    → ((other : ℕ) → other ≢ file → answered other ≡ creates other turn.requests)
    → answered file + one_if (has_asked turn.entry.phase) ≡ creates file turn.requests + asked_by client file
    → IsCountedStep client answered (turned client file turn)
turned_counts client answered file turn others here = by_turn (IsCountedStep client answered) client file turn (λ other. by_client
    (λ f. answered f + one_if (has_asked (put client.entries file turn.entry f).phase)
    ≡ creates f turn.requests + asked_by client f) file other
    (subst (λ (e : Entry). answered file + one_if (has_asked e.phase) ≡ creates file turn.requests + asked_by client file)
    (sym (put_same client.entries file turn.entry)) here)
    (λ ne apart. ap₂ (λ (n : ℕ) (e : Entry). n + one_if (has_asked e.phase)) (others other ne)
    (put_other client.entries file turn.entry other ne)))

-- one that sends no create
quiet_turn : (client : Client) (file : ℕ) (turn : Turn) → ((other : ℕ) → creates other turn.requests ≡ 0)
    → has_asked turn.entry.phase ≡ has_asked (client.entries file).phase
    → IsCountedStep client none_answered (turned client file turn)
quiet_turn client file turn none same = turned_counts client none_answered file turn
    (λ other ne. sym (none other)) (ap (λ b. 0 + one_if b) same ∙ ap (λ n. n + asked_by client file) (sym (none file)))

is_one : (file : ℕ) → one_if (file == file) ≡ 1
is_one file = ap one_if (eq-eqb file file refl)

is_none : (file other : ℕ) → other ≢ file → one_if (file == other) ≡ 0
is_none file other ne = if_cases (λ b. (file == other) ≡ b → one_if (file == other) ≡ 0) (file == other) true false
    (λ same e. absurd (ne (sym (eqb-true file other same)))) (λ apart e. ap one_if apart) refl_of
  where
    refl_of : (file == other) ≡ (if (file == other) then true else false)
    refl_of = either (file == other) (λ e. rw (e) refl) (λ e. rw (e) refl)

-- ---- commands

-- the turn of an entry that asks
asking_turn : (client : Client) (file : ℕ) (turn : Turn) → has_asked (client.entries file).phase ≡ false
    → has_asked turn.entry.phase ≡ true → ((other : ℕ) → creates other turn.requests ≡ one_if (file == other))
    → IsCountedStep client none_answered (turned client file turn)
asking_turn client file turn idle asks sends = turned_counts client none_answered file turn
    (λ other ne. sym (sends other ∙ is_none file other ne)) (ap (λ b. 0 + one_if b) asks ∙ (omega arith)
    ∙ sym (ap₂ (λ n b. n + one_if b) (sends file ∙ is_one file) idle))

phase_idle : (client : Client) (file : ℕ) (live : LiveEntry) → (client.entries file).phase ≡ Phase.Live live
    → is_asking live ≡ false → has_asked (client.entries file).phase ≡ false
phase_idle client file live is idle = ap has_asked is ∙ idle

close_none : (file file_id : ℕ) (writes : List Pending)
    → creates file (write_requests file_id writes ++ Request.OnFile (FileRequest.Close file_id) ∷ []) ≡ 0
close_none file file_id writes = creates_append file (write_requests file_id writes) _
    ∙ ap (λ n. n + (0 + 0)) (writes_create file file_id writes) ∙ (omega arith)

wrote_counts : (client : Client) (file : ℕ) (entry : Entry) (answer : Answer) (requests : List Request) (write : Pending)
    → ((other : ℕ) → creates other requests ≡ 0) → has_asked entry.phase ≡ has_asked (client.entries file).phase
    → IsCountedStep client none_answered (wrote_step client file entry answer requests write)
wrote_counts client file entry answer requests write none same other = by_client
    (λ f. 0 + one_if (has_asked (put client.entries file entry f).phase) ≡ creates f requests + asked_by client f) file other
    (subst (λ (e : Entry). 0 + one_if (has_asked e.phase) ≡ creates file requests + asked_by client file)
    (sym (put_same client.entries file entry)) (ap₂ (λ n b. n + one_if b) (sym (none file)) same))
    (λ ne apart. ap₂ (λ (n : ℕ) (e : Entry). n + one_if (has_asked e.phase)) (sym (none other))
    (put_other client.entries file entry other ne))

pub commands_count : (client : Client) → HasCommands client (IsCountedStep client none_answered)
commands_count client = record {
  refused = λ refusal file. refl;
  opening = λ file terms is on. asking_turn client file _ (ap has_asked is.is_so) refl
      (λ other. omega arith);
  added = λ file live is. quiet_turn client file _ (λ other. refl) (sym (ap has_asked is.is_so));
  asked = λ file live terms is idle some. asking_turn client file _ (phase_idle client file live is.is_so idle) refl
      (λ other. omega arith);
  anew = λ file live terms is idle none. asking_turn client file _ (phase_idle client file live is.is_so idle) refl
      (λ other. creates_append other (write_requests live.file_id live.unsent) _
      ∙ ap (λ n. n + (0 + (one_if (file == other) + 0))) (writes_create other live.file_id live.unsent) ∙ (omega arith));
  fewer = λ file live is more. quiet_turn client file _ (λ other. refl) (sym (ap has_asked is.is_so));
  parked = λ file live is idle done stays. quiet_turn client file _ (λ other. refl) (sym (ap has_asked is.is_so));
  closed = λ file live is idle done goes. quiet_turn client file _
      (λ other. close_none other live.file_id live.unsent) (sym (phase_idle client file live is.is_so idle));
  cached = λ file live base is reads has other. refl;
  read = λ file live is idle. quiet_turn client file _ (λ other. omega arith) (sym (ap has_asked is.is_so));
  buffered = λ file live patch is fits caches. wrote_counts client file _ Answer.Done [] (next_write client patch true)
      (λ other. refl) (sym (ap has_asked is.is_so));
  written = λ file live patch is fits sends. wrote_counts client file _ Answer.Waiting
      (Request.OnFile (FileRequest.Write live.file_id (client.last_number + 1) patch) ∷ [])
      (next_write client patch false) (λ other. omega arith) (sym (ap has_asked is.is_so));
  flushed = λ file live is. quiet_turn client file _ (λ other. writes_create other live.file_id live.unsent)
      (sym (ap has_asked is.is_so));
}

-- ---- replies

abbrev pub IsCountedTake : ℕ → Client → List Fact → Reply → Step → Type 0
IsCountedTake c client past reply step = IsNamedReply c past reply → ((file : ℕ) → answer_of file reply ≤ asked_by client file)
    → IsCountedStep client (λ file. answer_of file reply) step

-- a turn that answers a create
answered_turn : (client : Client) (file : ℕ) (turn : Turn) → has_asked (client.entries file).phase ≡ true
    → has_asked turn.entry.phase ≡ false → ((other : ℕ) → creates other turn.requests ≡ 0)
    → IsCountedStep client (λ other. one_if (file == other)) (turned client file turn)
answered_turn client file turn asked done none = turned_counts client (λ other. one_if (file == other)) file turn
    (λ other ne. is_none file other ne ∙ sym (none other))
    (ap₂ (λ n b. n + one_if b) (is_one file) done ∙ (omega arith) ∙ sym (ap₂ (λ n b. n + one_if b) (none file) asked))

ack_none : (other : ℕ) (notice : BreakNotice) (new : State) → creates other (acknowledgment notice new) ≡ 0
ack_none other notice new = if_cases (λ asked. creates other asked ≡ 0) notice.ack_required _ [] (λ asks. refl)
    (λ plain. refl)

-- an entry whose open is gone asks as before
open_gone : (asking : Option Asked) (sent : List Pending) → has_asked (without_open asking sent).phase ≡ is_some asking
open_gone None sent = refl
open_gone (Some asked) sent = refl

phase_with_asks : (write : Option Pending) (phase : Phase) → has_asked (phase_with write phase) ≡ has_asked phase
phase_with_asks write Phase.Closed = refl
phase_with_asks write phase = refl

-- a create's answer isn't passed over
passed_none : (client : Client) (file : ℕ) → has_asked (client.entries file).phase ≡ false
    → ((other : ℕ) → one_if (file == other) ≤ asked_by client other) → ⊥
passed_none client file idle low = above (subst (λ n. n ≤ asked_by client file) (is_one file) (low file)) (ap one_if idle)
  where
    above : {n : ℕ} → 1 ≤ n → n ≡ 0 → ⊥
    above {n} h e = omega (arith, h, e)

passed_counts : (c : ℕ) (client : Client) (past : List Fact) (reply : Reply) → PassesOver client reply → IsNamedReply c past reply
    → ((file : ℕ) → answer_of file reply ≤ asked_by client file) → (file : ℕ)
    → answer_of file reply + asked_by client file ≡ creates file [] + asked_by client file
passed_counts c client past (Reply.Created at file_id None) why named low file = absurd named
passed_counts c client past (Reply.Created at file_id (Some answer)) why named low file =
    absurd (passed_none client at (none_asked (client.entries at).phase why) low)
passed_counts c client past (Reply.CreateFailed at status) why named low file = absurd
    (passed_none client at (none_asked (client.entries at).phase why) low)
passed_counts c client past (_) why named low file = refl

pub takes_count : (c : ℕ) (client : Client) (past : List Fact)
    → ((file : ℕ) (live : LiveEntry) → (client.entries file).phase ≡ Phase.Live live → (live.handles == 0) ≡ true
    → is_asking live ≡ false) → HasTakes client (IsCountedTake c client past)
takes_count c client past parked = record {
  passed = λ reply why named low file. passed_counts c client past reply why named low file;
  parked_closes = λ file notice live at is closes named low. quiet_turn client file _
      (λ other. close_none other live.file_id live.unsent)
      (sym (phase_idle client file live is (parked file live is (and_parts (live.handles == 0) _ closes).0)));
  lowered = λ file notice live at is stays named low.
      let gone = flushed live.belief (meet live.belief notice.lowered) live.unsent in
      quiet_turn client file _
      (λ other. creates_append other (write_requests live.file_id gone) _
      ∙ ap₂ (λ a b. a + b) (writes_create other live.file_id gone) (ack_none other notice _) ∙ (omega arith))
      (sym (ap has_asked is));
  opened = λ file file_id answer access share is named low. answered_turn client file _ (ap has_asked is) refl
      (λ other. refl);
  reconnected = λ file file_id answer parted is named low. answered_turn client file _ (ap has_asked is) refl
      (λ other. refl);
  promoted = λ file file_id answer live asked is asks named low. answered_turn client file _
      (ap has_asked is ∙ ap is_some asks) refl (λ other. omega arith);
  not_opened = λ file status access share is named low. answered_turn client file _ (ap has_asked is) refl (λ other. refl);
  not_reconnected = λ file status parted is named low. answered_turn client file _ (ap has_asked is) refl (λ other. refl);
  not_promoted = λ file status live asked is asks named low. answered_turn client file _
      (ap has_asked is ∙ ap is_some asks) refl (λ other. refl);
  read = λ file file_id bytes live is id some named low. quiet_turn client file _ (λ other. refl) (sym (ap has_asked is));
  read_closed = λ file file_id status live is id gone named low. quiet_turn client file _ (λ other. refl)
      (open_gone live.asking (sent_of client file) ∙ sym (ap has_asked is));
  not_read = λ file file_id status live is id some named low. quiet_turn client file _ (λ other. refl) (sym (ap has_asked is));
  written = λ file file_id number at known named low. quiet_turn client file _ (λ other. refl)
      (phase_with_asks _ (client.entries file).phase);
  write_closed = λ file file_id number status live at known is id gone named low. quiet_turn client file _ (λ other. refl)
      (open_gone live.asking (sent_without number (sent_of client file)) ∙ sym (ap has_asked is));
  not_written = λ file file_id number status at known named low. quiet_turn client file _ (λ other. refl) refl;
}
