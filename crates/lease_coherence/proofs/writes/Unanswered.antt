-- The record has the unanswered writes of each client, in the order in which its entries have them.
use Rattle.lease_laws.proofs.Words.{◌&&◌, ◌++◌, ◌==◌, ◌||◌, ◌∙◌, ◌∷◌, ◌≡◌, ◌≢◌, Among, Answer, Asked, Bool, Client, ClientCall}
use Rattle.lease_laws.proofs.Words.{Entry, Fact, IsSoundClient, IsSoundLive, IsSoundPhase, Link, List, LiveEntry, None, Note}
use Rattle.lease_laws.proofs.Words.{Option, Out, Pending, Phase, Settlement, Some, Step, Turn, World, ℕ, [], ⊎_elim, all_turned}
use Rattle.lease_laws.proofs.Words.{ap, ap₂, are_rising, arith, begun, belief_of, client_called, connect_turn, eq-eqb, eqb-true}
use Rattle.lease_laws.proofs.Words.{fact_of, false, filter, first_belief, flat_map, gives_up, has_number, if◌then◌else◌}
use Rattle.lease_laws.proofs.Words.{knows_file, lease_key, meet, next_write, not, notice_turn, numbers_to, offline_turn}
use Rattle.lease_laws.proofs.Words.{open_writes, parted_from, phase_with, promoted_belief, put, refl, sent_without, settled_as}
use Rattle.lease_laws.proofs.Words.{step_taken, stepped_in, subst, sym, true, true≢false, unanswered_in, unsent_in, without}
use Rattle.lease_laws.proofs.Words.{without_open, wrote_step}
use Rattle.lease_laws.proofs.client.Forms.{commanded-stays, taken-stays}
use Rattle.lease_laws.proofs.client.Thin.{put_other, put_same}
use Rattle.lease_laws.proofs.client.Words.{sound_as}
use Rattle.lease_laws.proofs.client.cases.Commands.{HasCommands, any_command, sent_of}
use Rattle.lease_laws.proofs.client.cases.Files.{among_numbers}
use Rattle.lease_laws.proofs.client.cases.Links.{HasNotices, any_notice}
use Rattle.lease_laws.proofs.client.cases.Replies.{HasTakes, any_reply}
use Rattle.lease_laws.proofs.server.Lists.{clash, either, if_cases, not_true, or_true, true_or}
use Rattle.lease_laws.proofs.world.FileIds.{told}
use Rattle.lease_laws.proofs.world.Links.{by_client}
use Rattle.lease_laws.proofs.world.Runs.{stepped_clients}
use Rattle.lease_laws.proofs.world.cases.Events.{IsTold}
use Rattle.lease_coherence.proofs.moves.Events.{Ground, IsMoved, Move, come_back, reply_gone}
use Rattle.lease_coherence.proofs.moves.Frames.{stepped_past}
use Rattle.lease_coherence.proofs.moves.Ground.{moved_clients, moved_past}
use Rattle.lease_coherence.proofs.moves.Shift.{append_none}
use Rattle.lease_coherence.proofs.records.Later.{past_noted}
use Rattle.lease_coherence.proofs.wellformed.Notes.{EachNote, IsSettling, notes_append, settles}
use Rattle.lease_coherence.proofs.writes.Noted.{IsPlainNote, LeavesWrites, TellsWrites, TurnLeaves, believed_none, front_leaves}
use Rattle.lease_coherence.proofs.writes.Noted.{noted_left, quiet_leaves, same_leaves, settling_none, turn_notes, turn_settles}
use Rattle.lease_coherence.proofs.writes.Noted.{turned_leaves, turned_tells}
use Rattle.lease_coherence.proofs.writes.Settled.{filter_alike, left_buffered, left_of, left_one, left_one_front, number_append}
use Rattle.lease_coherence.proofs.writes.Settled.{number_there, or_later, same_bool, settles_append, settles_in, settles_these}

-- ---- commands

append_last : {X : Type 0} (xs ys : List X) (z : X) → (xs ++ ys) ++ z ∷ [] ≡ xs ++ (ys ++ z ∷ [])
append_last [] ys z = refl
append_last (x ∷ xs) ys z = ap (λ l. x ∷ l) (append_last xs ys z)

live_unanswered : (client : Client) (file : ℕ) (live : LiveEntry) → (client.entries file).phase ≡ Phase.Live live
    → unanswered_in (client.entries file) ≡ sent_of client file ++ live.unsent
live_unanswered client file live is = ap (λ p. sent_of client file ++ unsent_in p) is

phase_unanswered : (client : Client) (file : ℕ) (phase : Phase) → (client.entries file).phase ≡ phase
    → unanswered_in (client.entries file) ≡ sent_of client file ++ unsent_in phase
phase_unanswered client file phase is = ap (λ p. sent_of client file ++ unsent_in p) is

wrote_tells : (client : Client) (at : ℕ) (entry : Entry) (answer : Answer) (requests : _) (write : Pending)
    → unanswered_in entry ≡ unanswered_in (client.entries at) ++ write ∷ []
    → TellsWrites client (wrote_step client at entry answer requests write)
wrote_tells client at entry answer requests write more = TellsWrites.Adds at write.number write.patch write.buffered refl
    (λ file. by_client (λ f. unanswered_in (put client.entries at entry f) ≡ (if at == f
    then unanswered_in (client.entries f) ++ write ∷ [] else unanswered_in (client.entries f))) at file
    (rw (eq-eqb at at refl) (ap (λ (e : Entry). unanswered_in e) (put_same client.entries at entry) ∙ more))
    (λ ne apart. rw (apart) (ap (λ (e : Entry). unanswered_in e) (put_other client.entries at entry file ne))))

sound_live : (client : Client) (file : ℕ) (live : LiveEntry) → IsSoundClient client
    → (client.entries file).phase ≡ Phase.Live live → IsSoundLive live
sound_live client file live s is = (subst (IsSoundPhase client.is_online (client.entries file).sent) is (s.entries file)).1

commands_tell : (client : Client) → IsSoundClient client → HasCommands client (TellsWrites client)
commands_tell client s = record {
  refused = λ refusal. TellsWrites.Leaves (same_leaves client (Answer.Refused refusal));
  opening = λ file terms is on. turned_tells client file _ s (quiet_leaves (client.entries file) _ refl
      (phase_unanswered client file Phase.Closed is.is_so));
  added = λ file live is. turned_tells client file _ s (quiet_leaves (client.entries file) _ refl
      (live_unanswered client file live is.is_so));
  asked = λ file live terms is idle some. turned_tells client file _ s (quiet_leaves (client.entries file) _ refl
      (live_unanswered client file live is.is_so));
  anew = λ file live terms is idle none. turned_tells client file _ s (quiet_leaves (client.entries file) _ refl
      (live_unanswered client file live is.is_so ∙ sym (append_none (sent_of client file ++ live.unsent))));
  fewer = λ file live is more. turned_tells client file _ s (quiet_leaves (client.entries file) _ refl
      (live_unanswered client file live is.is_so));
  parked = λ file live is idle done stays. turned_tells client file _ s (quiet_leaves (client.entries file) _ refl
      (live_unanswered client file live is.is_so));
  closed = λ file live is idle done goes. turned_tells client file _ s (quiet_leaves (client.entries file) _ refl
      (live_unanswered client file live is.is_so ∙ sym (append_none (sent_of client file ++ live.unsent))));
  cached = λ file live base is reads has. TellsWrites.Reads file live base is has reads refl refl;
  read = λ file live is idle. turned_tells client file _ s (quiet_leaves (client.entries file) _ refl
      (live_unanswered client file live is.is_so));
  buffered = λ file live patch is fits caches. wrote_tells client file _ Answer.Done [] (next_write client patch true)
      (sym (append_last (sent_of client file) live.unsent (next_write client patch true))
      ∙ ap (λ l. l ++ next_write client patch true ∷ []) (sym (live_unanswered client file live is.is_so)));
  written = λ file live patch is fits sends. wrote_tells client file _ Answer.Waiting _ (next_write client patch false)
      (let none = (sound_live client file live s is.is_so).unsent_under_writes sends in
      ap (λ l. (sent_of client file ++ next_write client patch false ∷ []) ++ l) none
      ∙ append_none (sent_of client file ++ next_write client patch false ∷ [])
      ∙ ap (λ l. l ++ next_write client patch false ∷ []) (sym (live_unanswered client file live is.is_so
      ∙ ap (λ l. sent_of client file ++ l) none ∙ append_none (sent_of client file))));
  flushed = λ file live is. turned_tells client file _ s (quiet_leaves (client.entries file) _ refl
      (live_unanswered client file live is.is_so ∙ sym (append_none (sent_of client file ++ live.unsent))));
}

-- ---- replies

rises_in : (client : Client) (file : ℕ) → IsSoundClient client
    → are_rising 0 client.last_number (unanswered_in (client.entries file)) ≡ true
rises_in client file s = s.numbers.rising file

-- writes that are kept, or settled in one way
again_leaves : (client : Client) (file : ℕ) (turn : Turn) (outcome : Settlement) (phase : Phase) (keeps : Bool)
    → IsSoundClient client → (client.entries file).phase ≡ phase
    → turn.settled ≡ (if keeps then [] else settled_as outcome (unsent_in phase))
    → unanswered_in turn.entry ≡ sent_of client file ++ (if keeps then unsent_in phase else [])
    → TurnLeaves (client.entries file) turn
again_leaves client file turn outcome phase true s is settled same =
    quiet_leaves (client.entries file) turn settled (phase_unanswered client file phase is ∙ sym same)
again_leaves client file turn outcome phase false s is settled same = front_leaves client.last_number
    (client.entries file) turn outcome (sent_of client file) (unsent_in phase) (rises_in client file s)
    (phase_unanswered client file phase is) settled (same ∙ append_none (sent_of client file))

gone_unanswered : (asking : Option Asked) (sent : List Pending) → unanswered_in (without_open asking sent) ≡ sent
gone_unanswered None sent = append_none sent
gone_unanswered (Some asked) sent = append_none sent

-- a lowered belief sends the unsent writes or leaves them
lowered_same : (gives : Bool) (sent unsent : List Pending)
    → sent ++ unsent ≡ (sent ++ (if gives then unsent else [])) ++ (if gives then [] else unsent)
lowered_same true sent unsent = sym (append_none (sent ++ unsent))
lowered_same false sent unsent = ap (λ l. l ++ unsent) (sym (append_none sent))

-- one that was sent is settled
one_leaves : (client : Client) (file number : ℕ) (turn : Turn) (outcome : Settlement) (phase : Phase)
    → IsSoundClient client → (client.entries file).phase ≡ phase → has_number number (sent_of client file) ≡ true
    → turn.settled ≡ Note.Settled number outcome ∷ []
    → unanswered_in turn.entry ≡ sent_without number (sent_of client file) ++ unsent_in phase
    → TurnLeaves (client.entries file) turn
one_leaves client file number turn outcome phase s is has settled same =
    let are = phase_unanswered client file phase is in record {
      each = subst (EachNote IsSettling) (sym settled) (tt, tt);
      left = ap₂ (λ l ws. left_of l ws) settled are
          ∙ left_one outcome number client.last_number (sent_of client file) (unsent_in phase)
          (ap (are_rising 0 client.last_number) (sym are) ∙ rises_in client file s) has ∙ sym same;
      own = λ n e. ap (has_number n) are ∙ number_append n (sent_of client file) (unsent_in phase)
          ∙ true_or (has_number n (sent_of client file)) (has_number n (unsent_in phase))
          (ap (λ x. has_number x (sent_of client file))
          (eqb-true n number (first (n == number) (sym (ap (λ l. settles_in l n) settled) ∙ e))) ∙ has);
    }
  where
    first : (a : Bool) → (a || false) ≡ true → a ≡ true
    first true e = refl
    first false e = e

front_one_leaves : (client : Client) (file number : ℕ) (turn : Turn) (outcome : Settlement) (live : LiveEntry)
    → IsSoundClient client → (client.entries file).phase ≡ Phase.Live live → has_number number (sent_of client file) ≡ true
    → turn.settled ≡ Note.Settled number outcome ∷ settled_as outcome live.unsent
    → unanswered_in turn.entry ≡ sent_without number (sent_of client file) → TurnLeaves (client.entries file) turn
front_one_leaves client file number turn outcome live s is has settled same =
    let are = live_unanswered client file live is in record {
      each = subst (EachNote IsSettling) (sym settled) (tt, settles outcome live.unsent);
      left = ap₂ (λ l ws. left_of l ws) settled are
          ∙ left_one_front outcome number client.last_number (sent_of client file) live.unsent
          (ap (are_rising 0 client.last_number) (sym are) ∙ rises_in client file s) has ∙ sym same;
      own = λ n e. ap (has_number n) are ∙ number_append n (sent_of client file) live.unsent ∙ ⊎_elim
          (λ now. true_or (has_number n (sent_of client file)) (has_number n live.unsent)
          (ap (λ x. has_number x (sent_of client file)) (eqb-true n number now) ∙ has))
          (λ rest. or_later (has_number n (sent_of client file)) (has_number n live.unsent)
          (sym (settles_these outcome live.unsent n) ∙ rest))
          (or_true (n == number) (settles_in (settled_as outcome live.unsent) n) (sym (ap (λ l. settles_in l n) settled) ∙ e));
    }

with_unsent : (write : Option Pending) (phase : Phase) → unsent_in (phase_with write phase) ≡ unsent_in phase
with_unsent write Phase.Closed = refl
with_unsent write phase = refl

takes_tell : (client : Client) → IsSoundClient client → HasTakes client (λ reply step. LeavesWrites client step)
takes_tell client s = record {
  passed = λ reply why. same_leaves client Answer.Quiet;
  parked_closes = λ file notice live at is parked. turned_leaves client file _ s (quiet_leaves (client.entries file) _ refl
      (live_unanswered client file live is ∙ sym (append_none (sent_of client file ++ live.unsent))));
  lowered = λ file notice live at is stays. turned_leaves client file _ s (quiet_leaves (client.entries file) _ refl
      (live_unanswered client file live is
      ∙ lowered_same (gives_up live.belief (meet live.belief notice.lowered)) (sent_of client file) live.unsent));
  opened = λ file file_id answer access share is. turned_leaves client file _ s (quiet_leaves (client.entries file) _ refl
      (phase_unanswered client file (Phase.Opening access share) is));
  reconnected = λ file file_id answer parted is. turned_leaves client file _ s
      (again_leaves client file _ Settlement.Lost (Phase.Reconnecting parted) (first_belief client file answer).write s is
      refl refl);
  promoted = λ file file_id answer live asked is asks. turned_leaves client file _ s
      (again_leaves client file _ Settlement.Failed (Phase.Live live)
      (promoted_belief (lease_key client.guid file) live.belief answer.lease).write s is refl refl);
  not_opened = λ file status access share is. turned_leaves client file _ s (quiet_leaves (client.entries file) _ refl
      (phase_unanswered client file (Phase.Opening access share) is));
  not_reconnected = λ file status parted is. turned_leaves client file _ s
      (front_leaves client.last_number (client.entries file) _ Settlement.Lost (sent_of client file) parted.writes
      (rises_in client file s) (phase_unanswered client file (Phase.Reconnecting parted) is) refl
      (append_none (sent_of client file)));
  not_promoted = λ file status live asked is asks. turned_leaves client file _ s
      (quiet_leaves (client.entries file) _ refl (live_unanswered client file live is));
  read = λ file file_id bytes live is id some. turned_leaves client file _ s
      (quiet_leaves (client.entries file) _ refl (live_unanswered client file live is));
  read_closed = λ file file_id status live is id gone. turned_leaves client file _ s
      (front_leaves client.last_number (client.entries file) _ Settlement.Failed (sent_of client file) live.unsent
      (rises_in client file s) (live_unanswered client file live is) refl (gone_unanswered live.asking (sent_of client file)));
  not_read = λ file file_id status live is id some. turned_leaves client file _ s
      (quiet_leaves (client.entries file) _ refl (live_unanswered client file live is));
  written = λ file file_id number at known. turned_leaves client file _ s
      (one_leaves client file number _ Settlement.Done (client.entries file).phase s refl at refl
      (ap (λ l. sent_without number (sent_of client file) ++ l) (with_unsent _ (client.entries file).phase)));
  write_closed = λ file file_id number status live at known is id gone. turned_leaves client file _ s
      (front_one_leaves client file number _ Settlement.Failed live s is at refl
      (gone_unanswered live.asking (sent_without number (sent_of client file))));
  not_written = λ file file_id number status at known. turned_leaves client file _ s
      (one_leaves client file number _ Settlement.Failed (client.entries file).phase s refl at refl refl);
}

-- ---- notices and connects

parted_leaves : (client : Client) (file : ℕ) (phase : Phase) (keep : List Pending) → IsSoundClient client
    → (client.entries file).phase ≡ phase → unsent_in phase ≡ keep → sent_of client file ≡ [] → (turn : Turn)
    → turn.settled ≡ settled_as Settlement.Unknown (sent_of client file) → unanswered_in turn.entry ≡ keep
    → TurnLeaves (client.entries file) turn
parted_leaves client file phase keep s is are none turn settled same =
    quiet_leaves (client.entries file) turn (settled ∙ ap (settled_as Settlement.Unknown) none)
    (phase_unanswered client file phase is ∙ ap₂ (λ a b. a ++ b) none are ∙ sym same)

all_leaves : (client : Client) (file : ℕ) (phase : Phase) (turn : Turn) → IsSoundClient client
    → (client.entries file).phase ≡ phase → turn.settled ≡ settled_as Settlement.Unknown (sent_of client file ++ unsent_in phase)
    → unanswered_in turn.entry ≡ [] → TurnLeaves (client.entries file) turn
all_leaves client file phase turn s is settled none = front_leaves client.last_number (client.entries file) turn
    Settlement.Unknown [] (sent_of client file ++ unsent_in phase) (rises_in client file s)
    (phase_unanswered client file phase is) settled none

-- a durable entry keeps its buffered writes under W
kept_leaves : (client : Client) (file : ℕ) (live : LiveEntry) → IsSoundClient client
    → (client.entries file).phase ≡ Phase.Live live → TurnLeaves (client.entries file)
    (offline_turn (parted_from live (filter (λ w. w.buffered) (sent_of client file ++ live.unsent)))
    (without (λ w. w.buffered) (sent_of client file ++ live.unsent)))
kept_leaves client file live s is = record {
  each = settles Settlement.Unknown (without (λ w. w.buffered) (sent_of client file ++ live.unsent));
  left = ap (λ ws. left_of (settled_as Settlement.Unknown
      (without (λ w. w.buffered) (sent_of client file ++ live.unsent))) ws) (live_unanswered client file live is)
      ∙ left_buffered Settlement.Unknown client.last_number (sent_of client file ++ live.unsent)
      (ap (are_rising 0 client.last_number) (sym (live_unanswered client file live is)) ∙ rises_in client file s);
  own = λ n e. ap (has_number n) (live_unanswered client file live is) ∙ within n (sent_of client file ++ live.unsent)
      (sym (settles_these Settlement.Unknown (without (λ w. w.buffered) (sent_of client file ++ live.unsent)) n) ∙ e);
}
  where
    within : (n : ℕ) (ws : List Pending) → has_number n (without (λ w. w.buffered) ws) ≡ true → has_number n ws ≡ true
    within n [] e = e
    within n (w ∷ ws) e = if_cases (λ l. has_number n l ≡ true → (w.number == n || has_number n ws) ≡ true)
        (not w.buffered) (w ∷ without (λ y. y.buffered) ws) (without (λ y. y.buffered) ws)
        (λ kept h. ⊎_elim (λ here. true_or (w.number == n) (has_number n ws) here)
        (λ later. or_later (w.number == n) (has_number n ws) (within n ws later))
        (or_true (w.number == n) (has_number n (without (λ y. y.buffered) ws)) h))
        (λ gone h. or_later (w.number == n) (has_number n ws) (within n ws h)) e

notices_leave : (client : Client) (file : ℕ) → IsSoundClient client → HasNotices (sent_of client file)
    (λ phase turn. (client.entries file).phase ≡ phase → TurnLeaves (client.entries file) turn)
notices_leave client file s = record {
  closed = λ is. all_leaves client file Phase.Closed _ s is none_unsent refl;
  opening = λ access share is. all_leaves client file (Phase.Opening access share) _ s is none_unsent refl;
  ended = λ live is. all_leaves client file (Phase.Live live) _ s is refl refl;
  kept = λ live writes is. kept_leaves client file live s is;
  bare = λ live none is. all_leaves client file (Phase.Live live) _ s is refl refl;
  offline = λ parted is. parted_leaves client file (Phase.Offline parted) parted.writes s is refl
      (sound_as client s.entries file (Phase.Offline parted) is).1 _ refl refl;
  reconnecting = λ parted is. parted_leaves client file (Phase.Reconnecting parted) parted.writes s is refl
      (sound_as client s.entries file (Phase.Reconnecting parted) is).1 _ refl refl;
}
  where
    none_unsent : settled_as Settlement.Unknown (sent_of client file) ≡ settled_as Settlement.Unknown (sent_of client file ++ [])
    none_unsent = ap (settled_as Settlement.Unknown) (sym (append_none (sent_of client file)))

connect_leaves : (client : Client) (file : ℕ) (phase : Phase) → (client.entries file).phase ≡ phase
    → TurnLeaves (client.entries file) (connect_turn client file (sent_of client file) phase)
connect_leaves client file Phase.Closed is =
    quiet_leaves (client.entries file) _ refl (phase_unanswered client file Phase.Closed is)
connect_leaves client file phase is = quiet_leaves (client.entries file) _ refl (phase_unanswered client file phase is)

-- every entry has a turn
flat_none : (notes : ℕ → List Note) (files : List ℕ) → ((file : ℕ) → EachNote IsPlainNote (notes file))
    → EachNote IsPlainNote (flat_map notes files)
flat_none notes [] each = tt
flat_none notes (file ∷ files) each =
    notes_append IsPlainNote (notes file) (flat_map notes files) (each file) (flat_none notes files each)

none_settled : (number : ℕ) → settles_in [] number ≡ true → ⊥
none_settled number e = true≢false (sym e)

flat_settles : (notes : ℕ → List Note) (file number : ℕ) (files : List ℕ)
    → ((other : ℕ) → other ≢ file → settles_in (notes other) number ≡ false) → Among file files
    → settles_in (flat_map notes files) number ≡ settles_in (notes file) number
flat_settles notes file number files others there = same_bool (settles_in (flat_map notes files) number)
    (settles_in (notes file) number) (from files) (λ e. into files there e)
  where
    from : (list : List ℕ) → settles_in (flat_map notes list) number ≡ true → settles_in (notes file) number ≡ true
    from [] e = absurd (none_settled number e)
    from (f ∷ list) e = ⊎_elim
        (λ now. either (f == file) (λ same. ap (λ n. settles_in (notes n) number) (sym (eqb-true f file same)) ∙ now)
        (λ apart. clash (settles_in (notes f) number) now (others f (λ x. clash (f == file) (eq-eqb f file x) apart))))
        (λ later. from list later) (or_true (settles_in (notes f) number) (settles_in (flat_map notes list) number)
        (sym (settles_append (notes f) (flat_map notes list) number) ∙ e))

    into : (list : List ℕ) → Among file list → settles_in (notes file) number ≡ true
        → settles_in (flat_map notes list) number ≡ true
    into [] a e = absurd a
    into (f ∷ list) a e = settles_append (notes f) (flat_map notes list) number ∙ ⊎_elim
        (λ same. true_or (settles_in (notes f) number) (settles_in (flat_map notes list) number)
        (ap (λ n. settles_in (notes n) number) (sym same) ∙ e))
        (λ later. or_later (settles_in (notes f) number) (settles_in (flat_map notes list) number) (into list later e)) a

all_tell : (client : Client) (online : Bool) (turn : ℕ → Entry → Turn) → IsSoundClient client
    → ((file : ℕ) → TurnLeaves (client.entries file) (turn file (client.entries file)))
    → LeavesWrites client (all_turned client online turn)
all_tell client online turn s each =
    let notes : ℕ → List Note = λ f. turn_notes f (client.entries f) (turn f (client.entries f)) in
    record {
      none = (flat_none notes (numbers_to client.files)
          (λ f. notes_append IsPlainNote (turn f (client.entries f)).settled _
          (settling_none (turn f (client.entries f)).settled (each f).each)
          (believed_none f (belief_of (client.entries f)) (belief_of (turn f (client.entries f)).entry))));
      left = (λ file known. filter_alike (λ w. not (settles_in (flat_map notes (numbers_to client.files)) w.number))
          (λ w. not (settles_in (turn file (client.entries file)).settled w.number)) (unanswered_in (client.entries file))
          (λ w a. ap not (flat_settles notes file w.number (numbers_to client.files)
          (λ other ne. not_true (settles_in (notes other) w.number) (λ settled.
          clash (has_number w.number (unanswered_in (client.entries file)))
          (number_there w (unanswered_in (client.entries file)) a)
          (s.numbers.apart other file w.number ne ((each other).own w.number
          (sym (turn_settles other (client.entries other) (turn other (client.entries other)) w.number) ∙ settled)))))
          (among_numbers client.files file known)
          ∙ turn_settles file (client.entries file) (turn file (client.entries file)) w.number)) ∙ (each file).left);
    }

-- ---- calls

abbrev pub CallTells : Client → ClientCall → Step → Type 0
CallTells client (ClientCall.Commanded command) step = TellsWrites client step
CallTells client call step = LeavesWrites client step

pub call_tells_writes : (client : Client) (call : ClientCall) → IsSoundClient client
    → CallTells client call (client_called client call)
call_tells_writes client (ClientCall.Commanded command) s =
    any_command client (TellsWrites client) (commands_tell client s) command
call_tells_writes client (ClientCall.Taken reply) s =
    any_reply client (λ r step. LeavesWrites client step) (takes_tell client s) reply
call_tells_writes client ClientCall.Noticed s = all_tell client false (λ file entry. notice_turn entry.sent entry.phase) s
    (λ file. any_notice (sent_of client file) _ (notices_leave client file s) (client.entries file).phase refl)
call_tells_writes client ClientCall.Connected s = all_tell client true
    (λ file entry. connect_turn client file entry.sent entry.phase) s
    (λ file. connect_leaves client file (client.entries file).phase refl)

tells_so : (client : Client) (call : ClientCall) (step : Step) → CallTells client call step → TellsWrites client step
tells_so client (ClientCall.Commanded command) step t = t
tells_so client call step t = TellsWrites.Leaves t

-- ---- all moves

abbrev pub HasWrites : World → Type 0
HasWrites world = (c file : ℕ) → knows_file (world.clients c) file ≡ true
    → open_writes c file world.past ≡ unanswered_in ((world.clients c).entries file)

told_writes : (c file : ℕ) (past : List Fact) (outs : List Out) → open_writes c file (told past outs) ≡ open_writes c file past
unfolding open_writes
told_writes c file past [] = refl
told_writes c file past (Out.Sent client reply ∷ outs) = told_writes c file (Fact.Sent client ∷ past) outs
told_writes c file past (Out.Opened at client ∷ outs) = told_writes c file (Fact.Opened at client ∷ past) outs
told_writes c file past (Out.Changed at client number patch ∷ outs) =
    told_writes c file (Fact.Changed at client number patch ∷ past) outs

others_writes : (client c file : ℕ) (past : List Fact) (notes : List Note) → (client == c) ≡ false
    → open_writes c file (past_noted client past notes) ≡ open_writes c file past
unfolding open_writes
others_writes client c file past [] apart = refl
others_writes client c file past (Note.Believes f state ∷ notes) apart =
    others_writes client c file (fact_of client (Note.Believes f state) ∷ past) notes apart
others_writes client c file past (Note.CachedRead f bytes ∷ notes) apart =
    others_writes client c file (fact_of client (Note.CachedRead f bytes) ∷ past) notes apart
others_writes client c file past (note ∷ notes) apart =
    others_writes client c file (fact_of client note ∷ past) notes apart ∙ rw (apart) refl

own_writes : (c : ℕ) (client : Client) (step : Step) (past : List Fact) → TellsWrites client step → (file : ℕ)
    → knows_file client file ≡ true → open_writes c file past ≡ unanswered_in (client.entries file)
    → open_writes c file (past_noted c past step.notes) ≡ unanswered_in (step.client.entries file)
unfolding open_writes
own_writes c client step past (TellsWrites.Leaves l) file known is =
    noted_left c file past step.notes l.none ∙ ap (λ ws. left_of step.notes ws) is ∙ l.left file known
own_writes c client step past (TellsWrites.Adds at number patch buffered notes more) file known is =
    ap (λ l. open_writes c file (past_noted c past l)) notes ∙ mine (at == file) ∙ sym (more file)
  where
    mine : (b : Bool) → (if c == c && b then open_writes c file past
        ++ record { number = number; patch = patch; buffered = buffered } ∷ [] else open_writes c file past)
        ≡ (if b then unanswered_in (client.entries file)
        ++ record { number = number; patch = patch; buffered = buffered } ∷ [] else unanswered_in (client.entries file))
    mine true = rw (eq-eqb c c refl) (ap (λ ws. ws ++ record { number = number; patch = patch; buffered = buffered } ∷ []) is)
    mine false = rw (eq-eqb c c refl) is
own_writes c client step past (TellsWrites.Reads at live base at_it has reads same notes) file known is =
    ap (λ l. open_writes c file (past_noted c past l)) notes ∙ is ∙ ap (λ (m : Client). unanswered_in (m.entries file)) (sym same)

stepped_writes : (world : World) (c : ℕ) (call : ClientCall) → IsSoundClient (world.clients c)
    → (client_called (world.clients c) call).client.files ≡ (world.clients c).files → HasWrites world
    → HasWrites (stepped_in world c (client_called (world.clients c) call))
stepped_writes world c call s files h d file known =
    let step = client_called (world.clients c) call in
    ap (open_writes d file) (stepped_past world c step) ∙ subst (λ (t : ℕ → Client). knows_file (t d) file ≡ true
    → open_writes d file (past_noted c world.past step.notes) ≡ unanswered_in ((t d).entries file))
    (sym (stepped_clients world c step))
    (λ k. by_client (λ x. knows_file (put world.clients c step.client x) file ≡ true
    → open_writes x file (past_noted c world.past step.notes) ≡ unanswered_in ((put world.clients c step.client x).entries file))
    c d
    (λ known_here. let was = sym (ap (λ n. knows_file (record (world.clients c) { files = n }) file) files)
    ∙ ap (λ (m : Client). knows_file m file) (sym (put_same world.clients c step.client)) ∙ known_here in
    own_writes c (world.clients c) step world.past (tells_so (world.clients c) call step
    (call_tells_writes (world.clients c) call s)) file was (h c file was)
    ∙ ap (λ (m : Client). unanswered_in (m.entries file)) (sym (put_same world.clients c step.client)))
    (λ ne apart known_there. others_writes c d file world.past step.notes apart
    ∙ h d file (ap (λ (m : Client). knows_file m file) (sym (put_other world.clients c step.client d ne)) ∙ known_there)
    ∙ ap (λ (m : Client). unanswered_in (m.entries file)) (sym (put_other world.clients c step.client d ne))) k) known

told_one : (client : ℕ) (fact : Fact) (past : List Fact) (c file : ℕ) → IsTold client fact
    → open_writes c file (fact ∷ past) ≡ open_writes c file past
unfolding open_writes
told_one client fact past c file is = grind arith

pub writes_moves : IsMoved Ground HasWrites
unfolding open_writes
writes_moves world (Move.Told client fact) is g h = λ c file known.
    told_one client fact world.past c file is ∙ h c file known
writes_moves world (Move.Step step) next g h = λ c file known. ap (open_writes c file) (moved_past world step)
    ∙ told_writes c file world.past (step_taken step (begun world.server)).outs
    ∙ h c file (ap (λ (t : ℕ → Client). knows_file (t c) file) (sym (moved_clients world step)) ∙ known)
    ∙ ap (λ (t : ℕ → Client). unanswered_in ((t c).entries file)) (sym (moved_clients world step))
writes_moves world (Move.Expire client file) (on, breaks) g h = h
writes_moves world (Move.Scavenge file_id) may g h = h
writes_moves world (Move.Connect client) down g h =
    stepped_writes (come_back world client) client ClientCall.Connected (g.clients client) refl h
writes_moves world (Move.Commanded client command) may g h =
    stepped_writes world client (ClientCall.Commanded command) (g.clients client)
    (commanded-stays (world.clients client) command).files h
writes_moves world (Move.Take client reply queue) first g h = stepped_writes (reply_gone world client queue) client
    (ClientCall.Taken reply) (g.clients client) (taken-stays (world.clients client) reply).files h
writes_moves world (Move.Notice client) cut g h =
    stepped_writes (record world { links = put world.links client Link.Down }) client ClientCall.Noticed (g.clients client) refl h
writes_moves world move up g h = h
