-- What the notes of a client's step make of the unanswered writes of the record.
use Rattle.lease_laws.proofs.Words.{◌&&◌, ◌++◌, ◌==◌, ◌||◌, ◌∙◌, ◌∷◌, ◌≡◌, ◌≢◌, Answer, Bool, Client, Entry, Fact}
use Rattle.lease_laws.proofs.Words.{IsSoundClient, List, LiveEntry, Note, Patch, Pending, Phase, Settlement, Some, State, Step}
use Rattle.lease_laws.proofs.Words.{Turn, ℕ, [], ⊤, ap, ap₂, are_rising, belief_of, believes_noted, eq-eqb, false, has_number}
use Rattle.lease_laws.proofs.Words.{if◌then◌else◌, is_numbered, knows_file, not, open_writes, put, refl, same_state, settled_as}
use Rattle.lease_laws.proofs.Words.{subst, sym, true, true≢false, turned, unanswered_in, view, without}
use Rattle.lease_laws.proofs.client.Thin.{put_other, put_same}
use Rattle.lease_laws.proofs.client.cases.Commands.{IsEntry, sent_of}
use Rattle.lease_laws.proofs.client.cases.Turns.{by_turn}
use Rattle.lease_laws.proofs.server.Lists.{clash, if_cases, not_true}
use Rattle.lease_laws.proofs.world.Links.{by_client}
use Rattle.lease_coherence.proofs.records.Later.{past_noted}
use Rattle.lease_coherence.proofs.wellformed.Notes.{EachNote, IsSettling, notes_append, settles}
use Rattle.lease_coherence.proofs.writes.Settled.{filter_again, filter_alike, filter_same, left_all, left_front, left_of}
use Rattle.lease_coherence.proofs.writes.Settled.{number_append, number_there, or_later, settles_append, settles_in}
use Rattle.lease_coherence.proofs.writes.Settled.{settles_these}

-- ---- notes in the record

-- a note that settles a write, or tells a belief
abbrev pub IsPlainNote : Note → Type 0
IsPlainNote (Note.Wrote file number patch buffered) = ⊥
IsPlainNote (Note.CachedRead file bytes) = ⊥
IsPlainNote note = ⊤

pub noted_left : (c file : ℕ) (past : List Fact) (notes : List Note) → EachNote IsPlainNote notes
    → open_writes c file (past_noted c past notes) ≡ left_of notes (open_writes c file past)
unfolding open_writes
noted_left c file past [] each = sym (left_all (open_writes c file past))
noted_left c file past (Note.Settled number outcome ∷ notes) each =
    noted_left c file (Fact.Settled c number outcome ∷ past) notes each.1
    ∙ ap (λ l. left_of notes l) (own (c == c) (eq-eqb c c refl))
    ∙ filter_again (λ w. not (settles_in notes w.number)) (λ w. not (w.number == number)) (open_writes c file past)
    ∙ filter_alike (λ w. not (w.number == number) && not (settles_in notes w.number))
    (λ w. not (w.number == number || settles_in notes w.number)) (open_writes c file past)
    (λ w a. both (w.number == number) (settles_in notes w.number))
  where
    own : (b : Bool) → b ≡ true → (if b then without (is_numbered number) (open_writes c file past) else open_writes c file past)
        ≡ without (is_numbered number) (open_writes c file past)
    own true e = refl
    own false e = absurd (true≢false (sym e))

    both : (a b : Bool) → (not a && not b) ≡ not (a || b)
    both true b = refl
    both false b = refl
noted_left c file past (Note.Believes f state ∷ notes) each = noted_left c file (Fact.Believes c f state ∷ past) notes each.1
noted_left c file past (note ∷ notes) each = absurd each.0

-- ---- a client's steps

-- the entries' writes after a step are those before it that weren't settled,
pub record LeavesWrites (client : Client) (step : Step) : Type 0 where
  pub none : EachNote IsPlainNote step.notes
  pub left : (file : ℕ) → knows_file client file ≡ true
      → left_of step.notes (unanswered_in (client.entries file)) ≡ unanswered_in (step.client.entries file)

-- or a command adds one, or reads from the cache
pub data TellsWrites (client : Client) (step : Step) : Type 0 where
  Leaves : (leaves : LeavesWrites client step) → TellsWrites client step
  Adds : (at number : ℕ) (patch : Patch) (buffered : Bool) → (notes : step.notes ≡ Note.Wrote at number patch buffered ∷ [])
      → (more : (file : ℕ) → unanswered_in (step.client.entries file) ≡ (if at == file
      then unanswered_in (client.entries file) ++ record { number = number; patch = patch; buffered = buffered } ∷ []
      else unanswered_in (client.entries file))) → TellsWrites client step
  Reads : (at : ℕ) (live : LiveEntry) (base : List ℕ) → (is : IsEntry client at (Phase.Live live))
      → (has : live.base ≡ Some base) → (reads : live.belief.read ≡ true) → (same : step.client ≡ client)
      → (notes : step.notes ≡ Note.CachedRead at (view base (sent_of client at) live.unsent) ∷ []) → TellsWrites client step

-- what a turn settles
pub record TurnLeaves (old : Entry) (turn : Turn) : Type 0 where
  pub each : EachNote IsSettling turn.settled
  pub left : left_of turn.settled (unanswered_in old) ≡ unanswered_in turn.entry
  pub own : (number : ℕ) → settles_in turn.settled number ≡ true → has_number number (unanswered_in old) ≡ true

pub settling_none : (notes : List Note) → EachNote IsSettling notes → EachNote IsPlainNote notes
settling_none [] each = tt
settling_none (Note.Settled number outcome ∷ notes) each = (tt, settling_none notes each.1)
settling_none (note ∷ notes) each = absurd each.0

pub believed_none : (file : ℕ) (old new : State) → EachNote IsPlainNote (believes_noted file old new)
believed_none file old new = if_cases (EachNote IsPlainNote) (same_state old new) [] (Note.Believes file new ∷ [])
    (λ same. tt) (λ other. (tt, tt))

pub believed_settles : (file : ℕ) (old new : State) (number : ℕ) → settles_in (believes_noted file old new) number ≡ false
believed_settles file old new number = if_cases (λ l. settles_in l number ≡ false) (same_state old new) []
    (Note.Believes file new ∷ []) (λ same. refl) (λ other. refl)

-- with a belief behind it a turn settles the same
abbrev pub turn_notes : ℕ → Entry → Turn → List Note
turn_notes file old turn = turn.settled ++ believes_noted file (belief_of old) (belief_of turn.entry)

pub turn_settles : (file : ℕ) (old : Entry) (turn : Turn) (number : ℕ)
    → settles_in (turn_notes file old turn) number ≡ settles_in turn.settled number
turn_settles file old turn number = settles_append turn.settled _ number
    ∙ ap (λ b. settles_in turn.settled number || b) (believed_settles file (belief_of old) (belief_of turn.entry) number)
    ∙ or_none (settles_in turn.settled number)
  where
    or_none : (a : Bool) → (a || false) ≡ a
    or_none true = refl
    or_none false = refl

-- of another file it settles nothing
pub untouched_left : (client : Client) (notes : List Note) (file at : ℕ) → IsSoundClient client → file ≢ at
    → ((number : ℕ) → settles_in notes number ≡ true → has_number number (unanswered_in (client.entries at)) ≡ true)
    → left_of notes (unanswered_in (client.entries file)) ≡ unanswered_in (client.entries file)
untouched_left client notes file at s ne own =
    filter_same (λ w. not (settles_in notes w.number)) (unanswered_in (client.entries file))
    (λ w a. ap not (not_true (settles_in notes w.number) (λ settled.
    clash (has_number w.number (unanswered_in (client.entries file))) (number_there w (unanswered_in (client.entries file)) a)
    (s.numbers.apart at file w.number (λ e. ne (sym e)) (own w.number settled)))))

pub turned_leaves : (client : Client) (at : ℕ) (turn : Turn) → IsSoundClient client → TurnLeaves (client.entries at) turn
    → LeavesWrites client (turned client at turn)
turned_leaves client at turn s t = by_turn (LeavesWrites client) client at turn (record {
  none = notes_append IsPlainNote turn.settled _ (settling_none turn.settled t.each)
      (believed_none at (belief_of (client.entries at)) (belief_of turn.entry));
  left = λ file known. by_client
      (λ f. left_of (turn_notes at (client.entries at) turn) (unanswered_in (client.entries f))
      ≡ unanswered_in (put client.entries at turn.entry f)) at file
      (filter_alike (λ w. not (settles_in (turn_notes at (client.entries at) turn) w.number))
      (λ w. not (settles_in turn.settled w.number)) (unanswered_in (client.entries at))
      (λ w a. ap not (turn_settles at (client.entries at) turn w.number))
      ∙ t.left ∙ ap (λ (e : Entry). unanswered_in e) (sym (put_same client.entries at turn.entry)))
      (λ ne apart. untouched_left client (turn_notes at (client.entries at) turn) file at s ne
      (λ number settled. t.own number (sym (turn_settles at (client.entries at) turn number) ∙ settled))
      ∙ ap (λ (e : Entry). unanswered_in e) (sym (put_other client.entries at turn.entry file ne)));
})

pub turned_tells : (client : Client) (at : ℕ) (turn : Turn) → IsSoundClient client → TurnLeaves (client.entries at) turn
    → TellsWrites client (turned client at turn)
turned_tells client at turn s t = TellsWrites.Leaves (turned_leaves client at turn s t)

-- a turn that settles nothing
pub quiet_leaves : (old : Entry) (turn : Turn) → turn.settled ≡ [] → unanswered_in old ≡ unanswered_in turn.entry
    → TurnLeaves old turn
quiet_leaves old turn none same = record {
  each = subst (EachNote IsSettling) (sym none) tt;
  left = ap (λ l. left_of l (unanswered_in old)) none ∙ left_all (unanswered_in old) ∙ same;
  own = λ number settled. absurd (true≢false (sym settled ∙ ap (λ l. settles_in l number) none));
}

-- one that settles all of these
pub front_leaves : (last : ℕ) (old : Entry) (turn : Turn) (outcome : Settlement) (keep gone : List Pending)
    → are_rising 0 last (unanswered_in old) ≡ true → unanswered_in old ≡ keep ++ gone
    → turn.settled ≡ settled_as outcome gone → unanswered_in turn.entry ≡ keep → TurnLeaves old turn
front_leaves last old turn outcome keep gone rises are settled same = record {
  each = subst (EachNote IsSettling) (sym settled) (settles outcome gone);
  left = ap₂ (λ l ws. left_of l ws) settled are
      ∙ left_front outcome last keep gone (ap (are_rising 0 last) (sym are) ∙ rises) ∙ sym same;
  own = λ number e. ap (has_number number) are ∙ number_append number keep gone
      ∙ or_later (has_number number keep) (has_number number gone)
      (sym (settles_these outcome gone number) ∙ ap (λ l. settles_in l number) (sym settled) ∙ e);
}

pub same_leaves : (client : Client) (answer : Answer)
    → LeavesWrites client (record { client = client; answer = answer; requests = []; notes = [] })
same_leaves client answer = record { none = tt; left = λ file known. left_all (unanswered_in (client.entries file)) }
