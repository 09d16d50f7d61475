-- A client's belief rises by a grant alone, while no break is in progress.
use Rattle.lease_laws.proofs.Words.{◌&&◌, ◌||◌, ◌≡◌, ◌⊎◌, Asked, Bool, Client, ClientCall, CreateAnswer, Entry, LeaseGiven}
use Rattle.lease_laws.proofs.Words.{List, LiveEntry, None, Option, Pending, Phase, Reply, Some, State, Step, Turn, ℕ, belief}
use Rattle.lease_laws.proofs.Words.{belief_in, belief_of, bytes_eq, connect_turn, false, given_state, inl, inr, is_state_within}
use Rattle.lease_laws.proofs.Words.{lease_key, meet, not, nothing_cached, phase_with, promoted_belief, put, refl, sent_without}
use Rattle.lease_laws.proofs.Words.{subst, sym, true, turned, without_open}
use Rattle.lease_laws.proofs.client.Thin.{put_other, put_same}
use Rattle.lease_laws.proofs.client.cases.Commands.{HasCommands, any_command, sent_of}
use Rattle.lease_laws.proofs.client.cases.Links.{HasNotices, any_notice}
use Rattle.lease_laws.proofs.client.cases.Replies.{HasTakes, any_reply}
use Rattle.lease_laws.proofs.client.cases.Turns.{by_turn}
use Rattle.lease_laws.proofs.server.Lists.{and_parts, clash, either, if_cases, not_parts}
use Rattle.lease_laws.proofs.world.Links.{by_client}
use Rattle.lease_coherence.specs.Agreement.{BeliefsRiseByGrants, IsGranted}

-- ---- states

abbrev Within : State → State → Type 0
Within one other = is_state_within one other ≡ true

each_part : (p q r : Bool) → p ≡ true → q ≡ true → r ≡ true → (p && q && r) ≡ true
each_part true true true a b c = refl
each_part true true false a b c = c
each_part true false r a b c = b
each_part false q r a b c = a

same_within : (state : State) → Within state state
same_within state = each_part _ _ _ (self state.read) (self state.write) (self state.handle)
  where
    self : (p : Bool) → (not p || p) ≡ true
    self true = refl
    self false = refl

meet_within : (one other : State) → Within (meet one other) one
meet_within one other = each_part _ _ _ (less one.read other.read) (less one.write other.write) (less one.handle other.handle)
  where
    less : (p q : Bool) → (not (p && q) || p) ≡ true
    less true true = refl
    less true false = refl
    less false q = refl

-- ---- steps

-- no belief rises
abbrev StaysLow : Client → Step → Type 0
StaysLow client step = (file : ℕ) → Within (belief step.client file) (belief client file)

put_low : (client : Client) (at : ℕ) (entry : Entry) → Within (belief_in entry.phase) (belief client at) → (file : ℕ)
    → Within (belief_in (put client.entries at entry file).phase) (belief client file)
put_low client at entry here file = by_client
    (λ f. Within (belief_in (put client.entries at entry f).phase) (belief client f)) at file
    (subst (λ (e : Entry). Within (belief_in e.phase) (belief client at)) (sym (put_same client.entries at entry)) here)
    (λ ne off. subst (λ (e : Entry). Within (belief_in e.phase) (belief client file))
    (sym (put_other client.entries at entry file ne)) (same_within (belief client file)))

turn_low : (client : Client) (at : ℕ) (turn : Turn) → Within (belief_of turn.entry) (belief client at)
    → StaysLow client (turned client at turn)
turn_low client at turn here = by_turn (StaysLow client) client at turn (put_low client at turn.entry here)

-- an entry that believes what it did
as_was : (client : Client) (file : ℕ) (live : LiveEntry) → (client.entries file).phase ≡ Phase.Live live
    → Within live.belief (belief client file)
as_was client file live is = subst (λ p. Within live.belief (belief_in p)) (sym is) (same_within live.belief)

commands_low : (client : Client) → HasCommands client (StaysLow client)
commands_low client = record {
  refused = λ refusal file. same_within (belief client file);
  opening = λ file terms is on. turn_low client file _ refl;
  added = λ file live is. turn_low client file _ (as_was client file live is.is_so);
  asked = λ file live terms is idle some. turn_low client file _ (as_was client file live is.is_so);
  anew = λ file live terms is idle none. turn_low client file _ refl;
  fewer = λ file live is more. turn_low client file _ (as_was client file live is.is_so);
  parked = λ file live is idle done stays. turn_low client file _ (as_was client file live is.is_so);
  closed = λ file live is idle done goes. turn_low client file _ refl;
  cached = λ file live base is reads has f. same_within (belief client f);
  read = λ file live is idle. turn_low client file _ (as_was client file live is.is_so);
  buffered = λ file live patch is fits caches. put_low client file _ (as_was client file live is.is_so);
  written = λ file live patch is fits sends. put_low client file _ (as_was client file live is.is_so);
  flushed = λ file live is. turn_low client file _ (as_was client file live is.is_so);
}

-- ---- replies

-- no belief rises, or by a grant
abbrev LowOrGranted : Client → Reply → Step → Type 0
LowOrGranted client reply step = (file : ℕ)
    → Within (belief step.client file) (belief client file) ⊎ IsGranted client (ClientCall.Taken reply) file

-- an entry that a reply to a create makes live, believing this
granted_low : (client : Client) (at file_id : ℕ) (answer : CreateAnswer) (turn : Turn)
    → Within (belief_of turn.entry) (belief client at)
    ⊎ IsGranted client (ClientCall.Taken (Reply.Created at file_id (Some answer))) at
    → LowOrGranted client (Reply.Created at file_id (Some answer)) (turned client at turn)
granted_low client at file_id answer turn here =
    by_turn (LowOrGranted client (Reply.Created at file_id (Some answer))) client at turn (λ file. by_client
    (λ f. Within (belief_in (put client.entries at turn.entry f).phase) (belief client f)
    ⊎ IsGranted client (ClientCall.Taken (Reply.Created at file_id (Some answer))) f) at file
    (subst (λ (e : Entry). Within (belief_in e.phase) (belief client at)
    ⊎ IsGranted client (ClientCall.Taken (Reply.Created at file_id (Some answer))) at)
    (sym (put_same client.entries at turn.entry)) here)
    (λ ne off. inl (subst (λ (e : Entry). Within (belief_in e.phase) (belief client file))
    (sym (put_other client.entries at turn.entry file ne)) (same_within (belief client file)))))

-- what a reply gives is nothing, or a grant
given_or_none : (client : Client) (at file_id : ℕ) (answer : CreateAnswer) (lease : Option LeaseGiven)
    → answer.lease ≡ lease → (old : State) → Within (given_state (lease_key client.guid at) lease) old
    ⊎ IsGranted client (ClientCall.Taken (Reply.Created at file_id (Some answer))) at
given_or_none client at file_id answer None is old = inl refl
given_or_none client at file_id answer (Some given) is old = either given.in_progress
    (λ busy. inl (if_cases (λ s. Within s old) (bytes_eq given.key (lease_key client.guid at) && not given.in_progress)
    given.state nothing_cached
    (λ told. clash given.in_progress busy (not_parts given.in_progress
    (and_parts (bytes_eq given.key (lease_key client.guid at)) (not given.in_progress) told).1)) (λ none. refl)))
    (λ done. inr (record { file_id = file_id; answer = answer; given = given; taken = refl; gives = is; settled = done }))

promoted_or_none : (client : Client) (at file_id : ℕ) (answer : CreateAnswer) (lease : Option LeaseGiven)
    → answer.lease ≡ lease → (old : State) → Within (promoted_belief (lease_key client.guid at) old lease) old
    ⊎ IsGranted client (ClientCall.Taken (Reply.Created at file_id (Some answer))) at
promoted_or_none client at file_id answer None is old = inl refl
promoted_or_none client at file_id answer (Some given) is old = either given.in_progress
    (λ busy. inl (subst (λ s. Within s old) (sym (rw (busy) refl)) (same_within old)))
    (λ done. inr (record { file_id = file_id; answer = answer; given = given; taken = refl; gives = is; settled = done }))

without_low : (asking : Option Asked) (sent : List Pending) (old : State)
    → Within (belief_in (without_open asking sent).phase) old
without_low None sent old = refl
without_low (Some asked) sent old = refl

with_same : (write : Option Pending) (phase : Phase) → Within (belief_in (phase_with write phase)) (belief_in phase)
with_same write (Phase.Live live) = same_within live.belief
with_same write phase = refl

takes_low : (client : Client) → HasTakes client (LowOrGranted client)
takes_low client = record {
  passed = λ reply why file. inl (same_within (belief client file));
  parked_closes = λ file notice live at is parked f. inl (turn_low client file _ refl f);
  lowered = λ file notice live at is stays f. inl (turn_low client file _
      (subst (λ p. Within (meet live.belief notice.lowered) (belief_in p)) (sym is) (meet_within live.belief notice.lowered)) f);
  opened = λ at id answer access share is. granted_low client at id answer _
      (given_or_none client at id answer answer.lease refl (belief client at));
  reconnected = λ at id answer parted is. granted_low client at id answer _
      (given_or_none client at id answer answer.lease refl (belief client at));
  promoted = λ at id answer live asked is asks. granted_low client at id answer _
      (subst (λ p. Within (promoted_belief (lease_key client.guid at) live.belief answer.lease) (belief_in p)
      ⊎ IsGranted client (ClientCall.Taken (Reply.Created at id (Some answer))) at) (sym is)
      (promoted_or_none client at id answer answer.lease refl live.belief));
  not_opened = λ file status access share is f. inl (turn_low client file _ refl f);
  not_reconnected = λ file status parted is f. inl (turn_low client file _ refl f);
  not_promoted = λ file status live asked is asks f. inl (turn_low client file _ (as_was client file live is) f);
  read = λ file id bytes live is same some f. inl (turn_low client file _ (as_was client file live is) f);
  read_closed = λ file id status live is same gone f. inl (turn_low client file _
      (without_low live.asking (sent_of client file) (belief client file)) f);
  not_read = λ file id status live is same some f. inl (turn_low client file _ (as_was client file live is) f);
  written = λ file id number has known f. inl (turn_low client file _ (with_same _ (client.entries file).phase) f);
  write_closed = λ file id number status live has known is same gone f. inl (turn_low client file _
      (without_low live.asking (sent_without number (sent_of client file)) (belief client file)) f);
  not_written = λ file id number status has known f. inl (turn_low client file _ (same_within (belief client file)) f);
}

-- ---- connections

notices_low : (old : State) (sent : List Pending) → HasNotices sent (λ phase turn. Within (belief_in turn.entry.phase) old)
notices_low old sent = record {
  closed = refl;
  opening = λ access share. refl;
  ended = λ live. refl;
  kept = λ live writes. refl;
  bare = λ live none. refl;
  offline = λ parted. refl;
  reconnecting = λ parted. refl;
}

connect_low : (client : Client) (file : ℕ) (sent : List Pending) (phase : Phase)
    → Within (belief_in (connect_turn client file sent phase).entry.phase) (belief_in phase)
connect_low client file sent (Phase.Live live) = same_within live.belief
connect_low client file sent phase = refl

pub beliefs_rise_by_grants : BeliefsRiseByGrants
beliefs_rise_by_grants client (ClientCall.Commanded command) file =
    inl (any_command client (StaysLow client) (commands_low client) command file)
beliefs_rise_by_grants client (ClientCall.Taken reply) file = any_reply client (LowOrGranted client) (takes_low client) reply file
beliefs_rise_by_grants client ClientCall.Noticed file =
    inl (any_notice (client.entries file).sent _ (notices_low (belief client file) (client.entries file).sent)
    (client.entries file).phase)
beliefs_rise_by_grants client ClientCall.Connected file =
    inl (connect_low client file (client.entries file).sent (client.entries file).phase)
