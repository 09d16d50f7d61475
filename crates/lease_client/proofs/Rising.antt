-- No call raises a belief, but a reply to a create that tells of no break in progress.
use Rattle.lease_laws.proofs.Words.{inl, inr, ◌&&◌, ◌==◌, ◌≡◌, ◌⊎◌, Asked, Bool, Client, Command, CreateAnswer, Entry}
use Rattle.lease_laws.proofs.Words.{LeaseGiven, List}
use Rattle.lease_laws.proofs.Words.{LiveEntry, Option, Pending, Phase, Reply, Some, State, Turn, ℕ, arith, belief_in}
use Rattle.lease_laws.proofs.Words.{belief_of, commanded, false, given_state, is_state_within, lease_key, meet}
use Rattle.lease_laws.proofs.Words.{nothing_cached, phase_with, sent_without, promoted_belief, put, refl, subst, sym, taken, true}
use Rattle.lease_laws.proofs.Words.{turned, without_open}
use Rattle.lease_laws.proofs.client.cases.Commands.{any_command, sent_of}
use Rattle.lease_laws.proofs.client.cases.Links.{any_notice}
use Rattle.lease_laws.proofs.client.cases.Replies.{any_reply}
use Rattle.lease_model.specs.client.Connection as connection
use Rattle.lease_client.specs.Beliefs.{IsNoMore, NoneRose, RoseBy, is_free}
use Rattle.lease_client.specs.Links.{linked}
use Rattle.lease_client.specs.declared.machine.links.Link.{Link}
use Rattle.lease_client.specs.declared.machine.links.Link.TheVariants.{Lost, Made}
use Rattle.lease_laws.proofs.client.cases.Turns.{by_turn}

-- ---- states

within_self : (state : State) → is_state_within state state ≡ true
within_self state = grind (arith)

meet_within : (one other : State) → is_state_within (meet one other) one ≡ true
meet_within one other = grind (arith)

-- ---- one entry

abbrev IsLower : Phase → State → Type 0
IsLower old new = is_state_within new (belief_in old) ≡ true

-- an entry that comes to believe no more
lower_at : (client : Client) (file : ℕ) (entry : Entry) → IsLower (client.entries file).phase (belief_of entry) → (n : ℕ)
    → is_state_within (belief_of (put client.entries file entry n)) (belief_of (client.entries n)) ≡ true
unfolding put
lower_at client file entry lower n = grind arith

lower_turn : (client : Client) (file : ℕ) (turn : Turn) → IsLower (client.entries file).phase (belief_of turn.entry)
    → NoneRose client (turned client file turn).client
lower_turn client file turn lower =
    by_turn (λ step. NoneRose client step.client) client file turn (lower_at client file turn.entry lower)

-- another file's entry is left alone
apart_turn : (client : Client) (file : ℕ) (turn : Turn) (n : ℕ) → (file == n) ≡ false
    → IsNoMore client (turned client file turn).client n
unfolding put
apart_turn client file turn n apart = by_turn (λ step. IsNoMore client step.client n) client file turn (grind arith)

quiet_none : (client : Client) → NoneRose client client
quiet_none client file = within_self (belief_of (client.entries file))

-- what a live entry believed, or less
live_lower : (client : Client) (file : ℕ) (live : LiveEntry) → (client.entries file).phase ≡ Phase.Live live → (belief : State)
    → is_state_within belief live.belief ≡ true → IsLower (client.entries file).phase belief
live_lower client file live is belief lower = subst (λ phase. IsLower phase belief) (sym is) lower

live_same : (client : Client) (file : ℕ) (live : LiveEntry) → (client.entries file).phase ≡ Phase.Live live
    → IsLower (client.entries file).phase live.belief
live_same client file live is = live_lower client file live is live.belief (within_self live.belief)

-- ---- commands

pub commands_raise_none : (client : Client) (command : Command) → NoneRose client (commanded client command).client
commands_raise_none client = any_command client (λ step. NoneRose client step.client) (record {
  refused = λ refusal. quiet_none client;
  opening = λ file terms is on. lower_turn client file _ refl;
  added = λ file live is. lower_turn client file _ (live_same client file live is.is_so);
  asked = λ file live terms is idle some. lower_turn client file _ (live_same client file live is.is_so);
  anew = λ file live terms is idle none. lower_turn client file _ refl;
  fewer = λ file live is more. lower_turn client file _ (live_same client file live is.is_so);
  parked = λ file live is idle done stays. lower_turn client file _ (live_same client file live is.is_so);
  closed = λ file live is idle done goes. lower_turn client file _ refl;
  cached = λ file live base is reads has. quiet_none client;
  read = λ file live is idle. lower_turn client file _ (live_same client file live is.is_so);
  buffered = λ file live patch is fits caches. lower_at client file _ (live_same client file live is.is_so);
  written = λ file live patch is fits sends. lower_at client file _ (live_same client file live is.is_so);
  flushed = λ file live is. lower_turn client file _ (live_same client file live is.is_so);
})

-- ---- replies

either_free : (here free : Bool) → (here && free) ≡ false → (here ≡ false) ⊎ (free ≡ false)
either_free here free is = grind arith

-- a create that tells of a break in progress gives nothing
given_none : (key : List ℕ) (given : Option LeaseGiven) → is_free given ≡ false → given_state key given ≡ nothing_cached
given_none key given free = grind arith

given_within : (key : List ℕ) (given : Option LeaseGiven) (state : State) → is_free given ≡ false
    → is_state_within (given_state key given) state ≡ true
given_within key given state free = rw (given_none key given free) refl

promoted_within : (key : List ℕ) (given : Option LeaseGiven) (state : State) → is_free given ≡ false
    → is_state_within (promoted_belief key state given) state ≡ true
promoted_within key given state free = grind arith

-- what a reply to a create makes of an entry, where it grants it nothing
create_rises : (client : Client) (file file_id : ℕ) (answer : CreateAnswer) (turn : Turn)
    → (is_free answer.lease ≡ false → IsLower (client.entries file).phase (belief_of turn.entry))
    → RoseBy (Reply.Created file file_id (Some answer)) client (turned client file turn).client
create_rises client file file_id answer turn lower n other = elim (either_free (file == n) (is_free answer.lease) other) [
  | inl apart ↦ apart_turn client file turn n apart
  | inr held ↦ lower_turn client file turn (lower held) n
]

-- an entry without its open believes nothing
gone_lower : (phase : Phase) (asking : Option Asked) (sent : List Pending) → IsLower phase (belief_of (without_open asking sent))
gone_lower phase asking sent = grind arith

kept_belief : (write : Option Pending) (phase : Phase) → belief_in (phase_with write phase) ≡ belief_in phase
kept_belief write phase = grind arith

pub replies_raise : (client : Client) (reply : Reply) → RoseBy reply client (taken client reply).client
replies_raise client = any_reply client (λ reply step. RoseBy reply client step.client) (record {
  passed = λ reply why n other. quiet_none client n;
  parked_closes = λ file notice live at is parked n other. lower_turn client file _ refl n;
  lowered = λ file notice live at is stays n other.
      lower_turn client file _ (live_lower client file live is _ (meet_within live.belief notice.lowered)) n;
  opened = λ file file_id answer access share is. create_rises client file file_id answer _
      (λ held. given_within (lease_key client.guid file) answer.lease _ held);
  reconnected = λ file file_id answer parted is. create_rises client file file_id answer _
      (λ held. given_within (lease_key client.guid file) answer.lease _ held);
  promoted = λ file file_id answer live asked is asks. create_rises client file file_id answer _
      (λ held. live_lower client file live is _ (promoted_within (lease_key client.guid file) answer.lease live.belief held));
  not_opened = λ file status access share is n other. lower_turn client file _ refl n;
  not_reconnected = λ file status parted is n other. lower_turn client file _ refl n;
  not_promoted = λ file status live asked is asks n other. lower_turn client file _ (live_same client file live is) n;
  read = λ file file_id bytes live is id some n other. lower_turn client file _ (live_same client file live is) n;
  read_closed = λ file file_id status live is id gone n other.
      lower_turn client file _ (gone_lower (client.entries file).phase live.asking (sent_of client file)) n;
  not_read = λ file file_id status live is id some n other. lower_turn client file _ (live_same client file live is) n;
  written = λ file file_id number at known n other. lower_turn client file _
      (subst (IsLower (client.entries file).phase) (sym (kept_belief _ (client.entries file).phase))
      (within_self (belief_of (client.entries file)))) n;
  write_closed = λ file file_id number status live at known is id gone n other.
      lower_turn client file _ (gone_lower (client.entries file).phase live.asking (sent_without number (sent_of client file))) n;
  not_written = λ file file_id number status at known n other.
      lower_turn client file _ (within_self (belief_of (client.entries file))) n;
})

-- ---- a connection that is lost or made

notices_lower : (sent : List Pending) (phase : Phase) → IsLower phase (belief_of (connection.notice_turn sent phase).entry)
notices_lower sent = any_notice sent (λ phase turn. IsLower phase (belief_of turn.entry)) (record {
  closed = refl;
  opening = λ access share. refl;
  ended = λ live. refl;
  kept = λ live writes. refl;
  bare = λ live none. refl;
  offline = λ parted. refl;
  reconnecting = λ parted. refl;
})

connects_lower : (key : List ℕ) (file : ℕ) (sent : List Pending) (phase : Phase)
    → IsLower phase (belief_of (connection.connected_in key file sent phase).entry)
connects_lower key file sent (Phase.Live live) = within_self live.belief
connects_lower key file sent phase = refl

pub links_raise_none : (client : Client) (link : Link) → NoneRose client (linked client link).client
links_raise_none client Lost file = notices_lower (client.entries file).sent (client.entries file).phase
links_raise_none client Made file =
    connects_lower (lease_key client.guid file) file (client.entries file).sent (client.entries file).phase

-- ---- the client that a step leaves

pub none_rose : (old after new : Client) → new ≡ after → NoneRose old after → NoneRose old new
none_rose old after new is none = subst (NoneRose old) (sym is) none

pub rose_by : (reply : Reply) (old after new : Client) → new ≡ after → RoseBy reply old after → RoseBy reply old new
rose_by reply old after new is rose = subst (RoseBy reply old) (sym is) rose
