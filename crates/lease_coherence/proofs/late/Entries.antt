-- Each step of a client leaves its entries safe.
use Rattle.lease_laws.proofs.Words.{◌&&◌, ◌++◌, ◌+◌, ◌||◌, ◌∙◌, ◌∷◌, ◌≡◌, ◌⊎◌, Among, Asked, Bool, BreakNotice, Client}
use Rattle.lease_laws.proofs.Words.{CreateAnswer, Entry, IsSoundClient, IsSoundLive, IsSoundPhase, LeaseGiven, List, LiveEntry}
use Rattle.lease_laws.proofs.Words.{None, Open, Option, Parted, Pending, Phase, Reply, Some, State, Step, Turn, World, ℕ, []}
use Rattle.lease_laws.proofs.Words.{⊎_elim, ap, belief_lowered, bytes_eq, connect_turn, false, filter, first_belief}
use Rattle.lease_laws.proofs.Words.{given_state, gives_up, if◌then◌else◌, inl, inr, is_touched, knows_file, lease_key}
use Rattle.lease_laws.proofs.Words.{live_entry, machine_key, meet, next_write, not, nothing_cached, phase_with, promoted_belief}
use Rattle.lease_laws.proofs.Words.{put, refl, sent_without, subst, sym, true, true≢false, turned, without_open}
use Rattle.lease_laws.proofs.client.Thin.{put_other, put_same}
use Rattle.lease_laws.proofs.client.cases.Commands.{HasCommands, sent_of}
use Rattle.lease_laws.proofs.client.cases.Links.{HasNotices}
use Rattle.lease_laws.proofs.client.cases.Replies.{HasTakes}
use Rattle.lease_laws.proofs.client.cases.Turns.{by_turn}
use Rattle.lease_laws.proofs.server.Lists.{and_parts, clash, either, if_cases}
use Rattle.lease_laws.proofs.world.Links.{by_client}
use Rattle.lease_coherence.specs.Names.{Each}
use Rattle.lease_coherence.specs.Standing.{FitsPhase, IsOpenFor}
use Rattle.lease_coherence.proofs.beliefs.OneLease.{HoldsWrites, OnGiven}
use Rattle.lease_coherence.proofs.beliefs.Trust.{file_key}
use Rattle.lease_coherence.proofs.late.SafeWrites.{GrantSafe, IsClean, KeptSafe, KeptWrite, LiveSafe, PhaseSafe, given_writes}
use Rattle.lease_coherence.proofs.late.SafeWrites.{holds_write}
use Rattle.lease_coherence.proofs.names.NamedInRecord.{each_append, each_weaker, each_without}

-- ---- lists

pub from_among : (P : Pending → Type 0) (writes : List Pending) → ((w : Pending) → Among w writes → P w) → Each P writes
from_among P [] all = tt
from_among P (w ∷ writes) all = (all w (inl refl), from_among P writes (λ x a. all x (inr a)))

pub at_among : (P : Pending → Type 0) (writes : List Pending) (w : Pending) → Each P writes → Among w writes → P w
at_among P [] w each a = absurd a
at_among P (x ∷ writes) w each a = ⊎_elim (λ same. subst P (sym same) each.0) (λ later. at_among P writes w each.1 later) a

each_parts : (P : Pending → Type 0) (xs ys : List Pending) → Each P (xs ++ ys) → Each P xs × Each P ys
each_parts P [] ys e = (tt, e)
each_parts P (x ∷ xs) ys e = let r = each_parts P xs ys e.1 in ((e.0, r.0), r.1)

-- ---- entries

pub sound_live : (client : Client) (file : ℕ) (live : LiveEntry) → IsSoundClient client
    → (client.entries file).phase ≡ Phase.Live live → IsSoundLive live
sound_live client file live s is = (subst (IsSoundPhase client.is_online (client.entries file).sent) is (s.entries file)).1

-- unsent writes stand under writes that are cached
pub unsent_writes : (live : LiveEntry) → IsSoundLive live → (w : Pending) → Among w live.unsent → live.belief.write ≡ true
unsent_writes live s w a = either live.belief.write (λ e. e)
    (λ none. absurd (subst (λ (l : List Pending). Among w l) (s.unsent_under_writes none) a))

abbrev pub StepSafe : World → ℕ → Client → Step → Type 0
StepSafe world c client step = (file : ℕ) → PhaseSafe world c file (client.entries file).sent (client.entries file).phase
    → PhaseSafe world c file (step.client.entries file).sent (step.client.entries file).phase

put_safe : (world : World) (c : ℕ) (client : Client) (at : ℕ) (entry : Entry)
    → (PhaseSafe world c at (client.entries at).sent (client.entries at).phase
    → PhaseSafe world c at entry.sent entry.phase) → (file : ℕ)
    → PhaseSafe world c file (client.entries file).sent (client.entries file).phase
    → PhaseSafe world c file (put client.entries at entry file).sent (put client.entries at entry file).phase
put_safe world c client at entry here file = by_client
    (λ f. PhaseSafe world c f (client.entries f).sent (client.entries f).phase
    → PhaseSafe world c f (put client.entries at entry f).sent (put client.entries at entry f).phase) at file
    (λ p. subst (λ (e : Entry). PhaseSafe world c at e.sent e.phase) (sym (put_same client.entries at entry)) (here p))
    (λ ne apart p. subst (λ (e : Entry). PhaseSafe world c file e.sent e.phase)
    (sym (put_other client.entries at entry file ne)) p)

turned_safe : (world : World) (c : ℕ) (client : Client) (at : ℕ) (turn : Turn)
    → (PhaseSafe world c at (client.entries at).sent (client.entries at).phase
    → PhaseSafe world c at turn.entry.sent turn.entry.phase) → StepSafe world c client (turned client at turn)
turned_safe world c client at turn here =
    by_turn (StepSafe world c client) client at turn (λ file p. put_safe world c client at turn.entry here file p)

-- an entry that was live
was_live : (world : World) (c : ℕ) (client : Client) (at : ℕ) (live : LiveEntry) → (client.entries at).phase ≡ Phase.Live live
    → PhaseSafe world c at (client.entries at).sent (client.entries at).phase → LiveSafe world c at (sent_of client at) live
was_live world c client at live is p = subst (PhaseSafe world c at (sent_of client at)) is p

-- and believes no more, with writes that were safe
less_live : (world : World) (c file : ℕ) (sent after : List Pending) (live now : LiveEntry) → now.file_id ≡ live.file_id
    → (now.belief.write ≡ true → live.belief.write ≡ true)
    → (Each (IsClean c file world.past) (sent ++ live.unsent) → Each (IsClean c file world.past) (after ++ now.unsent))
    → LiveSafe world c file sent live → LiveSafe world c file after now
less_live world c file sent after live now id less clean p = λ x there by same write.
    let old = p x there by (same ∙ id) (less write) in (old.0, clean old.1)

-- an entry that is live as that one
less_entry : (world : World) (c : ℕ) (client : Client) (at : ℕ) (live now : LiveEntry) (entry : Entry)
    → (client.entries at).phase ≡ Phase.Live live → entry.phase ≡ Phase.Live now → now.file_id ≡ live.file_id
    → (now.belief.write ≡ true → live.belief.write ≡ true) → (Each (IsClean c at world.past) (sent_of client at ++ live.unsent)
    → Each (IsClean c at world.past) (entry.sent ++ now.unsent))
    → PhaseSafe world c at (client.entries at).sent (client.entries at).phase → PhaseSafe world c at entry.sent entry.phase
less_entry world c client at live now entry is so id less clean p = subst (PhaseSafe world c at entry.sent) (sym so)
    (less_live world c at (sent_of client at) entry.sent live now id less clean (was_live world c client at live is p))

less_turn : (world : World) (c : ℕ) (client : Client) (at : ℕ) (live now : LiveEntry) (turn : Turn)
    → (client.entries at).phase ≡ Phase.Live live → turn.entry.phase ≡ Phase.Live now → now.file_id ≡ live.file_id
    → (now.belief.write ≡ true → live.belief.write ≡ true) → (Each (IsClean c at world.past) (sent_of client at ++ live.unsent)
    → Each (IsClean c at world.past) (turn.entry.sent ++ now.unsent)) → StepSafe world c client (turned client at turn)
less_turn world c client at live now turn is so id less clean =
    turned_safe world c client at turn (less_entry world c client at live now turn.entry is so id less clean)

same_turn : (world : World) (c : ℕ) (client : Client) (at : ℕ) (live now : LiveEntry) (turn : Turn)
    → (client.entries at).phase ≡ Phase.Live live → turn.entry.phase ≡ Phase.Live now
    → turn.entry.sent ≡ sent_of client at → now.file_id ≡ live.file_id → now.belief ≡ live.belief
    → now.unsent ≡ live.unsent → StepSafe world c client (turned client at turn)
same_turn world c client at live now turn is so sent id belief unsent = less_turn world c client at live now turn is so id
    (λ w. ap (λ (s : State). s.write) (sym belief) ∙ w)
    (λ each. subst (λ l. Each (IsClean c at world.past) (l ++ now.unsent)) (sym sent)
    (subst (λ l. Each (IsClean c at world.past) (sent_of client at ++ l)) (sym unsent) each))

-- ---- commands

pub commands_safe : (world : World) (c : ℕ) (client : Client)
    → ((file : ℕ) → is_touched c file (client.last_number + 1) world.past ≡ false) → HasCommands client (StepSafe world c client)
commands_safe world c client fresh = record {
  refused = λ refusal file p. p;
  opening = λ file terms is on. turned_safe world c client file _ (λ p. tt);
  added = λ file live is. same_turn world c client file live _ _ is.is_so refl refl refl refl refl;
  asked = λ file live terms is idle some. same_turn world c client file live _ _ is.is_so refl refl refl refl refl;
  anew = λ file live terms is idle none. turned_safe world c client file _ (λ p. tt);
  fewer = λ file live is more. same_turn world c client file live _ _ is.is_so refl refl refl refl refl;
  parked = λ file live is idle done stays. same_turn world c client file live _ _ is.is_so refl refl refl refl refl;
  closed = λ file live is idle done goes. turned_safe world c client file _ (λ p. tt);
  cached = λ file live base is reads has f p. p;
  read = λ file live is idle. same_turn world c client file live _ _ is.is_so refl refl refl refl refl;
  buffered = λ file live patch is fits caches f p.
      let write = next_write client patch true in
      let now : LiveEntry = record live { unsent = live.unsent ++ write ∷ [] } in
      let entry = live_entry now (sent_of client file) in
      put_safe world c client file entry (less_entry world c client file live now entry is.is_so refl refl (λ w. w)
      (λ each. let parts = each_parts (IsClean c file world.past) (sent_of client file) live.unsent each in
      each_append (IsClean c file world.past) (sent_of client file) (live.unsent ++ write ∷ [])
      parts.0 (each_append (IsClean c file world.past) live.unsent (write ∷ []) parts.1 ((λ b. fresh file), tt)))) f p;
  written = λ file live patch is fits sends f p. put_safe world c client file _
      (λ q. λ x there by id write. clash live.belief.write write sends) f p;
  flushed = λ file live is. less_turn world c client file live _ _ is.is_so refl refl (λ w. w)
      (λ each. each_append (IsClean c file world.past) (sent_of client file ++ live.unsent) [] each tt);
}

-- ---- replies

-- what is known of a reply and of the entries where it is taken
pub record IsTakenSafe (world : World) (c : ℕ) (client : Client) (reply : Reply) : Type 0 where
  pub grant : (file : ℕ) → knows_file client file ≡ true → GrantSafe world c file (client.entries file).sent [] reply
  pub given : (file : ℕ) → world.server.expired (machine_key world c file) ≡ false
      → OnGiven (HoldsWrites (world.server.leases (machine_key world c file)).state) (file_key world c file) file reply
  pub own : (file : ℕ) (live : LiveEntry) → (client.entries file).phase ≡ Phase.Live live
      → world.server.expired (machine_key world c file) ≡ false
      → HoldsWrites (world.server.leases (machine_key world c file)).state live.belief
  pub stands : (file : ℕ) (live : LiveEntry) → (client.entries file).phase ≡ Phase.Live live
      → world.server.expired (machine_key world c file) ≡ false → IsOpenFor world c file live.file_id
  pub fits : (file file_id : ℕ) (answer : Option CreateAnswer) → reply ≡ Reply.Created file file_id answer
      → FitsPhase (client.entries file).phase file_id

abbrev pub TakesSafe : World → ℕ → Client → Reply → Step → Type 0
TakesSafe world c client reply step = IsTakenSafe world c client reply → StepSafe world c client step

pub given_so : (key : List ℕ) (given : Option LeaseGiven) → (given_state key given).write ≡ true → given_writes key given ≡ true
given_so key None e = absurd (true≢false (sym e))
given_so key (Some given) e = by_cases given.in_progress (bytes_eq given.key key) e
  where
    by_cases : (busy own : Bool) → (if own && not busy then given.state else nothing_cached).write ≡ true
        → (busy || (own && given.state.write)) ≡ true
    by_cases true own h = refl
    by_cases false true h = h
    by_cases false false h = absurd (true≢false (sym h))

-- a promoted entry believes what it did, or what it is given
promoted_so : (key : List ℕ) (belief : State) (given : Option LeaseGiven)
    → (promoted_belief key belief given).write ≡ true → (given_writes key given ≡ true)
    × ((belief.write ≡ true) ⊎ ((given_state key given).write ≡ true))
promoted_so key belief None e = absurd (true≢false (sym e))
promoted_so key belief (Some given) e = by_cases given.in_progress (bytes_eq given.key key) e
  where
    by_cases : (busy own : Bool) → (if busy then belief else (if own then given.state else nothing_cached)).write ≡ true
        → ((busy || (own && given.state.write)) ≡ true) × ((belief.write ≡ true)
        ⊎ ((if own && not busy then given.state else nothing_cached).write ≡ true))
    by_cases true own h = (refl, inl h)
    by_cases false true h = (h, inr h)
    by_cases false false h = absurd (true≢false (sym h))

-- a file whose entry isn't closed is known
is_known : (client : Client) (file : ℕ) (phase : Phase) → IsSoundClient client → (client.entries file).phase ≡ phase
    → (phase ≡ Phase.Closed → ⊥) → knows_file client file ≡ true
is_known client file phase s is never = either (knows_file client file) (λ e. e)
    (λ unknown. absurd (never (sym is ∙ s.in_files file unknown)))

live_not_closed : (live : LiveEntry) → Phase.Live live ≡ Phase.Closed → ⊥
live_not_closed live e = cc

again_not_closed : (parted : Parted) → Phase.Reconnecting parted ≡ Phase.Closed → ⊥
again_not_closed parted e = cc

opening_not_closed : (access : _) (share : _) → Phase.Opening access share ≡ Phase.Closed → ⊥
opening_not_closed access share e = cc

-- a grant that is taken: the lease holds writes, and what was sent is safe
record IsGrantTaken (world : World) (c file : ℕ) (sent : List Pending) : Type 0 where
  holds : holds_write world c file ≡ true
  clean : Each (IsClean c file world.past) sent

grant_taken : (world : World) (c : ℕ) (client : Client) (file file_id : ℕ) (answer : CreateAnswer)
    → client.guid ≡ (world.clients c).guid → knows_file client file ≡ true
    → IsTakenSafe world c client (Reply.Created file file_id (Some answer))
    → (given_state (lease_key client.guid file) answer.lease).write ≡ true → (x : Open) → Among x world.server.opens
    → x.client ≡ c → x.file_id ≡ file_id → IsGrantTaken world c file (client.entries file).sent
grant_taken world c client file file_id answer guid known t write x there by id =
    let w = subst (λ g. (given_state (lease_key g file) answer.lease).write ≡ true) guid write in
    let safe = t.grant file known refl x there by id in
    let fresh = safe.timely (given_so (file_key world c file) answer.lease w) in record {
      holds = ((t.given file fresh) refl w).1;
      clean = from_among (IsClean c file world.past) (client.entries file).sent (λ p a b. safe.clean w p a b refl);
    }

lowered_safe : (world : World) (c : ℕ) (client : Client) (at : ℕ) (notice : BreakNotice) (live : LiveEntry)
    → (client.entries at).phase ≡ Phase.Live live → StepSafe world c client
    (turned client at (belief_lowered live (sent_of client at) notice (meet live.belief notice.lowered)))
lowered_safe world c client at notice live is =
    less_turn world c client at live _ _ is refl refl (λ w. (and_parts live.belief.write notice.lowered.write w).0)
    (λ each. split (gives_up live.belief (meet live.belief notice.lowered))
    (each_parts (IsClean c at world.past) (sent_of client at) live.unsent each))
  where
    split : (b : Bool) → Each (IsClean c at world.past) (sent_of client at) × Each (IsClean c at world.past) live.unsent
        → Each (IsClean c at world.past)
        ((sent_of client at ++ (if b then live.unsent else [])) ++ (if b then [] else live.unsent))
    split true e = each_append (IsClean c at world.past) (sent_of client at ++ live.unsent) []
        (each_append (IsClean c at world.past) (sent_of client at) live.unsent e.0 e.1) tt
    split false e = each_append (IsClean c at world.past) (sent_of client at ++ []) live.unsent
        (each_append (IsClean c at world.past) (sent_of client at) [] e.0 tt) e.1

gone_safe : (world : World) (c file : ℕ) (asking : Option Asked) (sent : List Pending)
    → PhaseSafe world c file (without_open asking sent).sent (without_open asking sent).phase
gone_safe world c file None sent = tt
gone_safe world c file (Some asked) sent = tt

-- fewer writes that were sent
fewer_entry : (world : World) (c : ℕ) (client : Client) (at number : ℕ) (live now : LiveEntry) (entry : Entry)
    → (client.entries at).phase ≡ Phase.Live live → entry.phase ≡ Phase.Live now
    → entry.sent ≡ sent_without number (sent_of client at) → now.file_id ≡ live.file_id → now.belief ≡ live.belief
    → now.unsent ≡ live.unsent → PhaseSafe world c at (client.entries at).sent (client.entries at).phase
    → PhaseSafe world c at entry.sent entry.phase
fewer_entry world c client at number live now entry is so sent id belief unsent =
    less_entry world c client at live now entry is so id (λ w. ap (λ (s : State). s.write) (sym belief) ∙ w)
    (λ each. let parts = each_parts (IsClean c at world.past) (sent_of client at) live.unsent each in
    each_append (IsClean c at world.past) entry.sent now.unsent (subst (Each (IsClean c at world.past)) (sym sent)
    (each_without (IsClean c at world.past) number (sent_of client at) parts.0))
    (subst (Each (IsClean c at world.past)) (sym unsent) parts.1))

written_safe : (world : World) (c : ℕ) (client : Client) (at number : ℕ) (write : Option Pending) (phase : Phase)
    → (client.entries at).phase ≡ phase → PhaseSafe world c at (client.entries at).sent (client.entries at).phase
    → PhaseSafe world c at (sent_without number (sent_of client at)) (phase_with write phase)
written_safe world c client at number write (Phase.Live live) is p = fewer_entry world c client at number live _ (record {
  phase = phase_with write (Phase.Live live);
  sent = sent_without number (sent_of client at);
}) is refl refl refl refl refl p
written_safe world c client at number write (Phase.Offline parted) is p = subst (PhaseSafe world c at (sent_of client at)) is p
written_safe world c client at number write (Phase.Reconnecting parted) is p =
    subst (PhaseSafe world c at (sent_of client at)) is p
written_safe world c client at number write phase is p = tt

failed_safe : (world : World) (c : ℕ) (client : Client) (at number : ℕ) (phase : Phase)
    → (client.entries at).phase ≡ phase → PhaseSafe world c at (client.entries at).sent (client.entries at).phase
    → PhaseSafe world c at (sent_without number (sent_of client at)) phase
failed_safe world c client at number (Phase.Live live) is p =
    fewer_entry world c client at number live live _ is refl refl refl refl refl p
failed_safe world c client at number (Phase.Offline parted) is p = subst (PhaseSafe world c at (sent_of client at)) is p
failed_safe world c client at number (Phase.Reconnecting parted) is p = subst (PhaseSafe world c at (sent_of client at)) is p
failed_safe world c client at number phase is p = tt

-- an entry that asked for more
promoted_safe : (world : World) (c : ℕ) (client : Client) (at file_id : ℕ) (answer : CreateAnswer) (live next : LiveEntry)
    (turn : Turn) → turn.entry.phase ≡ Phase.Live next → turn.entry.sent ≡ sent_of client at
    → IsSoundClient client → client.guid ≡ (world.clients c).guid → (client.entries at).phase ≡ Phase.Live live
    → IsTakenSafe world c client (Reply.Created at file_id (Some answer)) → next.file_id ≡ file_id
    → next.belief ≡ promoted_belief (lease_key client.guid at) live.belief answer.lease
    → ((w : Pending) → Among w next.unsent → Among w live.unsent) → StepSafe world c client (turned client at turn)
promoted_safe world c client at file_id answer live next turn so_next so_sent s guid is t new belief fewer =
    turned_safe world c client at turn (λ p. subst (λ l. PhaseSafe world c at l turn.entry.phase) (sym so_sent)
    (subst (PhaseSafe world c at (sent_of client at)) (sym so_next) (λ x there by id write.
    let so = promoted_so (lease_key client.guid at) live.belief answer.lease (ap (λ (b : State). b.write) (sym belief) ∙ write) in
    let known = is_known client at (Phase.Live live) s is (live_not_closed live) in
    let safe = t.grant at known refl x there by (id ∙ new) in
    let fresh = safe.timely (subst (λ g. given_writes (lease_key g at) answer.lease ≡ true) guid so.0) in
    let o = t.stands at live is fresh in
    let old = was_live world c client at live is p o.one o.there o.by o.id in
    let unsent : Each (IsClean c at world.past) next.unsent = from_among (IsClean c at world.past) next.unsent
    (λ w a. let mine = fewer w a in
    at_among (IsClean c at world.past) live.unsent w (each_parts (IsClean c at world.past) (sent_of client at) live.unsent
    (old (unsent_writes live (sound_live client at live s is) w mine)).1).1 mine) in ⊎_elim
    (λ had. let was = old had in (
      was.0,
      each_append (IsClean c at world.past) (sent_of client at) next.unsent
          (each_parts (IsClean c at world.past) (sent_of client at) live.unsent was.1).0 unsent,
    ))
    (λ gives. let g = grant_taken world c client at file_id answer guid known t gives x there by (id ∙ new) in
    (g.holds, each_append (IsClean c at world.past) (sent_of client at) next.unsent g.clean unsent)) so.1)))

pub takes_safe : (world : World) (c : ℕ) (client : Client) → IsSoundClient client → client.guid ≡ (world.clients c).guid
    → HasTakes client (TakesSafe world c client)
takes_safe world c client s guid = record {
  passed = λ reply why t file p. p;
  parked_closes = λ at notice live found is parked t. turned_safe world c client at _ (λ p. tt);
  lowered = λ at notice live found is stays t. lowered_safe world c client at notice live is;
  opened = λ at file_id answer access share is t. turned_safe world c client at _ (λ p. λ x there by id write.
      let g = grant_taken world c client at file_id answer guid
      (is_known client at (Phase.Opening access share) s is (λ e. opening_not_closed access share e)) t write x there by id in
      (g.holds, each_append (IsClean c at world.past) (sent_of client at) [] g.clean tt));
  reconnected = λ at file_id answer parted is t. turned_safe world c client at _ (λ p. λ x there by id write.
      let same : file_id ≡ parted.file_id = subst (λ q. FitsPhase q file_id) is (t.fits at file_id (Some answer) refl) in
      let g = grant_taken world c client at file_id answer guid
      (is_known client at (Phase.Reconnecting parted) s is (again_not_closed parted)) t write x there by (id ∙ sym same) in
      let kept : KeptSafe world c at parted = subst (PhaseSafe world c at (sent_of client at)) is p in (
        g.holds,
        each_append (IsClean c at world.past) (sent_of client at) _ g.clean
            (some_kept (first_belief client at answer).write at parted (kept x there by id)),
      ));
  promoted = λ at file_id answer live asked is asks t. promoted_safe world c client at file_id answer live _ _ refl refl s
      guid is t refl refl
      (λ w a. some_unsent (promoted_belief (lease_key client.guid at) live.belief answer.lease).write live w a);
  not_opened = λ at status access share is t. turned_safe world c client at _ (λ p. tt);
  not_reconnected = λ at status parted is t. turned_safe world c client at _ (λ p. tt);
  not_promoted = λ at status live asked is asks t. same_turn world c client at live _ _ is refl refl refl refl refl;
  read = λ at file_id bytes live is id some t. same_turn world c client at live _ _ is refl refl refl refl refl;
  read_closed = λ at file_id status live is id gone t. turned_safe world c client at _
      (λ p. gone_safe world c at live.asking (sent_of client at));
  not_read = λ at file_id status live is id some t. same_turn world c client at live _ _ is refl refl refl refl refl;
  written = λ at file_id number has known t. turned_safe world c client at _
      (written_safe world c client at number _ (client.entries at).phase refl);
  write_closed = λ at file_id number status live has known is id gone t. turned_safe world c client at _
      (λ p. gone_safe world c at live.asking (sent_without number (sent_of client at)));
  not_written = λ at file_id number status has known t. turned_safe world c client at _
      (failed_safe world c client at number (client.entries at).phase refl);
}
  where
    some_kept : (b : Bool) (at : ℕ) (parted : Parted) → Each (KeptWrite world c at) parted.writes
        → Each (IsClean c at world.past) (if b then parted.writes else [])
    some_kept true at parted each = each_weaker (KeptWrite world c at) (IsClean c at world.past) parted.writes (λ w k b. k.1) each
    some_kept false at parted each = tt

    some_unsent : (b : Bool) (live : LiveEntry) (w : Pending) → Among w (if b then live.unsent else []) → Among w live.unsent
    some_unsent true live w a = a
    some_unsent false live w a = absurd a

-- ---- notices and connects

kept_filter : (world : World) (c file : ℕ) (writes : List Pending) → holds_write world c file ≡ true
    → Each (IsClean c file world.past) writes → Each (KeptWrite world c file) (filter (λ w. w.buffered) writes)
kept_filter world c file [] holds each = tt
kept_filter world c file (w ∷ writes) holds each = if_cases (Each (KeptWrite world c file)) w.buffered
    (w ∷ filter (λ y. y.buffered) writes) (filter (λ y. y.buffered) writes)
    (λ b. ((holds, (each.0) b), kept_filter world c file writes holds each.1))
    (λ b. kept_filter world c file writes holds each.1)

pub notices_safe : (world : World) (c file : ℕ) (sent : List Pending)
    → HasNotices sent (λ phase turn. PhaseSafe world c file sent phase → PhaseSafe world c file turn.entry.sent turn.entry.phase)
notices_safe world c file sent = record {
  closed = λ p. tt;
  opening = λ access share p. tt;
  ended = λ live p. tt;
  kept = λ live writes p x there by id. let old = p x there by id writes in
      kept_filter world c file (sent ++ live.unsent) old.0 old.1;
  bare = λ live none p x there by id. tt;
  offline = λ parted p. p;
  reconnecting = λ parted p. p;
}

pub connect_safe : (world : World) (c file : ℕ) (client : Client) (sent : List Pending) (phase : Phase)
    → PhaseSafe world c file sent phase
    → PhaseSafe world c file (connect_turn client file sent phase).entry.sent (connect_turn client file sent phase).entry.phase
connect_safe world c file client sent Phase.Closed p = tt
connect_safe world c file client sent (Phase.Opening access share) p = tt
connect_safe world c file client sent phase p = p
