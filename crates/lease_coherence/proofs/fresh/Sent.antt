-- What the server does keeps a client's bytes fresh.
use Rattle.lease_laws.proofs.Words.{◌++◌, ◌==◌, ◌∙◌, ◌∷◌, ◌≡◌, ◌≤◌, ◌⊎◌, Among, Bool, Client, Fact, IsSound, Key, Lease, List}
use Rattle.lease_laws.proofs.Words.{Open, Phase, Reply, Some, World, ℕ, [], ⊎_elim, ⊤, ap, ap₂, arith, belief_in, bytes_eq}
use Rattle.lease_laws.proofs.Words.{bytes_eq-Decides, content_of, drop, eq-eqb, eqb-true, false, has_key, if◌then◌else◌, is_key}
use Rattle.lease_laws.proofs.Words.{is_up, key_of, last_of, last_sending, lease_key, length, list_any, machine_key, no_lease}
use Rattle.lease_laws.proofs.Words.{refl, sendings, slice_get, subst, suc, sym, takings, true, true≢false, zero}
use Rattle.lease_laws.proofs.client.cases.Replies.{is_live}
use Rattle.lease_laws.proofs.server.Keys.{is_key-one, is_key-refl}
use Rattle.lease_laws.proofs.server.Lists.{any_has, clash, either, not_false}
use Rattle.lease_coherence.specs.Names.{IsOwnOpen}
use Rattle.lease_coherence.specs.Standing.{IsStandingAt}
use Rattle.lease_coherence.proofs.beliefs.Forms.{keys_apart}
use Rattle.lease_coherence.proofs.beliefs.OneLease.{acks}
use Rattle.lease_coherence.proofs.beliefs.Trust.{file_key, nothing_stands}
use Rattle.lease_coherence.proofs.fresh.FreshBytes.{AckReads, Follows, HasBase, IsFreshFor, IsLastSeen, IsRelayed, TellsBytes}
use Rattle.lease_coherence.proofs.fresh.FreshBytes.{acks_fewer, after_none, no_acks_read, places_of, reads_after, reads_by}
use Rattle.lease_coherence.proofs.fresh.FreshBytes.{reads_last, relayed_later, relayed_now}
use Rattle.lease_coherence.proofs.moves.Foreign.{IsUnmoved, key_client}
use Rattle.lease_coherence.proofs.moves.Own.{is_bare}
use Rattle.lease_coherence.proofs.moves.Spared.{ends_as}
use Rattle.lease_coherence.proofs.names.NamedInRecord.{each_weaker}
use Rattle.lease_coherence.proofs.records.Later.{IsLater, later_fact, later_then}

-- ---- one client and one file of a world

abbrev pub IsFreshIn : World → ℕ → ℕ → Type 0
IsFreshIn world c file = IsFreshFor c (file_key world c file) file (world.server.leases (machine_key world c file))
    ((world.clients c).entries file).phase (world.requests c) (world.replies c) world.past

abbrev pub HasFresh : World → ℕ → Type 0
HasFresh world c = (file : ℕ) → world.server.expired (machine_key world c file) ≡ false → IsFreshIn world c file

abbrev pub IsUpFresh : World → ℕ → Type 0
IsUpFresh world c = is_up (world.links c) ≡ true → HasFresh world c

-- what the entry holds reads of, once all replies are taken
abbrev pub left_reads : World → ℕ → ℕ → Bool
left_reads world c file =
    reads_after (file_key world c file) file (belief_in ((world.clients c).entries file).phase).read (world.replies c)

-- ---- the message that was taken last

-- a place that was there is there where more are behind it
get_more : {X : Type 0} (xs ys : List X) (n : ℕ) (x : X) → slice_get xs n ≡ Some x → slice_get (xs ++ ys) n ≡ Some x
get_more {X} [] ys n x e = absurd (never n e)
  where
    never : (m : ℕ) → slice_get {X = X} [] m ≡ Some x → ⊥
    never zero e = cc
    never (suc m) e = cc
get_more (y ∷ xs) ys zero x e = e
get_more (y ∷ xs) ys (suc n) x e = get_more xs ys n x e

last_more : (count : ℕ) (places more : List (List Fact)) (place : List Fact) → last_of count places ≡ Some place
    → last_of count (places ++ more) ≡ Some place
last_more zero places more place e = let c : ⊥ = cc in absurd c
last_more (suc count) places more place e = get_more places more count place e

-- the same sendings, and perhaps more
pub record HasMore (c : ℕ) (past new : List Fact) : Type 0 where
  pub more : List (List Fact)
  pub sent : sendings c new ≡ sendings c past ++ more
  pub took : takings c new ≡ takings c past

pub seen_more : (c file : ℕ) (old : List ℕ) (past new : List Fact) → HasMore c past new → IsLastSeen c file old past
    → IsLastSeen c file old new
unfolding last_sending
seen_more c file old past new h s = record {
  place = s.place;
  is_last = ap₂ (λ n p. last_of n p) h.took h.sent ∙ last_more (takings c past) (sendings c past) h.more s.place s.is_last;
  content = s.content;
}

no_more : {X : Type 0} (xs : List X) → xs ≡ xs ++ []
no_more [] = refl
no_more (x ∷ xs) = ap (λ l. x ∷ l) (no_more xs)

pub base_more : (c file : ℕ) (old : List ℕ) (past new : List Fact) (bytes : List ℕ) → HasMore c past new
    → HasBase c file old past bytes → HasBase c file old new bytes
base_more c file old past new bytes h b = record { same = b.same; seen = seen_more c file old past new h b.seen }

-- ---- what others do

-- a lease from which something is left has an open on the file
pub record HasOpenOn (world : World) (c file : ℕ) : Type 0 where
  pub one : Open
  pub there : Among one world.server.opens
  pub by : one.client ≡ c
  pub on_file : one.file ≡ file
  pub has : has_key (machine_key world c file) one ≡ true

pub open_left : (world : World) (c file : ℕ) → IsSound world.server
    → ((one : Open) → Among one world.server.opens → one.client ≡ c → IsOwnOpen (world.clients c).guid one)
    → ((world.server.leases (machine_key world c file)) ≡ no_lease → ⊥) → HasOpenOn world c file
open_left world c file sound own some =
    let key = machine_key world c file in
    let there = not_false (list_any (has_key key) world.server.opens) (λ none. some (sound.no_open key none)) in
    let x = any_has (has_key key) world.server.opens there in
    let by = sym (key_client key x.0 x.2) in record {
      one = x.0;
      there = x.1;
      by = by;
      on_file = same_file x.0 (is_key-one key (key_of c (lease_key (world.clients c).guid (x.0).file)) (x.0).client
          (x.0).lease_key x.2 (own_key_of x.0 by (own x.0 x.1 by)));
      has = x.2;
    }
  where
    own_key_of : (one : Open) → one.client ≡ c → IsOwnOpen (world.clients c).guid one
        → has_key (key_of c (lease_key (world.clients c).guid one.file)) one ≡ true
    own_key_of one by is = subst (λ bytes. is_key
        (key_of c (lease_key (world.clients c).guid one.file)) one.client bytes ≡ true) (sym is)
        (subst (λ d. is_key (key_of c (lease_key (world.clients c).guid one.file)) d
        (Some (lease_key (world.clients c).guid one.file)) ≡ true) (sym by)
        (is_key-refl c (lease_key (world.clients c).guid one.file)))

    same_file : (one : Open) → machine_key world c file ≡ key_of c (lease_key (world.clients c).guid one.file) → one.file ≡ file
    same_file one e = either (one.file == file) (λ same. eqb-true one.file file same)
        (λ apart. clash (bytes_eq (lease_key (world.clients c).guid file) (lease_key (world.clients c).guid one.file))
        ((bytes_eq-Decides (lease_key (world.clients c).guid file) (lease_key (world.clients c).guid one.file)).1
        (ap (λ (k : Key). k.bytes) e)) (keys_apart (world.clients c).guid file one.file
        (λ same. clash (one.file == file) (eq-eqb one.file file (sym same)) apart)))

reads_some : (lease : Lease) → (ends_as lease).read ≡ true → lease ≡ no_lease → ⊥
reads_some lease reads none = true≢false (sym reads ∙ ap (λ (l : Lease). (ends_as l).read) none)

pub unmoved_fresh : (world new : World) (c : ℕ) → IsUnmoved world new c → IsSound world.server
    → ((one : Open) → Among one world.server.opens → one.client ≡ c → IsOwnOpen (world.clients c).guid one)
    → (file : ℕ) → IsFreshIn world c file → IsFreshIn new c file
unmoved_fresh world new c u sound own file f =
    let key = file_key world c file in
    let at = machine_key world c file in
    subst (λ (m : Client). IsFreshFor c (lease_key m.guid file) file (new.server.leases (key_of c (lease_key m.guid file)))
    (m.entries file).phase (new.requests c) (new.replies c) new.past) (sym u.machine)
    (subst (λ (l : Lease). IsFreshFor c key file l ((world.clients c).entries file).phase (new.requests c) (new.replies c)
    new.past) (sym (u.leases at refl))
    (subst (λ q. IsFreshFor c key file (world.server.leases at) ((world.clients c).entries file).phase q (new.replies c)
    new.past) (sym u.requests)
    (subst (λ r. IsFreshFor c key file (world.server.leases at) ((world.clients c).entries file).phase (world.requests c) r
    new.past) (sym u.replies) (record {
      old = f.old;
      base = λ live is bytes b. base_more c file f.old world.past new.past bytes
          (record { more = []; sent = u.spared.sent ∙ no_more (sendings c world.past); took = u.spared.took })
          (f.base live is bytes b);
      relay = subst (λ p. IsRelayed c key file new.past (belief_in ((world.clients c).entries file).phase).read f.old p
          (world.replies c) (content_of file new.past)) (sym (ap₂ (λ n p. drop n p) u.spared.took u.spared.sent))
          (relayed_later c key file world.past new.past _ f.old (places_of c world.past) (world.replies c)
          (content_of file new.past) u.later (relayed_now c key file world.past _ f.old (places_of c world.past) (world.replies c)
          (content_of file world.past) (content_of file new.past)
          (λ reads. let left = f.bound reads in
          let o = open_left world c file sound own (reads_some (world.server.leases at) left) in
          subst (λ n. content_of n new.past ≡ content_of n world.past) o.on_file
          (u.spared.content at o.one o.by o.there o.has left)) f.relay));
      bound = f.bound;
      acks_read = f.acks_read;
    }))))

-- ---- one more reply

pub record IsToldTo (world : World) (new : World) (c : ℕ) (reply : Reply) : Type 0 where
  pub machine : new.clients c ≡ world.clients c
  pub requests : new.requests c ≡ world.requests c
  pub replies : new.replies c ≡ world.replies c ++ reply ∷ []

-- the record once it was sent
pub record IsToldIn (c : ℕ) (past middle new : List Fact) : Type 0 where
  pub is : new ≡ Fact.Sent c ∷ middle
  pub later : IsLater past middle
  pub sent : sendings c middle ≡ sendings c past
  pub took : takings c middle ≡ takings c past

told_sent : (c : ℕ) (past middle new : List Fact) → IsToldIn c past middle new → sendings c new ≡ sendings c past ++ middle ∷ []
unfolding sendings
told_sent c past middle new t = ap (sendings c) t.is ∙ own (c == c) (eq-eqb c c refl)
  where
    own : (b : Bool) → b ≡ true → (if b then sendings c middle ++ middle ∷ [] else sendings c middle)
        ≡ sendings c past ++ middle ∷ []
    own true e = ap (λ p. p ++ middle ∷ []) t.sent
    own false e = absurd (true≢false (sym e))

told_took : (c : ℕ) (past middle new : List Fact) → IsToldIn c past middle new → takings c new ≡ takings c past
unfolding takings
told_took c past middle new t = ap (takings c) t.is ∙ t.took

told_more : (c : ℕ) (past middle new : List Fact) → IsToldIn c past middle new → HasMore c past new
told_more c past middle new t =
    record { more = middle ∷ []; sent = told_sent c past middle new t; took = told_took c past middle new t }

drop_low : {X : Type 0} (count : ℕ) (xs ys : List X) → count ≤ length xs → drop count (xs ++ ys) ≡ drop count xs ++ ys
drop_low zero xs ys low = refl
drop_low (suc count) [] ys low = absurd (omega (arith, low))
drop_low (suc count) (x ∷ xs) ys low = drop_low count xs ys (omega (arith, low))

told_places : (c : ℕ) (past middle new : List Fact) → IsToldIn c past middle new
    → takings c past ≤ length (sendings c past) → places_of c new ≡ places_of c past ++ middle ∷ []
told_places c past middle new t low =
    ap₂ (λ n p. drop n p) (told_took c past middle new t) (told_sent c past middle new t) ∙ drop_low (takings c past)
    (sendings c past) (middle ∷ []) low

sent_content : (c file : ℕ) (middle : List Fact) → content_of file (Fact.Sent c ∷ middle) ≡ content_of file middle
unfolding content_of
sent_content c file middle = refl

-- what a file's lease and content have to be where a reply is sent
pub record SendsFresh (world new : World) (c : ℕ) (middle : List Fact) (reply : Reply) (file : ℕ) : Type 0 where
  pub follows : (from : List ℕ) → (left_reads world c file ≡ true → content_of file world.past ≡ from)
      → left_reads world c file ≡ true → Follows c file new.past from (content_of file middle) reply
  pub tells : TellsBytes c new.past middle reply
  pub bound : reads_by (file_key world c file) file (left_reads world c file) reply ≡ true
      → (ends_as (new.server.leases (machine_key world c file))).read ≡ true
  pub fewer : (reads_by (file_key world c file) file (left_reads world c file) reply ≡ true
      → left_reads world c file ≡ true) ⊎ (acks (file_key world c file) (world.requests c) ≡ 0)

-- the relay behind the last reply, where it still reads
relayed_sent : (c : ℕ) (key : List ℕ) (file : ℕ) (past : List Fact) (reads : Bool) (old : List ℕ)
    (places : List (List Fact)) (queue : List Reply) (now next : List ℕ) (place : List Fact) (reply : Reply)
    → ((from : List ℕ) → (reads_after key file reads queue ≡ true → now ≡ from)
    → reads_after key file reads queue ≡ true → Follows c file past from (content_of file place) reply)
    → TellsBytes c past place reply → next ≡ content_of file place → IsRelayed c key file past reads old places queue now
    → IsRelayed c key file past reads old (places ++ place ∷ []) (queue ++ reply ∷ []) next
relayed_sent c key file past reads old [] [] now next place reply follows tells is r =
    (λ e. follows old r e, tells, λ e. is)
relayed_sent c key file past reads old [] (x ∷ queue) now next place reply follows tells is r = absurd r
relayed_sent c key file past reads old (p ∷ places) [] now next place reply follows tells is r = absurd r
relayed_sent c key file past reads old (p ∷ places) (x ∷ queue) now next place reply follows tells is r = (
  r.0,
  r.1,
  relayed_sent c key file past (reads_by key file reads x) (content_of file p) places queue now next place reply follows
      tells is r.2,
)

pub sent_fresh : (world new : World) (c : ℕ) (middle : List Fact) (reply : Reply) → IsToldTo world new c reply
    → IsToldIn c world.past middle new.past → takings c world.past ≤ length (sendings c world.past)
    → (file : ℕ) → SendsFresh world new c middle reply file → IsFreshIn world c file → IsFreshIn new c file
sent_fresh world new c middle reply s told low file sends f =
    let key = file_key world c file in
    let reads = (belief_in ((world.clients c).entries file).phase).read in
    let after = reads_last key file reads (world.replies c) reply in
    let later = later_then world.past middle new.past told.later
    (subst (IsLater middle) (sym told.is) (later_fact middle (Fact.Sent c))) in
    subst (λ (m : Client). IsFreshFor c (lease_key m.guid file) file (new.server.leases (key_of c (lease_key m.guid file)))
    (m.entries file).phase (new.requests c) (new.replies c) new.past) (sym s.machine)
    (subst (λ q. IsFreshFor c key file (new.server.leases (machine_key world c file))
    ((world.clients c).entries file).phase q (new.replies c) new.past) (sym s.requests)
    (subst (λ r. IsFreshFor c key file (new.server.leases (machine_key world c file))
    ((world.clients c).entries file).phase (world.requests c) r new.past) (sym s.replies) (record {
      old = f.old;
      base = λ live is bytes b. base_more c file f.old world.past new.past bytes (told_more c world.past middle new.past told)
          (f.base live is bytes b);
      relay = subst (λ p. IsRelayed c key file new.past reads f.old p (world.replies c ++ reply ∷ [])
          (content_of file new.past)) (sym (told_places c world.past middle new.past told low))
          (relayed_sent c key file new.past reads f.old (places_of c world.past) (world.replies c)
          (content_of file world.past) (content_of file new.past) middle reply sends.follows sends.tells
          (ap (content_of file) told.is ∙ sent_content c file middle)
          (relayed_later c key file world.past new.past reads f.old (places_of c world.past) (world.replies c)
          (content_of file world.past) later f.relay));
      bound = λ e. sends.bound (sym after ∙ e);
      acks_read = ⊎_elim
          (λ fewer. each_weaker (AckReads key (left_reads world c file))
          (AckReads key (reads_after key file reads (world.replies c ++ reply ∷ []))) (world.requests c)
          (acks_fewer key (left_reads world c file) (reads_after key file reads (world.replies c ++ reply ∷ []))
          (λ e. fewer (sym after ∙ e))) f.acks_read)
          (λ zero. no_acks_read key _ (world.requests c) zero) sends.fewer;
    })))

-- ---- replies that give nothing and break nothing

pub bare_reads : (key : List ℕ) (file : ℕ) (reads : Bool) (reply : Reply) → is_bare reply → reads_by key file reads reply ≡ reads
bare_reads key file reads (Reply.Created other id contexts) bare = absurd bare
bare_reads key file reads (Reply.Break notice) bare = absurd bare
bare_reads key file reads reply bare = refl

-- and tell of no content, nor of a change
abbrev pub is_still : Reply → Type 0
is_still (Reply.ReadDone file_id bytes) = ⊥
is_still (Reply.WriteDone file_id number) = ⊥
is_still reply = ⊤

pub still_follows : (c file : ℕ) (past : List Fact) (old new : List ℕ) (reply : Reply) → is_still reply → new ≡ old
    → Follows c file past old new reply
still_follows c file past old new (Reply.WriteDone id number) still e = absurd still
still_follows c file past old new reply still e = e

pub still_tells : (c : ℕ) (past place : List Fact) (reply : Reply) → is_still reply → TellsBytes c past place reply
still_tells c past place (Reply.ReadDone id bytes) still = absurd still
still_tells c past place reply still = tt

-- such a reply, with the content as it was
pub still_sends : (world new : World) (c : ℕ) (middle : List Fact) (reply : Reply) (file : ℕ) → is_still reply
    → content_of file middle ≡ content_of file world.past
    → (reads_by (file_key world c file) file (left_reads world c file) reply ≡ true
    → (ends_as (new.server.leases (machine_key world c file))).read ≡ true)
    → (reads_by (file_key world c file) file (left_reads world c file) reply ≡ true
    → left_reads world c file ≡ true) ⊎ (acks (file_key world c file) (world.requests c) ≡ 0)
    → SendsFresh world new c middle reply file
still_sends world new c middle reply file still same bound fewer = record {
  follows = λ from now reads. still_follows c file new.past from (content_of file middle) reply still (same ∙ now reads);
  tells = still_tells c new.past middle reply still;
  bound = bound;
  fewer = fewer;
}

-- ---- leases that may be gone

-- what stood stands, and of a lease that is gone no reads are left
pub gone_reads : (world : World) (c file : ℕ) → IsStandingAt world c
    → ((one : Open) → Among one world.server.opens → one.client ≡ c → IsOwnOpen (world.clients c).guid one)
    → world.server.expired (machine_key world c file) ≡ false
    → list_any (has_key (machine_key world c file)) world.server.opens ≡ false → left_reads world c file ≡ false
gone_reads world c file s own fresh none =
    let x = nothing_stands world c file s own fresh none in
    ap (λ b. reads_after (file_key world c file) file b (world.replies c))
    (not_live_reads ((world.clients c).entries file).phase x.0) ∙ after_none (file_key world c file) file (world.replies c) x.1
  where
    not_live_reads : (phase : Phase) → is_live phase ≡ false → (belief_in phase).read ≡ false
    not_live_reads (Phase.Live live) e = absurd (true≢false e)
    not_live_reads phase e = refl
