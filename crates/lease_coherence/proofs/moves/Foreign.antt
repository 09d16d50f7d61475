-- What others do leaves a client's part of a world alone: its queues, its requests that are held, its opens and its
-- leases. So what is said of one client has to be shown for its own moves alone.
use Rattle.lease_laws.proofs.Words.{◌++◌, ◌==◌, ◌||◌, ◌∙◌, ◌∷◌, ◌≡◌, ◌≢◌, Access, Among, Bool, CachesAlone, CreateAsk, Fact}
use Rattle.lease_laws.proofs.Words.{FileRequest, Held, IsFree, IsGivenUp, IsLawful, IsSound, Key, Lease, LeaseOf, List, None}
use Rattle.lease_laws.proofs.Words.{Open, Option, Patch, Reply, Server, Share, Some, State, World, ℕ, [], ⊎_elim, ap, eqb-true}
use Rattle.lease_laws.proofs.Words.{false, filter, has_key, has_own_key, held_of, if◌then◌else◌, inl, inr, is_key}
use Rattle.lease_laws.proofs.Words.{is_state_within, key_of, key_under, lease_put, list_any, map, new_open, no_lease, not}
use Rattle.lease_laws.proofs.Words.{nothing_cached, own_key, put, refl, subst, sym, true, true≢false, with_opens, without}
use Rattle.lease_laws.proofs.client.Thin.{put_other}
use Rattle.lease_laws.proofs.server.Keys.{put_key-cases}
use Rattle.lease_laws.proofs.server.Lists.{among_append, among_before, among_filter, among_filtered, among_map, and_parts}
use Rattle.lease_laws.proofs.server.Lists.{any_has, clash, has_any, if_cases, not_true}
use Rattle.lease_coherence.specs.Creates.{held_by}
use Rattle.lease_coherence.proofs.moves.Deeds.{IsSource, changed_in, granted_in, leased_in, told_to, with_held, without_opens}
use Rattle.lease_coherence.proofs.moves.Events.{Ground, not_chosen}
use Rattle.lease_coherence.proofs.moves.Moves.{popped}
use Rattle.lease_coherence.proofs.moves.Spared.{HasNoReader, HasNoWriter, IsSpared, ends_as, ends_by, spared_fact, spared_same}
use Rattle.lease_coherence.proofs.moves.Spared.{spared_then, spared_two}
use Rattle.lease_coherence.proofs.records.Later.{IsLater, later_fact, later_same, later_then, later_two}

-- a key's client is that of its open
pub key_client : (key : Key) (one : Open) → has_key key one ≡ true → key.client ≡ one.client
key_client key one e = parts one.lease_key e
  where
    parts : (bytes : Option (List ℕ)) → is_key key one.client bytes ≡ true → key.client ≡ one.client
    parts None never = absurd (true≢false (sym never))
    parts (Some bytes) e = eqb-true key.client one.client (and_parts _ _ e).0

-- a client's part of a world stays as it is
pub record IsUnmoved (world : World) (new : World) (client : ℕ) : Type 0 where
  pub later : IsLater world.past new.past
  pub spared : IsSpared client world.server.opens world.server.leases world.past new.past
  pub machine : new.clients client ≡ world.clients client
  pub link : new.links client ≡ world.links client
  pub requests : new.requests client ≡ world.requests client
  pub replies : new.replies client ≡ world.replies client
  pub held : (file : ℕ) → held_by client (new.server.held file) ≡ held_by client (world.server.held file)
  pub kept : (one : Open) → one.client ≡ client → Among one world.server.opens → Among one new.server.opens
  pub from : (one : Open) → one.client ≡ client → Among one new.server.opens → Among one world.server.opens
  pub leases : (key : Key) → key.client ≡ client → new.server.leases key ≡ world.server.leases key
  pub expired : (key : Key) → key.client ≡ client → new.server.expired key ≡ world.server.expired key

pub unmoved_same : (world : World) (client : ℕ) → IsUnmoved world world client
unmoved_same world client = record {
  later = later_same world.past;
  spared = spared_same client world.server.opens world.server.leases world.past;
  machine = refl;
  link = refl;
  requests = refl;
  replies = refl;
  held = λ file. refl;
  kept = λ one own a. a;
  from = λ one own a. a;
  leases = λ key own. refl;
  expired = λ key own. refl;
}

pub unmoved_then : (a b c : World) (client : ℕ) → IsUnmoved a b client → IsUnmoved b c client → IsUnmoved a c client
unmoved_then a b c client h k = record {
  later = later_then a.past b.past c.past h.later k.later;
  spared = spared_then client a.server.opens b.server.opens a.server.leases b.server.leases a.past b.past c.past h.kept
      (λ key one own has. h.leases key (key_client key one has ∙ own)) h.spared k.spared;
  machine = k.machine ∙ h.machine;
  link = k.link ∙ h.link;
  requests = k.requests ∙ h.requests;
  replies = k.replies ∙ h.replies;
  held = λ file. k.held file ∙ h.held file;
  kept = λ one own x. k.kept one own (h.kept one own x);
  from = λ one own x. h.from one own (k.from one own x);
  leases = λ key own. k.leases key own ∙ h.leases key own;
  expired = λ key own. k.expired key own ∙ h.expired key own;
}

-- ---- words

pub apart : (a b : ℕ) → a ≢ b → (a == b) ≡ false
apart a b ne = not_true (a == b) (λ e. ne (eqb-true a b e))

pub false_not : (b : Bool) → b ≡ false → not b ≡ true
false_not true e = let x : ⊥ = cc in absurd x
false_not false e = refl

-- one of another client is taken off, or put behind
pub filter_off : (test : Held → Bool) (before behind : List Held) (one : Held) → test one ≡ false
    → filter test (before ++ behind) ≡ filter test (before ++ one ∷ behind)
filter_off test [] behind one e = sym (not_chosen (test one) (one ∷ filter test behind) (filter test behind) e)
filter_off test (x ∷ before) behind one e = ap (λ l. if test x then x ∷ l else l) (filter_off test before behind one e)

pub filter_last : (test : Held → Bool) (held : List Held) (one : Held) → test one ≡ false
    → filter test (held ++ one ∷ []) ≡ filter test held
filter_last test [] one e = not_chosen (test one) (one ∷ []) [] e
filter_last test (x ∷ held) one e = ap (λ l. if test x then x ∷ l else l) (filter_last test held one e)

pub filter_twice : (test keep : Held → Bool) (held : List Held) → ((x : Held) → test x ≡ true → keep x ≡ true)
    → filter test (filter keep held) ≡ filter test held
filter_twice test keep [] stays = refl
filter_twice test keep (x ∷ held) stays = if_cases
    (λ l. filter test l ≡ filter test (x ∷ held)) (keep x) (x ∷ filter keep held) (filter keep held)
    (λ kept. ap (λ l. if test x then x ∷ l else l) (filter_twice test keep held stays))
    (λ gone. filter_twice test keep held stays ∙ sym (not_chosen (test x) (x ∷ filter test held) (filter test held)
    (not_true (test x) (λ passes. clash (keep x) (stays x passes) gone))))

-- ---- what may be granted or changed for another

-- the key of a request is its client's
own_client : (client : ℕ) (asked : Option LeaseOf) (c : ℕ) (one : Open) → client ≢ c → one.client ≡ c
    → has_own_key (own_key client asked) one ≡ false
own_client client None c one ne own = refl
own_client client (Some asked) c one ne own = not_true (has_key (key_of client asked.key) one)
    (λ has. ne (key_client (key_of client asked.key) one has ∙ own))

-- where another opens a file, no lease of this client's opens holds writes
pub free_no_writer : (opens : List Open) (leases : Key → Lease) (client : ℕ) (asked : Option LeaseOf) (file : ℕ)
    (access : Access) (share : Share) (c : ℕ) → client ≢ c
    → IsFree opens leases (own_key client asked) file access share → HasNoWriter c opens leases file
free_no_writer opens leases client asked file access share c ne free key one own there on has =
    free.unwritten key one there on (own_client client asked c one ne own) has

-- where another changes it, none holds writes or is left with reads
pub change_no_writer : (server : Server) (one : Open) (c : ℕ) → one.client ≢ c → IsSound server
    → Among one server.opens → HasNoWriter c server.opens server.leases one.file
change_no_writer server one c ne sound there key mine own is on has = not_true (server.leases key).state.write
    (λ writes. ne (sym (key_client key one (sound.one_writer key mine one writes is has there (sym on)))
    ∙ key_client key mine has ∙ own))

open_client : (one : Open) (bytes : Option (List ℕ)) → one.lease_key ≡ bytes → (c : ℕ) (mine : Open)
    → one.client ≢ c → mine.client ≡ c → has_own_key (key_under one.client bytes) mine ≡ false
open_client one None e c mine ne own = refl
open_client one (Some bytes) e c mine ne own = not_true (has_key (key_of one.client bytes) mine)
    (λ has. ne (key_client (key_of one.client bytes) mine has ∙ own))

given_up : (lease : Lease) → IsLawful lease → IsGivenUp lease → (ends_as lease).read ≡ false
given_up lease lawful up = by_end lease.broken_to refl
  where
    by_end : (to : Option State) → lease.broken_to ≡ to → (ends_by to lease.state).read ≡ false
    by_end None e = ⊎_elim (λ nothing. ap (λ (s : State). s.read) nothing)
        (λ breaks. absurd (never (sym e ∙ breaks))) up
      where
        never : None ≡ Some nothing_cached → ⊥
        never x = cc
    by_end (Some lowered) e = ⊎_elim
        (λ nothing. less lowered (lawful.is_broken_so lowered e).is_part nothing)
        (λ breaks. ap (λ (s : State). s.read) (one lowered (sym e ∙ breaks))) up
      where
        one : (s : State) → Some s ≡ Some nothing_cached → s ≡ nothing_cached
        one s x = cc

        less : (s : State) → is_state_within s lease.state ≡ true → lease.state ≡ nothing_cached → s.read ≡ false
        less s within nothing = not_true s.read (λ reads. clash lease.state.read
            (both s.read lease.state.read (and_parts _ _ (and_parts _ _ within).0).0 reads) (ap (λ (x : State). x.read) nothing))
          where
            both : (a b : Bool) → (not a || b) ≡ true → a ≡ true → b ≡ true
            both true b e f = e
            both false b e f = absurd (true≢false (sym f))

pub change_no_reader : (server : Server) (one : Open) (c : ℕ) → one.client ≢ c → IsSound server
    → CachesAlone server one → HasNoReader c server.opens server.leases one.file
change_no_reader server one c ne sound alone key mine own is on has = given_up (server.leases key) (sound.lawful key)
    (alone key mine is on (open_client one one.lease_key refl c mine ne own) has)

-- ---- steps of the server for another

pub unmoved_told : (world : World) (client : ℕ) (reply : Reply) (c : ℕ) → client ≢ c
    → IsUnmoved world (told_to world client reply) c
unmoved_told world client reply c ne = let s = unmoved_same world c in record {
  later = later_fact world.past (Fact.Sent client);
  spared = spared_fact c world.server.opens world.server.leases (Fact.Sent client) world.past ne;
  machine = refl;
  link = refl;
  requests = refl;
  replies = put_other world.replies client _ c (λ e. ne (sym e));
  held = s.held;
  kept = s.kept;
  from = s.from;
  leases = s.leases;
  expired = s.expired;
}

pub unmoved_popped : (world : World) (client c : ℕ) → client ≢ c → IsUnmoved world (popped world client) c
unmoved_popped world client c ne = let s = unmoved_same world c in record {
  later = s.later;
  spared = s.spared;
  machine = refl;
  link = refl;
  requests = put_other world.requests client _ c (λ e. ne (sym e));
  replies = refl;
  held = s.held;
  kept = s.kept;
  from = s.from;
  leases = s.leases;
  expired = s.expired;
}

-- the requests held on a file change by one of another client
pub unmoved_held : (world : World) (file : ℕ) (left : List Held) (c : ℕ)
    → held_by c left ≡ held_by c (world.server.held file) → IsUnmoved world (with_held world file left) c
unfolding put
unmoved_held world file left c same = let s = unmoved_same world c in record {
  later = s.later;
  spared = s.spared;
  machine = refl;
  link = refl;
  requests = refl;
  replies = refl;
  held = λ at. if_cases (λ l. held_by c l ≡ held_by c (world.server.held at)) (at == file) left (world.server.held at)
      (λ here. same ∙ ap (λ n. held_by c (world.server.held n)) (sym (eqb-true at file here))) (λ there. refl);
  kept = s.kept;
  from = s.from;
  leases = s.leases;
  expired = s.expired;
}

pub unmoved_off : (world off : World) (client : ℕ) (request : FileRequest) (c : ℕ)
    → IsSource world off client request → client ≢ c → IsUnmoved world off c
unmoved_off world off client request c source ne = ⊎_elim
    (λ a. subst (λ o. IsUnmoved world o c) (sym a.is_off) (unmoved_popped world client c ne))
    (λ h. subst (λ o. IsUnmoved world o c) (sym h.is_off) (unmoved_held world h.file (h.before ++ h.behind) c
    (filter_off (λ one. one.client == c) h.before h.behind (held_of client request h.lane) (apart client c ne)
    ∙ ap (held_by c) (sym h.held)))) source.from

-- the server of the part from which a request was taken off is known as the whole one is
pub off_ground : (world off : World) (client : ℕ) (request : FileRequest) → IsSource world off client request
    → Ground world → (key : Key) → list_any (has_key key) off.server.opens ≡ false → off.server.leases key ≡ no_lease
off_ground world off client request source g = ⊎_elim
    (λ a. subst (λ o. (key : Key) → list_any (has_key key) o.server.opens ≡ false → o.server.leases key ≡ no_lease)
    (sym a.is_off) (λ key e. g.fine.sound.no_open key e))
    (λ h. subst (λ o. (key : Key) → list_any (has_key key) o.server.opens ≡ false → o.server.leases key ≡ no_lease)
    (sym h.is_off) (λ key e. g.fine.sound.no_open key e)) source.from

pub off_sound : (world off : World) (client : ℕ) (request : FileRequest) → IsSource world off client request
    → IsSound world.server → IsSound off.server
off_sound world off client request source sound = ⊎_elim
    (λ a. subst (λ (o : World). IsSound o.server) (sym a.is_off) (same sound))
    (λ h. subst (λ (o : World). IsSound o.server) (sym h.is_off) (same sound)) source.from
  where
    same : IsSound world.server → IsSound world.server
    same s = s

-- ---- opens and leases of others

-- opens of others change
pub unmoved_opens : (world : World) (opens : List Open) (c : ℕ)
    → ((key : Key) → list_any (has_key key) world.server.opens ≡ false → world.server.leases key ≡ no_lease)
    → ((one : Open) → one.client ≡ c → Among one world.server.opens → Among one opens)
    → ((one : Open) → one.client ≡ c → Among one opens → Among one world.server.opens)
    → IsUnmoved world (record world { server = with_opens world.server opens }) c
unmoved_opens world opens c law kept from = let s = unmoved_same world c in record {
  later = s.later;
  spared = s.spared;
  machine = refl;
  link = refl;
  requests = refl;
  replies = refl;
  held = s.held;
  kept = kept;
  from = from;
  leases = λ key own. if_cases (λ l. l ≡ world.server.leases key)
      (list_any (has_key key) opens) (world.server.leases key) no_lease (λ there. refl)
      (λ gone. sym (law key (not_true (list_any (has_key key) world.server.opens)
      (λ was. let x = any_has (has_key key) world.server.opens was in
      clash (list_any (has_key key) opens)
      (has_any (has_key key) x.0 opens (kept x.0 (sym (key_client key x.0 x.2) ∙ own) x.1) x.2) gone))));
  expired = s.expired;
}

-- opens of others are dropped
pub unmoved_without : (world : World) (test : Open → Bool) (c : ℕ)
    → ((key : Key) → list_any (has_key key) world.server.opens ≡ false → world.server.leases key ≡ no_lease)
    → ((one : Open) → one.client ≡ c → Among one world.server.opens → test one ≡ false)
    → IsUnmoved world (without_opens world test) c
unmoved_without world test c law stays = unmoved_opens world (without test world.server.opens) c law
    (λ one own a. among_filtered (λ x. not (test x)) one world.server.opens a (false_not (test one) (stays one own a)))
    (λ one own a. (among_filter (λ x. not (test x)) one world.server.opens a).0)

-- a lease of another
pub unmoved_leased : (world : World) (key : Key) (lease : Lease) (reply : Reply) (c : ℕ) → key.client ≢ c
    → IsUnmoved world (leased_in world key lease reply) c
unmoved_leased world key lease reply c ne = let s = unmoved_same world c in record {
  later = later_fact world.past (Fact.Sent key.client);
  spared = spared_fact c world.server.opens world.server.leases (Fact.Sent key.client) world.past ne;
  machine = refl;
  link = refl;
  requests = refl;
  replies = put_other world.replies key.client _ c (λ e. ne (sym e));
  held = s.held;
  kept = s.kept;
  from = s.from;
  leases = λ other own. put_key-cases (λ l. l ≡ world.server.leases other) world.server.leases key lease other
      (λ same. absurd (ne (sym (ap (λ (k : Key). k.client) same) ∙ own))) (λ there. refl);
  expired = s.expired;
}

pub unmoved_granted : (world : World) (client file : ℕ) (access : Access) (share : Share) (ask : CreateAsk) (lease : Lease)
    (c : ℕ) → client ≢ c → HasNoWriter c world.server.opens world.server.leases file
    → IsUnmoved world (granted_in world client file access share ask lease) c
unmoved_granted world client file access share ask lease c ne none = let s = unmoved_same world c in record {
  later = later_two world.past (Fact.Opened file client) (Fact.Sent client);
  spared = spared_two c world.server.opens world.server.leases (Fact.Opened file client) (Fact.Sent client) world.past none ne;
  machine = refl;
  link = refl;
  requests = refl;
  replies = put_other world.replies client _ c (λ e. ne (sym e));
  held = λ at. held_same ask.lease at;
  kept = λ one own a. among_before one world.server.opens _ a;
  from = λ one own a. ⊎_elim (λ old. old)
      (λ new. ⊎_elim (λ same. absurd (ne (sym (ap (λ (o : Open). o.client) same) ∙ own))) (λ none. absurd none) new)
      (among_append one world.server.opens (new_open world.server client file access share ask.lease ask.durable lease ∷ []) a);
  leases = λ key own. lease_same ask.lease key own;
  expired = λ key own. expired_same ask.lease key;
}
  where
    held_same : (asked : Option LeaseOf) (at : ℕ)
        → held_by c ((lease_put world.server client asked lease).held at) ≡ held_by c (world.server.held at)
    held_same None at = refl
    held_same (Some x) at = refl

    expired_same : (asked : Option LeaseOf) (key : Key)
        → (lease_put world.server client asked lease).expired key ≡ world.server.expired key
    expired_same None key = refl
    expired_same (Some x) key = refl

    lease_same : (asked : Option LeaseOf) (key : Key) → key.client ≡ c
        → (lease_put world.server client asked lease).leases key ≡ world.server.leases key
    lease_same None key own = refl
    lease_same (Some x) key own = put_key-cases (λ l. l ≡ world.server.leases key) world.server.leases
        (key_of client x.key) lease key
        (λ same. absurd (ne (sym (ap (λ (k : Key). k.client) same) ∙ own))) (λ there. refl)

-- an open that stays as it is while others are mapped
pub map_kept : (f : Open → Open) (one : Open) (opens : List Open) → f one ≡ one → Among one opens → Among one (map f opens)
map_kept f one [] same a = absurd a
map_kept f one (x ∷ opens) same a = ⊎_elim (λ e. inl (sym same ∙ ap f e)) (λ later. inr (map_kept f one opens same later)) a

pub unmoved_mapped : (world : World) (f : Open → Open) (c : ℕ)
    → ((one : Open) → one.client ≡ c → Among one world.server.opens → f one ≡ one) → ((one : Open) → (f one).client ≡ one.client)
    → IsUnmoved world (record world { server = record world.server { opens = map f world.server.opens } }) c
unmoved_mapped world f c same client = let s = unmoved_same world c in record {
  later = s.later;
  spared = s.spared;
  machine = refl;
  link = refl;
  requests = refl;
  replies = refl;
  held = s.held;
  kept = λ one own a. map_kept f one world.server.opens (same one own a) a;
  from = λ one own a. let x = among_map f one world.server.opens a in
      let mine = sym (client x.0) ∙ sym (ap (λ (o : Open). o.client) x.2) ∙ own in
      subst (λ o. Among o world.server.opens) (sym (x.2 ∙ same x.0 mine x.1)) x.1;
  leases = s.leases;
  expired = s.expired;
}

pub unmoved_content : (world : World) (client file file_id number : ℕ) (patch : Patch) (c : ℕ) → client ≢ c
    → HasNoWriter c world.server.opens world.server.leases file → HasNoReader c world.server.opens world.server.leases file
    → IsUnmoved world (changed_in world client file file_id number patch) c
unmoved_content world client file file_id number patch c ne none blind = let s = unmoved_same world c in record {
  later = later_two world.past (Fact.Changed file client number patch) (Fact.Sent client);
  spared = spared_two c world.server.opens world.server.leases (Fact.Changed file client number patch)
      (Fact.Sent client) world.past (none, blind) ne;
  machine = refl;
  link = refl;
  requests = refl;
  replies = put_other world.replies client _ c (λ e. ne (sym e));
  held = s.held;
  kept = s.kept;
  from = s.from;
  leases = s.leases;
  expired = s.expired;
}
