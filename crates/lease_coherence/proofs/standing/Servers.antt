-- What the server does leaves the opens of a client standing that it named and doesn't close.
use Rattle.lease_laws.proofs.Words.{◌++◌, ◌+◌, ◌==◌, ◌∙◌, ◌∷◌, ◌≡◌, ◌≤◌, Access, Among, Bool, Client, CreateAsk, FileRequest}
use Rattle.lease_laws.proofs.Words.{Held, IsAwaitedAt, Key, Lease, List, LiveEntry, None, Open, Patch, Phase, Reply, Request}
use Rattle.lease_laws.proofs.Words.{Share, Some, World, ℕ, [], ⊎_elim, ⊤, ap, arith, connected_again, eq-eqb, false, has_key}
use Rattle.lease_laws.proofs.Words.{inl, inr, is_key, key_eq, key_of, lease_after, lease_key, machine_key, map, new_open, not}
use Rattle.lease_laws.proofs.Words.{opened_count, own_key, put, refl, subst, sym, true, was_opened}
use Rattle.lease_laws.proofs.client.Thin.{put_same}
use Rattle.lease_laws.proofs.server.Keys.{is_key-one, is_key-refl, key_eq-refl, put_key-cases}
use Rattle.lease_laws.proofs.server.Lists.{among_before, among_behind, among_filtered, clash, either, if_cases, not_true}
use Rattle.lease_coherence.specs.Names.{Each, IsNamedAt, IsNamedPhase, IsNamedRequest}
use Rattle.lease_coherence.specs.Standing.{AllAsked, AskFits, FitsPhase, GivenWell, IsNoClose, IsOpenFor, IsStandingAt}
use Rattle.lease_coherence.specs.Standing.{NotClosed, PhaseStands, Stands, again_of}
use Rattle.lease_coherence.proofs.creates.Creates.{off_rest}
use Rattle.lease_coherence.proofs.moves.Deeds.{IsSource, changed_in, granted_in, granted_reply, held_in, leased_in}
use Rattle.lease_coherence.proofs.moves.Deeds.{reconnected_in, reconnected_reply, told_to, with_held, without_opens}
use Rattle.lease_coherence.proofs.moves.Events.{timed_out}
use Rattle.lease_coherence.proofs.moves.Foreign.{IsUnmoved, apart, false_not, map_kept}
use Rattle.lease_coherence.proofs.moves.Frames.{lease_put_rest}
use Rattle.lease_coherence.proofs.moves.Moves.{IsOldest, popped}
use Rattle.lease_coherence.proofs.moves.Own.{is_bare}
use Rattle.lease_coherence.proofs.names.NamedInRecord.{each_append, each_weaker, opened_within}
use Rattle.lease_coherence.proofs.names.Names.{IsCountedOff, awaits_parts}
use Rattle.lease_coherence.proofs.standing.StandingOpens.{IsFrame, asked_held, asked_off, asked_popped, asked_unmoved}
use Rattle.lease_coherence.proofs.standing.StandingOpens.{framed_at, framed_given}

-- an open that stays
pub stands_by : (world new : World) (c file file_id : ℕ) → new.clients c ≡ world.clients c
    → new.server.expired ≡ world.server.expired
    → ((one : Open) → one.client ≡ c → one.connected ≡ true → one.file_id ≡ file_id → Among one world.server.opens
    → Among one new.server.opens) → Stands world c file file_id → Stands new c file file_id
stands_by world new c file file_id machine expired kept s = ⊎_elim
    (λ out. inl (ap (λ (e : Key → Bool). e (machine_key new c file)) expired
    ∙ ap (λ (m : Client). world.server.expired (key_of c (lease_key m.guid file))) machine ∙ out))
    (λ o. inr (record {
      one = o.one;
      there = kept o.one o.by o.up o.id o.there;
      id = o.id;
      by = o.by;
      on_file = o.on_file;
      up = o.up;
    })) s

-- a server that leaves opens and timers alone
frame_same : (world new : World) (c : ℕ) → new.clients c ≡ world.clients c → new.server.expired ≡ world.server.expired
    → ((one : Open) → one.client ≡ c → one.connected ≡ true → Among one world.server.opens → Among one new.server.opens)
    → ((P : Request → Type 0) → AllAsked P world c → AllAsked P new c) → IsFrame world new c
frame_same world new c machine expired kept asked = record {
  machine = machine;
  stands = λ file file_id n s. stands_by world new c file file_id machine expired
      (λ one own up id a. kept one own up a) s;
  closes = λ file_id n. asked (IsNoClose file_id) n;
  asks = λ a. asked (AskFits (world.clients c)) a;
}

pub frame_off : (world off : World) (c : ℕ) (request : FileRequest) → IsSource world off c request → IsFrame world off c
frame_off world off c request source = ⊎_elim
    (λ a. subst (λ o. IsFrame world o c) (sym a.is_off)
    (frame_same world (popped world c) c refl refl (λ one own up x. x) (λ P x. asked_popped P world c x)))
    (λ h. frame_held h.file (h.before ++ h.behind) h.is_off) source.from
  where
    frame_held : (file : ℕ) (left : List Held) → off ≡ with_held world file left → IsFrame world off c
    frame_held file left is_off = record {
      machine = ap (λ (o : World). o.clients c) is_off;
      stands = λ at file_id n s. subst (λ o. Stands o c at file_id) (sym is_off)
          (stands_by world (with_held world file left) c at file_id refl refl (λ one own up id a. a) s);
      closes = λ file_id n. (asked_off (IsNoClose file_id) world off c request source n).0;
      asks = λ x. (asked_off (AskFits (world.clients c)) world off c request source x).0;
    }

-- a reply that gives nothing is sent
abbrev pub plain_reply : Reply → Type 0
plain_reply (Reply.Created file file_id contexts) = ⊥
plain_reply reply = ⊤

plain_well : (world : World) (c : ℕ) (reply : Reply) → plain_reply reply → GivenWell world c reply
plain_well world c (Reply.Created file file_id contexts) plain = absurd plain
plain_well world c (_) plain = tt

given_more : (world new : World) (c : ℕ) (reply : Reply) → IsFrame world new c
    → new.replies ≡ put world.replies c (world.replies c ++ reply ∷ []) → GivenWell new c reply
    → IsStandingAt world c → IsStandingAt new c
given_more world new c reply f replies well s = framed_at world new c f
    (subst (λ (r : ℕ → List Reply). Each (GivenWell new c) (r c)) (sym replies)
    (subst (Each (GivenWell new c)) (sym (put_same world.replies c (world.replies c ++ reply ∷ [])))
    (each_append (GivenWell new c) (world.replies c) (reply ∷ [])
    (each_weaker (GivenWell world c) (GivenWell new c) (world.replies c) (λ r w. framed_given world new c f r w) s.given)
    (well, tt)))) s

-- the part from which a request was taken off
pub off_standing : (world off : World) (c : ℕ) (request : FileRequest) → IsSource world off c request
    → IsStandingAt world c → IsStandingAt off c
off_standing world off c request source s = let f = frame_off world off c request source in
    framed_at world off c f
    (subst (λ (r : ℕ → List Reply). Each (GivenWell off c) (r c)) (sym (off_rest world off c request source).replies)
    (each_weaker (GivenWell world c) (GivenWell off c) (world.replies c) (λ r w. framed_given world off c f r w) s.given)) s

-- a plain reply, and nothing else
pub told_standing : (world : World) (c : ℕ) (reply : Reply) → plain_reply reply → IsStandingAt world c
    → IsStandingAt (told_to world c reply) c
told_standing world c reply plain s = given_more world (told_to world c reply) c reply
    (frame_same world (told_to world c reply) c refl refl (λ one own up a. a)
    (λ P a. record { queued = a.queued; held = a.held })) refl (plain_well _ c reply plain) s

pub bare_plain : (reply : Reply) → is_bare reply → plain_reply reply
bare_plain (Reply.Created file file_id contexts) bare = absurd bare
bare_plain reply bare = tt

-- ---- grants

-- no Close of a FileId that wasn't given yet
new_open_asked : (off : World) (c : ℕ) (counted : IsCountedOff off) → IsNamedAt off c → NotClosed off c (off.server.last_id + 1)
new_open_asked off c counted n = record {
  queued = each_weaker (IsNamedRequest c (off.clients c).guid off.past) (IsNoClose (off.server.last_id + 1))
      (off.requests c) request_low n.requests;
  held = λ file one a own. request_low (Request.OnFile one.request) (n.held file one a own).named;
}
  where
    request_low : (r : Request) → IsNamedRequest c (off.clients c).guid off.past r → IsNoClose (off.server.last_id + 1) r
    request_low (Request.OnFile (FileRequest.Close file_id)) named = λ same. omega (
      arith,
      subst (λ m. off.server.last_id + 1 ≤ m) (sym counted.last)
          (subst (λ m. m ≤ opened_count off.past) same (opened_within file_id named.file c off.past named.opened)),
    )
    request_low request named = tt

-- the FileId of a live entry was given
pub named_live : (world : World) (c file : ℕ) (live : LiveEntry) → IsNamedAt world c
    → ((world.clients c).entries file).phase ≡ Phase.Live live → was_opened live.file_id file c world.past ≡ true
named_live world c file live n is =
    let named : IsNamedPhase c file world.past (Phase.Live live) =
    subst (IsNamedPhase c file world.past) is (n.entries file).phase in named.0

-- a new open isn't that of a live entry
new_fits : (off : World) (c file : ℕ) → IsCountedOff off → IsNamedAt off c → again_of ((off.clients c).entries file).phase ≡ None
    → FitsPhase ((off.clients c).entries file).phase (off.server.last_id + 1)
new_fits off c file counted n plain = by_phase ((off.clients c).entries file).phase refl plain
  where
    no_some : (m : ℕ) → Some m ≡ None → ⊥
    no_some m e = cc

    by_phase : (phase : Phase) → ((off.clients c).entries file).phase ≡ phase → again_of phase ≡ None
        → FitsPhase phase (off.server.last_id + 1)
    by_phase (Phase.Live live) is e = λ same. omega (
      arith,
      subst (λ m. off.server.last_id + 1 ≤ m) (sym counted.last)
          (subst (λ m. m ≤ opened_count off.past) (sym same) (opened_within live.file_id file c off.past
          (named_live off c file live n is))),
    )
    by_phase (Phase.Reconnecting parted) is e = absurd (no_some parted.file_id e)
    by_phase phase is e = tt

pub granted_standing : (off : World) (c file : ℕ) (access : Access) (share : Share) (ask : CreateAsk) → IsCountedOff off
    → IsNamedAt off c → AskFits (off.clients c) (Request.OnFile (FileRequest.Create file access share (Some ask)))
    → ask.reconnect ≡ None → IsStandingAt off c
    → IsStandingAt (granted_in off c file access share ask (lease_after off.server c file ask.lease)) c
granted_standing off c file access share ask counted n fits none s =
    let lease = lease_after off.server c file ask.lease in
    let new = granted_in off c file access share ask lease in
    let one = new_open off.server c file access share ask.lease ask.durable lease in
    let f : IsFrame off new c = frame_same off new c refl
    (lease_put_rest off.server c ask.lease lease (λ x. x.expired ≡ off.server.expired) (λ l. refl))
    (λ o own up a. among_before o off.server.opens (one ∷ []) a)
    (λ P a. record {
      queued = a.queued;
      held = λ at x b own. a.held at x
          (lease_put_rest off.server c ask.lease lease (λ y. Among x (y.held at) → Among x (off.server.held at)) (λ l z. z) b)
          own;
    }) in
    given_more off new c (granted_reply off.server file ask lease) f refl (record {
      stands = inr (record {
        one = one;
        there = among_behind one off.server.opens (one ∷ []) (inl refl);
        id = refl;
        by = refl;
        on_file = refl;
        up = refl;
      });
      not_closed = f.closes (off.server.last_id + 1) (new_open_asked off c counted n);
      fits = new_fits off c file counted n (sym fits ∙ none);
    }) s

-- one that is connected stays as it is
pub again_up : (file_id : ℕ) (one : Open) → one.connected ≡ true → connected_again file_id one ≡ one
again_up file_id one up = if_cases (λ x. x ≡ one) (one.file_id == file_id) (record one { connected = true }) one
    (λ same. ap (λ b. record one { connected = b }) (sym up)) (λ other. refl)

-- an open that is connected again
pub reconnected_standing : (off : World) (c file : ℕ) (access : Access) (share : Share) (ask : CreateAsk) (file_id : ℕ)
    → AskFits (off.clients c) (Request.OnFile (FileRequest.Create file access share (Some ask)))
    → ask.reconnect ≡ Some file_id → IsAwaitedAt off.server c file (own_key c ask.lease) file_id → IsStandingAt off c
    → IsStandingAt (reconnected_in off c file ask file_id) c
reconnected_standing off c file access share ask file_id fits again waits s =
    let new = reconnected_in off c file ask file_id in
    let parts = awaits_parts c file (own_key c ask.lease) file_id waits.one waits.waits in
    let f : IsFrame off new c = frame_same off new c refl refl
    (λ o own up a. map_kept (connected_again file_id) o off.server.opens (again_up file_id o up) a)
    (λ P a. record { queued = a.queued; held = a.held }) in
    given_more off new c (reconnected_reply off.server c file ask file_id) f refl (record {
      stands = inr (again_there waits.one parts.id parts.by parts.on_file waits.is_there);
      not_closed = f.closes file_id (by_phase ((off.clients c).entries file).phase refl (sym fits ∙ again)).0;
      fits = (by_phase ((off.clients c).entries file).phase refl (sym fits ∙ again)).1;
    }) s
  where
    some_same : (m n : ℕ) → Some m ≡ Some n → n ≡ m
    some_same m n e = cc

    no_some : (m : ℕ) → None ≡ Some m → ⊥
    no_some m e = cc

    by_phase : (phase : Phase) → ((off.clients c).entries file).phase ≡ phase → again_of phase ≡ Some file_id
        → NotClosed off c file_id × FitsPhase phase file_id
    by_phase (Phase.Reconnecting parted) is e = let same = some_same parted.file_id file_id e in
        (subst (NotClosed off c) (sym same) (subst (PhaseStands off c file) is (s.phases file)), same)
    by_phase phase is e = absurd (no_some file_id e)

    again_there : (o : Open) → o.file_id ≡ file_id → o.client ≡ c → o.file ≡ file → Among o off.server.opens
        → IsOpenFor (reconnected_in off c file ask file_id) c file file_id
    again_there o id by on a = record {
      one = record o { connected = true };
      there = mapped off.server.opens a;
      id = id;
      by = by;
      on_file = on;
      up = refl;
    }
      where
        made : connected_again file_id o ≡ record o { connected = true }
        made = if_cases (λ x. x ≡ record o { connected = true }) (o.file_id == file_id) (record o { connected = true }) o
            (λ same. refl) (λ other. clash (o.file_id == file_id) (eq-eqb o.file_id file_id id) other)

        mapped : (opens : List Open) → Among o opens → Among (record o { connected = true }) (map (connected_again file_id) opens)
        mapped [] x = absurd x
        mapped (y ∷ opens) x = ⊎_elim (λ same. inl (sym made ∙ ap (connected_again file_id) same))
            (λ later. inr (mapped opens later)) x

-- opens are closed by their client
pub closed_standing : (world off : World) (c file_id : ℕ)
    → IsSource world off c (FileRequest.Close file_id) → IsStandingAt world c
    → IsStandingAt (told_to (without_opens off (λ other. other.file_id == file_id)) c (Reply.Closed file_id)) c
closed_standing world off c file_id source s =
    let test : Open → Bool = λ other. other.file_id == file_id in
    let new = told_to (without_opens off test) c (Reply.Closed file_id) in
    let off_frame = frame_off world off c (FileRequest.Close file_id) source in
    let f : IsFrame world new c = record {
      machine = off_frame.machine;
      stands = λ file id n x. stands_by off new c file id refl refl
          (λ one own up same a. among_filtered (λ o. not (test o)) one off.server.opens a
          (false_not (one.file_id == file_id) (apart one.file_id file_id
          (λ e. (asked_off (IsNoClose id) world off c (FileRequest.Close file_id) source n).1 (sym e ∙ same)))))
          (off_frame.stands file id n x);
      closes = λ id n. let m = off_frame.closes id n in record { queued = m.queued; held = m.held };
      asks = λ a. let m = off_frame.asks a in record { queued = m.queued; held = m.held };
    } in
    given_more world new c (Reply.Closed file_id) f
    (ap (λ (r : ℕ → List Reply). put r c (r c ++ Reply.Closed file_id ∷ [])) (off_rest world off c _ source).replies) tt s

-- opens that aren't connected are closed
pub dropped_standing : (world : World) (c : ℕ) (test : Open → Bool)
    → ((one : Open) → test one ≡ true → one.connected ≡ false) → IsStandingAt world c → IsStandingAt (without_opens world test) c
dropped_standing world c test away s =
    let new = without_opens world test in
    let f : IsFrame world new c = frame_same world new c refl refl
    (λ one own up a. among_filtered (λ o. not (test o)) one world.server.opens a
    (false_not (test one) (not_true (test one) (λ t. clash one.connected up (away one t)))))
    (λ P a. record { queued = a.queued; held = a.held }) in
    framed_at world new c f
    (each_weaker (GivenWell world c) (GivenWell new c) (world.replies c) (λ r w. framed_given world new c f r w) s.given) s

-- a lease changes, and its client is told
pub leased_standing : (world : World) (key : Key) (lease : Lease) (reply : Reply) → plain_reply reply
    → IsStandingAt world key.client → IsStandingAt (leased_in world key lease reply) key.client
leased_standing world key lease reply plain s = given_more world (leased_in world key lease reply) key.client reply
    (frame_same world (leased_in world key lease reply) key.client refl refl (λ one own up a. a)
    (λ P a. record { queued = a.queued; held = a.held })) refl (plain_well _ key.client reply plain) s

-- a file changes
pub changed_standing : (off : World) (c file file_id number : ℕ) (patch : Patch) → IsStandingAt off c
    → IsStandingAt (changed_in off c file file_id number patch) c
changed_standing off c file file_id number patch s =
    given_more off (changed_in off c file file_id number patch) c (Reply.WriteDone file_id number)
    (frame_same off (changed_in off c file file_id number patch) c refl refl (λ one own up a. a)
    (λ P a. record { queued = a.queued; held = a.held })) refl tt s

-- a request leaves its queue, or is held
pub popped_standing : (world : World) (c : ℕ) → IsStandingAt world c → IsStandingAt (popped world c) c
popped_standing world c s =
    let f = frame_same world (popped world c) c refl refl (λ one own up a. a) (λ P a. asked_popped P world c a) in
    framed_at world (popped world c) c f (each_weaker (GivenWell world c) (GivenWell (popped world c) c) (world.replies c)
    (λ r w. framed_given world (popped world c) c f r w) s.given) s

pub held_standing : (world : World) (file : ℕ) (one : Held) → IsOldest world one.client (Request.OnFile one.request)
    → IsStandingAt world one.client → IsStandingAt (held_in (popped world one.client) file one) one.client
held_standing world file one oldest s =
    let new = held_in (popped world one.client) file one in
    let f = frame_same world new one.client refl refl (λ o own up a. a) (λ P a. asked_held P world file one oldest a) in
    framed_at world new one.client f
    (each_weaker (GivenWell world one.client) (GivenWell new one.client) (world.replies one.client)
    (λ r w. framed_given world new one.client f r w) s.given) s

-- a timer runs out
pub timer_stands : (world : World) (c file : ℕ) → IsNamedAt world c → (at id : ℕ) → Stands world c at id
    → Stands (timed_out world c file) c at id
timer_stands world c file n at id x =
    let key = machine_key world c file in ⊎_elim
    (λ out. inl (put_key-cases (λ b. b ≡ true) world.server.expired key true (machine_key world c at)
    (λ same. refl) (λ there. out)))
    (λ o. either (has_key key o.one)
    (λ has. inl (put_key-cases (λ b. b ≡ true) world.server.expired key true (machine_key world c at)
    (λ same. refl) (λ there. absurd (none_other o has there))))
    (λ other. inr (record {
      one = o.one;
      there = among_filtered (λ y. not (has_key key y)) o.one world.server.opens o.there (false_not (has_key key o.one) other);
      id = o.id;
      by = o.by;
      on_file = o.on_file;
      up = o.up;
    }))) x
  where
    own_key_of : (o : IsOpenFor world c at id) → has_key (machine_key world c at) o.one ≡ true
    own_key_of o = subst (λ bytes. is_key (machine_key world c at) (o.one).client bytes ≡ true)
        (sym (n.opens o.one o.there o.by ∙ ap (λ f. Some (lease_key (world.clients c).guid f)) o.on_file))
        (subst (λ d. is_key (machine_key world c at) d (Some (lease_key (world.clients c).guid at)) ≡ true) (sym o.by)
        (is_key-refl c (lease_key (world.clients c).guid at)))

    none_other : (o : IsOpenFor world c at id) → has_key (machine_key world c file) o.one ≡ true
        → key_eq (machine_key world c at) (machine_key world c file) ≡ false → ⊥
    none_other o has there = clash (key_eq (machine_key world c at) (machine_key world c file))
        (ap (λ k. key_eq (machine_key world c at) k)
        (sym (is_key-one (machine_key world c at) (machine_key world c file) (o.one).client (o.one).lease_key
        (own_key_of o) has)) ∙ key_eq-refl (machine_key world c at)) there

pub timer_standing : (world : World) (c file : ℕ) → IsNamedAt world c → IsStandingAt world c
    → IsStandingAt (timed_out world c file) c
timer_standing world c file n s =
    let new = timed_out world c file in
    let f : IsFrame world new c = record {
      machine = refl;
      stands = λ at id open_so x. timer_stands world c file n at id x;
      closes = λ id m. record { queued = m.queued; held = m.held };
      asks = λ a. record { queued = a.queued; held = a.held };
    } in
    framed_at world new c f
    (each_weaker (GivenWell world c) (GivenWell new c) (world.replies c) (λ r w. framed_given world new c f r w) s.given) s

-- what others do
pub unmoved_standing : (world new : World) (c : ℕ) → IsUnmoved world new c → IsStandingAt world c → IsStandingAt new c
unmoved_standing world new c u s =
    let f : IsFrame world new c = record {
      machine = u.machine;
      stands = λ file id m x. ⊎_elim
          (λ out. inl (u.expired (machine_key new c file) refl
          ∙ ap (λ (k : Client). world.server.expired (key_of c (lease_key k.guid file))) u.machine ∙ out))
          (λ o. inr (record {
            one = o.one;
            there = u.kept o.one o.by o.there;
            id = o.id;
            by = o.by;
            on_file = o.on_file;
            up = o.up;
          })) x;
      closes = λ id m. asked_unmoved (IsNoClose id) world new c u m;
      asks = λ a. asked_unmoved (AskFits (world.clients c)) world new c u a;
    } in
    framed_at world new c f (subst (Each (GivenWell new c)) (sym u.replies)
    (each_weaker (GivenWell world c) (GivenWell new c) (world.replies c) (λ r w. framed_given world new c f r w) s.given)) s
