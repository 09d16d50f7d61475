-- What the server does for a client leaves its writes safe: each move by itself.
use Rattle.lease_laws.proofs.Words.{◌++◌, ◌∙◌, ◌∷◌, ◌≡◌, Bool, FileRequest, Key, Lease, None, Open, Patch, Reply, Some, State}
use Rattle.lease_laws.proofs.Words.{World, ℕ, [], ⊎_elim, ap, break_notice, false, is_up, knows_file, machine_key}
use Rattle.lease_laws.proofs.Words.{needs_acknowledgment, not, refl, subst, sym, true}
use Rattle.lease_laws.proofs.client.Thin.{put_same}
use Rattle.lease_laws.proofs.server.Keys.{put_key-cases}
use Rattle.lease_laws.proofs.server.Lists.{among_filter, clash, true_or}
use Rattle.lease_coherence.specs.Names.{IsNamedAt}
use Rattle.lease_coherence.proofs.late.Likes.{changed_past, grants_like, same_past, sent_past}
use Rattle.lease_coherence.proofs.late.SafeWrites.{GrantSafe, GrantsSafe, IsLike, IsNotLate, IsSafeAt, IsSafeUp, KnowsIds}
use Rattle.lease_coherence.proofs.late.SafeWrites.{StillHolds, holds_write}
use Rattle.lease_coherence.proofs.late.Servers.{all_hold, closing_holds, entries_like, grant_bare, grants_more, itself}
use Rattle.lease_coherence.proofs.late.Servers.{off_safe, up_like}
use Rattle.lease_coherence.proofs.moves.Deeds.{IsSource, changed_in, leased_in, told_to, without_opens}
use Rattle.lease_coherence.proofs.moves.Own.{is_bare, link_of}

-- ---- a move that leaves all as it was

pub like_late : (off new : World) (c : ℕ) → IsLike off new c → KnowsIds off c → StillHolds off new c → IsNamedAt off c
    → new.requests c ≡ off.requests c → new.server.held ≡ off.server.held → new.links c ≡ off.links c
    → (is_up (off.links c) ≡ true → IsSafeUp off c → (file : ℕ) → knows_file (off.clients c) file ≡ true
    → GrantsSafe new c file ((off.clients c).entries file).sent [] (new.replies c)) → IsNotLate off c → IsNotLate new c
like_late off new c like ids holds n requests held link grants a = record {
  entries = entries_like off new c like ids n (all_hold off new c holds) a.entries;
  up = λ up. let was = ap is_up (sym link) ∙ up in
      up_like off new c like ids holds n requests held (grants was (a.up was)) (a.up was);
}

-- with one reply more
pub replied_late : (off new : World) (c : ℕ) (reply : Reply) → IsLike off new c → KnowsIds off c → StillHolds off new c
    → IsNamedAt off c → new.requests c ≡ off.requests c → new.server.held ≡ off.server.held
    → new.links c ≡ off.links c → new.replies c ≡ off.replies c ++ reply ∷ []
    → (is_up (off.links c) ≡ true → (file : ℕ) → knows_file (off.clients c) file ≡ true
    → GrantSafe new c file ((off.clients c).entries file).sent (off.replies c) reply) → IsNotLate off c → IsNotLate new c
replied_late off new c reply like ids holds n requests held link replies last a =
    like_late off new c like ids holds n requests held link
    (λ up u file known. grants_more off new c reply file like ids n replies (last up file known) u known) a

-- with as many
pub unsent_late : (off new : World) (c : ℕ) → IsLike off new c → KnowsIds off c → StillHolds off new c
    → IsNamedAt off c → new.requests c ≡ off.requests c → new.server.held ≡ off.server.held
    → new.links c ≡ off.links c → new.replies c ≡ off.replies c → IsNotLate off c → IsNotLate new c
unsent_late off new c like ids holds n requests held link replies a = like_late off new c like ids holds n requests held link
    (λ up u file known. let sent = ((off.clients c).entries file).sent in
    subst (GrantsSafe new c file sent []) (sym replies)
    (grants_like off new c file like ids sent [] (off.replies c) n.replies (u.given file known))) a

-- ---- a request is taken off

pub off_late : (world off : World) (c : ℕ) (request : FileRequest) → IsSource world off c request → KnowsIds world c
    → IsNamedAt world c → IsNotLate world c → IsNotLate off c
off_late world off c request source ids n a = record {
  entries = ⊎_elim (λ h. subst (λ o. IsSafeAt o c) (sym h.is_off) a.entries)
      (λ h. subst (λ o. IsSafeAt o c) (sym h.is_off) a.entries) source.from;
  up = λ up. off_safe world off c request source ids n (a.up (link_of world off c request source up));
}

-- ---- a reply that gives nothing

pub told_like : (world : World) (c : ℕ) (reply : Reply) → IsLike world (told_to world c reply) c
told_like world c reply = record {
  machine = refl;
  past = sent_past c c world.past;
  from = λ x there by low. itself world x there;
  timely = λ file x there by on e. e;
}

pub told_late : (off : World) (c : ℕ) (reply : Reply) → is_bare reply → KnowsIds off c → IsNamedAt off c
    → IsNotLate off c → IsNotLate (told_to off c reply) c
told_late off c reply bare ids n a = let new = told_to off c reply in
    replied_late off new c reply (told_like off c reply) ids (λ file x there by on h. h) n refl refl refl
    (put_same off.replies c (off.replies c ++ reply ∷ []))
    (λ up file known. grant_bare new c file ((off.clients c).entries file).sent (off.replies c) reply bare) a

-- ---- a file is changed by the client itself

pub changed_late : (off : World) (c file file_id number : ℕ) (patch : Patch) → KnowsIds off c → IsNamedAt off c
    → IsNotLate off c → IsNotLate (changed_in off c file file_id number patch) c
changed_late off c file file_id number patch ids n a = let new = changed_in off c file file_id number patch in
    replied_late off new c (Reply.WriteDone file_id number) (record {
      machine = refl;
      past = changed_past c file number patch off.past;
      from = λ x there by low. itself off x there;
      timely = λ f x there by on e. e;
    }) ids (λ f x there by on h. h) n refl refl refl
    (put_same off.replies c (off.replies c ++ Reply.WriteDone file_id number ∷ [])) (λ up f known. tt) a

-- ---- opens are closed

closing_like : (world : World) (c : ℕ) (test : Open → Bool) → IsLike world (without_opens world test) c
closing_like world c test = record {
  machine = refl;
  past = same_past c world.past;
  from = λ x there by low. itself world x (among_filter (λ o. not (test o)) x world.server.opens there).0;
  timely = λ file x there by on e. e;
}

still_closing : (world : World) (c : ℕ) (test : Open → Bool) → IsNamedAt world c → StillHolds world (without_opens world test) c
still_closing world c test n file x there by on h =
    ap (λ (l : Lease). l.state.write) (closing_holds world test c n.opens file x there by on) ∙ h

pub dropped_late : (world : World) (c : ℕ) (test : Open → Bool) → KnowsIds world c → IsNamedAt world c
    → IsNotLate world c → IsNotLate (without_opens world test) c
dropped_late world c test ids n a = unsent_late world (without_opens world test) c (closing_like world c test) ids
    (still_closing world c test n) n refl refl refl refl a

-- ---- a lease is lowered, or begins to break

leased_like : (world : World) (key : Key) (lease : Lease) (reply : Reply)
    → IsLike world (leased_in world key lease reply) key.client
leased_like world key lease reply = record {
  machine = refl;
  past = sent_past key.client key.client world.past;
  from = λ x there by low. itself world x there;
  timely = λ file x there by on e. e;
}

leased_late : (world : World) (key : Key) (lease : Lease) (current lowered : State) → KnowsIds world key.client
    → IsNamedAt world key.client
    → ((world.server.leases key).state.write ≡ true → lease.state.write ≡ true) → IsNotLate world key.client
    → IsNotLate (leased_in world key lease (break_notice key current lowered)) key.client
leased_late world key lease current lowered ids n keeps a =
    let reply = break_notice key current lowered in
    let new = leased_in world key lease reply in
    replied_late world new key.client reply (leased_like world key lease reply) ids
    (λ file x there by on. put_key-cases (λ (l : Lease). holds_write world key.client file ≡ true → l.state.write ≡ true)
    world.server.leases key lease (machine_key world key.client file)
    (λ same h. keeps (ap (λ k. (world.server.leases k).state.write) (sym same) ∙ h)) (λ other h. h)) n refl refl refl
    (put_same world.replies key.client (world.replies key.client ++ reply ∷ [])) (λ up file known. tt) a

pub lower_late : (world : World) (key : Key) (lowered : State) → KnowsIds world key.client
    → IsNamedAt world key.client → needs_acknowledgment (world.server.leases key).state ≡ false → IsNotLate world key.client
    → IsNotLate (leased_in world key (record { state = lowered; broken_to = None })
    (break_notice key (world.server.leases key).state lowered)) key.client
lower_late world key lowered ids n light a =
    leased_late world key (record { state = lowered; broken_to = None }) (world.server.leases key).state lowered ids n
    (λ w. clash (needs_acknowledgment (world.server.leases key).state)
    (true_or ((world.server.leases key).state.write) ((world.server.leases key).state.handle) w) light) a

pub begin_late : (world : World) (key : Key) (lowered : State) → KnowsIds world key.client
    → IsNamedAt world key.client → IsNotLate world key.client → IsNotLate (leased_in world key (record {
      state = (world.server.leases key).state;
      broken_to = Some lowered;
    }) (break_notice key (world.server.leases key).state lowered)) key.client
begin_late world key lowered ids n a =
    leased_late world key (record { state = (world.server.leases key).state; broken_to = Some lowered })
    (world.server.leases key).state lowered ids n (λ w. w) a
