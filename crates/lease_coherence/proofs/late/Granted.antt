-- Grants, reconnects, closed opens and timers leave a client's writes safe.
use Rattle.lease_laws.proofs.Words.{◌++◌, ◌==◌, ◌∙◌, ◌∷◌, ◌≡◌, ◌≤◌, Access, Among, Bool, CreateAsk, FileRequest, IsFree}
use Rattle.lease_laws.proofs.Words.{IsSound, Lease, LeaseOf, Open, Pending, Reply, Share, Some, World, ℕ, [], ⊎_elim, ap, arith}
use Rattle.lease_laws.proofs.Words.{connected_again, false, has_key, is_breaking, is_touched, is_up, key_of, knows_file}
use Rattle.lease_laws.proofs.Words.{lease_after, lease_granted, lease_key, machine_key, new_open, not, own_key, refl, subst}
use Rattle.lease_laws.proofs.Words.{sym, true}
use Rattle.lease_laws.proofs.client.Thin.{put_same}
use Rattle.lease_laws.proofs.server.Keys.{put_key-cases}
use Rattle.lease_laws.proofs.server.Lists.{among_append, among_filter, among_map, clash, if_cases, not_parts, not_true}
use Rattle.lease_coherence.specs.Names.{IsNamedAt}
use Rattle.lease_coherence.proofs.beliefs.Given.{own_named}
use Rattle.lease_coherence.proofs.beliefs.Grants.{grant_keeps}
use Rattle.lease_coherence.proofs.beliefs.Trust.{file_key}
use Rattle.lease_coherence.proofs.late.Likes.{expired_past, opened_past, sent_past}
use Rattle.lease_coherence.proofs.late.Moves.{replied_late, unsent_late}
use Rattle.lease_coherence.proofs.late.SafeWrites.{IsLike, IsNotLate, KnowsIds, given_writes, holds_write}
use Rattle.lease_coherence.proofs.late.Servers.{closing_holds, expired_nothing, given_so, gives_timely, itself, own_has_key}
use Rattle.lease_coherence.proofs.moves.Deeds.{IsSource, granted_in, granted_reply, reconnected_in, reconnected_reply, told_to}
use Rattle.lease_coherence.proofs.moves.Deeds.{without_opens}
use Rattle.lease_coherence.proofs.moves.Events.{timed_out}
use Rattle.lease_coherence.proofs.writes.Counts.{settling}

-- writes that were sent, and that no reply on its way settles, are safe
abbrev pub SentClean : World → ℕ → Type 0
SentClean world c = (file : ℕ) → knows_file (world.clients c) file ≡ true
    → world.server.expired (machine_key world c file) ≡ false → (write : Pending)
    → Among write ((world.clients c).entries file).sent → settling write.number (world.replies c) ≡ 0
    → is_touched c file write.number world.past ≡ false

pub off_clean : (world off : World) (c : ℕ) (request : FileRequest) → IsSource world off c request → SentClean world c
    → SentClean off c
off_clean world off c request source s = ⊎_elim (λ a. subst (λ o. SentClean o c) (sym a.is_off) s)
    (λ h. subst (λ o. SentClean o c) (sym h.is_off) s) source.from

-- ---- a new open

granted_like : (off : World) (c file : ℕ) (access : Access) (share : Share) (ask : CreateAsk) (asked : LeaseOf) (lease : Lease)
    → IsLike off (granted_in off c file access share (record ask { lease = Some asked }) lease) c
granted_like off c file access share ask asked lease = record {
  machine = refl;
  past = opened_past c file off.past;
  from = λ x there by low. ⊎_elim (λ old. itself off x old)
      (λ new. ⊎_elim (λ same. absurd (omega (arith, subst (λ n. n ≤ off.server.last_id) (ap (λ (o : Open). o.file_id) same) low)))
      (λ none. absurd none) new)
      (among_append x off.server.opens (new_open off.server c file access share (Some asked) ask.durable lease ∷ []) there);
  timely = λ f x there by on e. e;
}

granted_asked : (off : World) (c file : ℕ) (access : Access) (share : Share) (ask : CreateAsk) (asked : LeaseOf)
    → asked.key ≡ lease_key (off.clients c).guid file → IsSound off.server
    → IsFree off.server.opens off.server.leases (Some (key_of c asked.key)) file access share
    → KnowsIds off c → IsNamedAt off c → (is_up (off.links c) ≡ true → SentClean off c) → IsNotLate off c
    → IsNotLate (granted_in off c file access share (record ask { lease = Some asked })
    (lease_granted off.server (key_of c asked.key) file asked.state)) c
granted_asked off c file access share ask asked named sound free ids n clean a =
    let key = key_of c asked.key in
    let lease = lease_granted off.server key file asked.state in
    let told : CreateAsk = record ask { lease = Some asked } in
    let reply = granted_reply off.server file told lease in
    let new = granted_in off c file access share told lease in
    replied_late off new c reply (granted_like off c file access share ask asked lease) ids
    (λ at x there by on. put_key-cases (λ (l : Lease). holds_write off c at ≡ true → l.state.write ≡ true)
    off.server.leases key lease (machine_key off c at) (λ same h. still
    (ap (λ k. (off.server.leases k).state.write) (sym same) ∙ h))
    (λ other h. h)) n refl refl refl (put_same off.replies c (off.replies c ++ reply ∷ []))
    (λ up at known same x there by id. let mine = own_named off c file at asked named same in record {
      timely = λ gives. ap off.server.expired mine ∙ fresh at gives;
      clean = λ gives write there buffered none. (opened_past c file off.past).touched at write.number
          ∙ clean up at known (ap off.server.expired mine
          ∙ fresh at (given_so (file_key off c at) asked.key lease gives)) write there none;
    }) a
  where
    still : (off.server.leases (key_of c asked.key)).state.write ≡ true
        → (lease_granted off.server (key_of c asked.key) file asked.state).state.write ≡ true
    still h = (grant_keeps off.server (key_of c asked.key) file asked.state access share sound free
        (not_true (off.server.expired (key_of c asked.key)) (λ out. clash (off.server.leases (key_of c asked.key)).state.write h
        (ap (λ (l : Lease). l.state.write) (sound.timed_out (key_of c asked.key) out))))).writes h

    fresh : (at : ℕ) → given_writes (file_key off c at) (Some (record {
      key = asked.key;
      state = (lease_granted off.server (key_of c asked.key) file asked.state).state;
      in_progress = is_breaking (lease_granted off.server (key_of c asked.key) file asked.state);
    })) ≡ true → off.server.expired (key_of c asked.key) ≡ false
    fresh at gives = gives_timely (file_key off c at) asked.key
        (lease_granted off.server (key_of c asked.key) file asked.state) (off.server.expired (key_of c asked.key))
        (λ out. expired_nothing off.server (key_of c asked.key) file asked.state sound out) gives

pub granted_late : (off : World) (c file : ℕ) (access : Access) (share : Share) (ask : CreateAsk) (asked : LeaseOf)
    → ask.lease ≡ Some asked → asked.key ≡ lease_key (off.clients c).guid file → IsSound off.server
    → IsFree off.server.opens off.server.leases (own_key c ask.lease) file access share
    → KnowsIds off c → IsNamedAt off c → (is_up (off.links c) ≡ true → SentClean off c) → IsNotLate off c
    → IsNotLate (granted_in off c file access share ask (lease_after off.server c file ask.lease)) c
granted_late off c file access share ask asked e named sound free ids n clean a = subst
    (λ o. IsFree off.server.opens off.server.leases (own_key c o) file access share
    → IsNotLate (granted_in off c file access share (record ask { lease = o }) (lease_after off.server c file o)) c) (sym e)
    (λ f. granted_asked off c file access share ask asked named sound f ids n clean a) free

-- ---- a durable open

again_like : (off : World) (c file : ℕ) (ask : CreateAsk) (file_id : ℕ) → IsLike off (reconnected_in off c file ask file_id) c
again_like off c file ask file_id = record {
  machine = refl;
  past = sent_past c c off.past;
  from = λ x there by low. let was = among_map (connected_again file_id) x off.server.opens there in record {
    was = was.0;
    there = was.1;
    id = sym (same was.0 (λ o. o.file_id) (λ o. refl)) ∙ ap (λ (o : Open). o.file_id) (sym was.2);
    file = sym (same was.0 (λ o. o.file) (λ o. refl)) ∙ ap (λ (o : Open). o.file) (sym was.2);
    client = sym (same was.0 (λ o. o.client) (λ o. refl)) ∙ ap (λ (o : Open). o.client) (sym was.2);
  };
  timely = λ f x there by on e. e;
}
  where
    same : (one : Open) (f : Open → ℕ) → ((o : Open) → f (record o { connected = true }) ≡ f o)
        → f (connected_again file_id one) ≡ f one
    same one f still = if_cases (λ o. f o ≡ f one) (one.file_id == file_id) (record one { connected = true }) one
        (λ here. still one) (λ other. refl)

reconnected_asked : (off : World) (c file : ℕ) (ask : CreateAsk) (file_id : ℕ) (asked : LeaseOf)
    → asked.key ≡ lease_key (off.clients c).guid file → IsSound off.server
    → KnowsIds off c → IsNamedAt off c → (is_up (off.links c) ≡ true → SentClean off c) → IsNotLate off c
    → IsNotLate (reconnected_in off c file (record ask { lease = Some asked }) file_id) c
reconnected_asked off c file ask file_id asked named sound ids n clean a =
    let key = key_of c asked.key in
    let lease = off.server.leases key in
    let told : CreateAsk = record ask { lease = Some asked } in
    let reply = reconnected_reply off.server c file told file_id in
    let new = reconnected_in off c file told file_id in
    replied_late off new c reply (again_like off c file told file_id) ids (λ at x there by on h. h) n refl refl refl
    (put_same off.replies c (off.replies c ++ reply ∷ []))
    (λ up at known same x there by id. let mine = own_named off c file at asked named same in record {
      timely = λ gives. ap off.server.expired mine ∙ fresh at gives;
      clean = λ gives write there buffered none. (sent_past c c off.past).touched at write.number
          ∙ clean up at known (ap off.server.expired mine
          ∙ fresh at (given_so (file_key off c at) asked.key lease gives)) write there none;
    }) a
  where
    fresh : (at : ℕ) → given_writes (file_key off c at) (Some (record {
      key = asked.key;
      state = (off.server.leases (key_of c asked.key)).state;
      in_progress = is_breaking (off.server.leases (key_of c asked.key));
    })) ≡ true → off.server.expired (key_of c asked.key) ≡ false
    fresh at gives = gives_timely (file_key off c at) asked.key (off.server.leases (key_of c asked.key))
        (off.server.expired (key_of c asked.key))
        (λ out. let none = sound.timed_out (key_of c asked.key) out in
        (ap is_breaking none, ap (λ (l : Lease). l.state.write) none)) gives

pub reconnected_late : (off : World) (c file : ℕ) (ask : CreateAsk) (file_id : ℕ) (asked : LeaseOf)
    → ask.lease ≡ Some asked → asked.key ≡ lease_key (off.clients c).guid file → IsSound off.server
    → KnowsIds off c → IsNamedAt off c → (is_up (off.links c) ≡ true → SentClean off c) → IsNotLate off c
    → IsNotLate (reconnected_in off c file ask file_id) c
reconnected_late off c file ask file_id asked e named sound ids n clean a = subst
    (λ o. IsNotLate (reconnected_in off c file (record ask { lease = o }) file_id) c) (sym e)
    (reconnected_asked off c file ask file_id asked named sound ids n clean a)

-- ---- an open that its client closes

pub closed_late : (off : World) (c file_id : ℕ) → KnowsIds off c → IsNamedAt off c → IsNotLate off c
    → IsNotLate (told_to (without_opens off (λ other. other.file_id == file_id)) c (Reply.Closed file_id)) c
closed_late off c file_id ids n a =
    let test : Open → Bool = λ other. other.file_id == file_id in
    let new = told_to (without_opens off test) c (Reply.Closed file_id) in
    replied_late off new c (Reply.Closed file_id) (record {
      machine = refl;
      past = sent_past c c off.past;
      from = λ x there by low. itself off x (among_filter (λ o. not (test o)) x off.server.opens there).0;
      timely = λ file x there by on e. e;
    }) ids (λ file x there by on h. ap (λ (l : Lease). l.state.write) (closing_holds off test c n.opens file x there by on) ∙ h)
    n refl refl refl (put_same off.replies c (off.replies c ++ Reply.Closed file_id ∷ [])) (λ up file known. tt) a

-- ---- a timer

pub timer_late : (world : World) (c at : ℕ) → KnowsIds world c → IsNamedAt world c → IsNotLate world c
    → IsNotLate (timed_out world c at) c
timer_late world c at ids n a =
    let key = machine_key world c at in
    let new = timed_out world c at in
    let was : (x : Open) → Among x new.server.opens → Among x world.server.opens × (not (has_key key x) ≡ true) =
    λ x there. among_filter (λ o. not (has_key key o)) x world.server.opens there in
    unsent_late world new c (record {
      machine = refl;
      past = expired_past c c at world.past;
      from = λ x there by low. itself world x (was x there).0;
      timely = λ file x there by on. put_key-cases (λ b. world.server.expired (machine_key world c file) ≡ false → b ≡ false)
          world.server.expired key true (machine_key world c file)
          (λ same e. clash (has_key key x)
          (subst (λ k. has_key k x ≡ true) same (own_has_key world c file x by on (n.opens x (was x there).0 by)))
          (not_parts (has_key key x) (was x there).1))
          (λ other e. e);
    }) ids (λ file x there by on h.
    ap (λ (l : Lease). l.state.write) (closing_holds world (has_key key) c n.opens file x there by on) ∙ h)
    n refl refl refl refl a
