-- What the server sends to a client keeps its trust, where the lease of each file bears it.
use Rattle.lease_laws.proofs.Words.{◌&&◌, ◌++◌, ◌==◌, ◌||◌, ◌∙◌, ◌∷◌, ◌≡◌, Among, Bool, Client, FileRequest, IsLowered, Key}
use Rattle.lease_laws.proofs.Words.{Lease, List, MayLower, None, Open, Patch, Reply, Some, State, World, ℕ, [], ⊎_elim, ap}
use Rattle.lease_laws.proofs.Words.{break_notice, bytes_eq, eq-eqb, false, granted_form_of, is_breaking, is_state_within}
use Rattle.lease_laws.proofs.Words.{key_eq, key_of, lease_key, machine_key, needs_acknowledgment, not, nothing_cached, refl}
use Rattle.lease_laws.proofs.Words.{same_state, subst, sym, true, true≢false}
use Rattle.lease_laws.proofs.client.Thin.{put_same}
use Rattle.lease_laws.proofs.server.Keys.{put_key-cases}
use Rattle.lease_laws.proofs.server.Lists.{and_both, and_parts, clash, not_true}
use Rattle.lease_coherence.specs.Agreement.{lone_break, reads_alone}
use Rattle.lease_coherence.specs.Names.{Each}
use Rattle.lease_coherence.proofs.beliefs.Grants.{granted_formed}
use Rattle.lease_coherence.proofs.beliefs.OneFile.{IsExplained, IsHeldBy, break_explained, lone_explained, plain_explained}
use Rattle.lease_coherence.proofs.beliefs.OneLease.{GivesNothing, LowersWell, OnGiven, is_ack_break}
use Rattle.lease_coherence.proofs.beliefs.Trust.{HasTrust, file_key, off_trusted, trusted_by}
use Rattle.lease_coherence.proofs.creates.Creates.{off_rest}
use Rattle.lease_coherence.proofs.moves.Deeds.{IsSource, changed_in, leased_in, told_to}
use Rattle.lease_coherence.proofs.moves.Own.{is_bare}
use Rattle.lease_coherence.proofs.names.NamedInRecord.{each_append}

-- ---- one more reply

pub record IsSentTo (world : World) (new : World) (c : ℕ) (reply : Reply) : Type 0 where
  pub machine : new.clients c ≡ world.clients c
  pub requests : new.requests c ≡ world.requests c
  pub held : new.server.held ≡ world.server.held
  pub kept : (one : Open) → one.client ≡ c → one.connected ≡ true → Among one world.server.opens → Among one new.server.opens
  pub expired : new.server.expired ≡ world.server.expired
  pub replies : new.replies c ≡ world.replies c ++ reply ∷ []

-- what is believed of a file after it
abbrev pub LeaseBears : World → World → ℕ → Reply → ℕ → Type 0
LeaseBears world new c reply file = IsExplained (file_key world c file) file (world.server.leases (machine_key world c file))
    ((world.clients c).entries file).phase (world.requests c) (world.replies c)
    → IsExplained (file_key world c file) file (new.server.leases (machine_key world c file))
    ((world.clients c).entries file).phase (world.requests c) (world.replies c ++ reply ∷ [])

pub sent_trusted : (world new : World) (c : ℕ) (reply : Reply) → IsSentTo world new c reply → LowersWell reply
    → ((file : ℕ) → world.server.expired (machine_key world c file) ≡ false → LeaseBears world new c reply file)
    → HasTrust world c → HasTrust new c
sent_trusted world new c reply s formed bears t = record {
  lowered = subst (Each LowersWell) (sym s.replies)
      (each_append LowersWell (world.replies c) (reply ∷ []) t.lowered (formed, tt));
  files = λ file fresh. let was = still_fresh file fresh in
      trusted_by world new c file s.machine s.requests s.held s.kept
      (subst (IsExplained (file_key world c file) file (new.server.leases (machine_key world c file))
      ((world.clients c).entries file).phase (world.requests c)) (sym s.replies)
      (bears file was (t.files file was).explained)) (t.files file was);
}
  where
    still_fresh : (file : ℕ) → new.server.expired (machine_key new c file) ≡ false
        → world.server.expired (machine_key world c file) ≡ false
    still_fresh file fresh = ap (λ (e : Key → Bool). e (machine_key world c file)) (sym s.expired)
        ∙ ap (λ (m : Client). new.server.expired (key_of c (lease_key m.guid file))) (sym s.machine) ∙ fresh

-- ---- replies that give nothing and break nothing

bare_given : (T : State → Type 0) (key : List ℕ) (file : ℕ) (reply : Reply) → is_bare reply → OnGiven T key file reply
bare_given T key file (Reply.Created other file_id contexts) bare = absurd bare
bare_given T key file (_) bare = tt

bare_break : (key : List ℕ) (reply : Reply) → is_bare reply → is_ack_break key reply ≡ false
bare_break key (Reply.Break notice) bare = absurd bare
bare_break key (_) bare = refl

bare_lowers : (reply : Reply) → is_bare reply → LowersWell reply
bare_lowers (Reply.Break notice) bare = absurd bare
bare_lowers (_) bare = tt

-- the lease as it was
pub bare_bears : (world new : World) (c : ℕ) (reply : Reply) (file : ℕ) → is_bare reply
    → new.server.leases (machine_key world c file) ≡ world.server.leases (machine_key world c file)
    → LeaseBears world new c reply file
bare_bears world new c reply file bare same b = subst
    (λ (l : Lease). IsExplained (file_key world c file) file l ((world.clients c).entries file).phase (world.requests c)
    (world.replies c ++ reply ∷ [])) (sym same)
    (plain_explained (file_key world c file) file (world.server.leases (machine_key world c file))
    ((world.clients c).entries file).phase (world.requests c) (world.replies c) reply
    (bare_given (IsHeldBy (file_key world c file) (world.server.leases (machine_key world c file)).state)
    (file_key world c file) file reply bare)
    (λ breaks. bare_given GivesNothing (file_key world c file) file reply bare) (bare_break (file_key world c file) reply bare) b)

pub bare_trusted : (world new : World) (c : ℕ) (reply : Reply) → is_bare reply → IsSentTo world new c reply
    → new.server.leases ≡ world.server.leases → HasTrust world c → HasTrust new c
bare_trusted world new c reply bare s leases t = sent_trusted world new c reply s (bare_lowers reply bare)
    (λ file fresh. bare_bears world new c reply file bare (ap (λ (l : Key → Lease). l (machine_key world c file)) leases)) t

-- a reply, and nothing else
pub told_trusted : (world : World) (c : ℕ) (reply : Reply) → is_bare reply → HasTrust world c → HasTrust (told_to world c reply) c
told_trusted world c reply bare t = bare_trusted world (told_to world c reply) c reply bare (record {
  machine = refl;
  requests = refl;
  held = refl;
  kept = λ one own up a. a;
  expired = refl;
  replies = put_same world.replies c (world.replies c ++ reply ∷ []);
}) refl t

-- a file is changed
pub changed_trusted : (off : World) (c file file_id number : ℕ) (patch : Patch)
    → HasTrust off c → HasTrust (changed_in off c file file_id number patch) c
changed_trusted off c file file_id number patch t =
    bare_trusted off (changed_in off c file file_id number patch) c (Reply.WriteDone file_id number) tt (record {
      machine = refl;
      requests = refl;
      held = refl;
      kept = λ one own up a. a;
      expired = refl;
      replies = put_same off.replies c (off.replies c ++ Reply.WriteDone file_id number ∷ []);
    }) refl t

-- a request leaves its place
pub off_fresh : (world off : World) (c file : ℕ) (request : FileRequest) → IsSource world off c request
    → off.server.expired (machine_key off c file) ≡ false → world.server.expired (machine_key world c file) ≡ false
off_fresh world off c file request source = ⊎_elim
    (λ x. subst (λ (o : World). o.server.expired (machine_key o c file) ≡ false
    → world.server.expired (machine_key world c file) ≡ false) (sym x.is_off) (λ e. e))
    (λ h. subst (λ (o : World). o.server.expired (machine_key o c file) ≡ false
    → world.server.expired (machine_key world c file) ≡ false) (sym h.is_off) (λ e. e)) source.from

pub off_trust : (world off : World) (c : ℕ) (request : FileRequest) → IsSource world off c request
    → HasTrust world c → HasTrust off c
off_trust world off c request source t = record {
  lowered = subst (λ (r : ℕ → List Reply). Each LowersWell (r c)) (sym (off_rest world off c request source).replies) t.lowered;
  files = λ file fresh. off_trusted world off c file request source
      (t.files file (off_fresh world off c file request source fresh));
}

-- ---- breaks

-- a lease is put, and its client told
leased_sent : (world : World) (key : Key) (lease : Lease) (reply : Reply)
    → IsSentTo world (leased_in world key lease reply) key.client reply
leased_sent world key lease reply = record {
  machine = refl;
  requests = refl;
  held = refl;
  kept = λ one own up a. a;
  expired = refl;
  replies = put_same world.replies key.client (world.replies key.client ++ reply ∷ []);
}

lowers_well : (key : Key) (state lowered : State) → granted_form_of lowered ≡ lowered
    → LowersWell (break_notice key state lowered)
lowers_well key state lowered form = granted_formed lowered form

-- what is a proper part of a state that holds no writes and no handles is nothing, and the state holds reads
lowered_alone : (state lowered : State) → IsLowered state lowered → needs_acknowledgment state ≡ false
    → (state ≡ reads_alone) × (lowered ≡ nothing_cached)
lowered_alone state lowered may light = by_parts state.read state.write state.handle lowered.read lowered.write
    lowered.handle may.is_part may.is_less light
  where
    by_parts : (r w h lr lw lh : Bool)
        → is_state_within (record { read = lr; write = lw; handle = lh }) (record { read = r; write = w; handle = h }) ≡ true
        → same_state (record { read = lr; write = lw; handle = lh }) (record { read = r; write = w; handle = h }) ≡ false
        → needs_acknowledgment (record { read = r; write = w; handle = h }) ≡ false
        → (record { read = r; write = w; handle = h } ≡ reads_alone)
        × (record { read = lr; write = lw; handle = lh } ≡ nothing_cached)
    by_parts r true h lr lw lh part less light = absurd (true≢false light)
    by_parts r false true lr lw lh part less light = absurd (true≢false light)
    by_parts r false false lr true lh part less light = absurd (no_write (not lr || r) (not lh || false) part)
      where
        no_write : (a b : Bool) → ((a && false) && b) ≡ true → ⊥
        no_write a b e = true≢false (sym (and_parts a false (and_parts (a && false) b e).0).1)
    by_parts r false false lr false true part less light = absurd (true≢false (sym (and_parts _ _ part).1))
    by_parts false false false true false false part less light = absurd (true≢false (sym part))
    by_parts false false false false false false part less light = absurd (true≢false less)
    by_parts true false false true false false part less light = absurd (true≢false less)
    by_parts true false false false false false part less light = (refl, refl)

same_keys : (world : World) (key : Key) (file : ℕ) → bytes_eq (file_key world key.client file) key.bytes ≡ true
    → key_eq (machine_key world key.client file) key ≡ true
unfolding key_eq
same_keys world key file e = and_both (key.client == key.client) (bytes_eq (file_key world key.client file) key.bytes)
    (eq-eqb key.client key.client refl) e

-- a break of another key
other_break : (world : World) (key : Key) (state lowered : State) (file : ℕ)
    → key_eq (machine_key world key.client file) key ≡ false
    → is_ack_break (file_key world key.client file) (break_notice key state lowered) ≡ false
other_break world key state lowered file other =
    not_true (needs_acknowledgment state && bytes_eq (file_key world key.client file) key.bytes)
    (λ both. clash (key_eq (machine_key world key.client file) key) (same_keys world key file (and_parts _ _ both).1) other)

-- no acknowledgment is asked for: the lease held reads alone
pub lower_trusted : (world : World) (key : Key) (lowered : State) → MayLower world.server key lowered
    → needs_acknowledgment (world.server.leases key).state ≡ false → HasTrust world key.client
    → HasTrust (leased_in world key (record { state = lowered; broken_to = None })
    (break_notice key (world.server.leases key).state lowered)) key.client
lower_trusted world key lowered may light t =
    let c = key.client in
    let new_lease : Lease = record { state = lowered; broken_to = None } in
    let state = (world.server.leases key).state in
    let reply = break_notice key state lowered in
    let alone = lowered_alone state lowered may.is_lowered light in
    sent_trusted world (leased_in world key new_lease reply) c reply (leased_sent world key new_lease reply)
    (lowers_well key state lowered may.is_lowered.is_granted_form)
    (λ file fresh e. put_key-cases (λ (l : Lease). IsExplained (file_key world c file) file l
    ((world.clients c).entries file).phase (world.requests c) (world.replies c ++ reply ∷ []))
    world.server.leases key new_lease (machine_key world c file)
    (λ same. subst (λ r. IsExplained (file_key world c file) file new_lease ((world.clients c).entries file).phase
    (world.requests c) (world.replies c ++ r ∷ [])) (sym (is_lone file same alone.0 alone.1))
    (lone_explained (file_key world c file) file (world.server.leases (machine_key world c file)) new_lease
    ((world.clients c).entries file).phase (world.requests c) (world.replies c)
    (ap (λ k. is_breaking (world.server.leases k)) same ∙ may.is_settled)
    (ap (λ k. (world.server.leases k).state) same ∙ alone.0) refl e))
    (λ other. plain_explained (file_key world c file) file (world.server.leases (machine_key world c file))
    ((world.clients c).entries file).phase (world.requests c) (world.replies c) reply tt (λ breaks. tt)
    (other_break world key state lowered file other) e)) t
  where
    is_lone : (file : ℕ) → machine_key world key.client file ≡ key → (world.server.leases key).state ≡ reads_alone
        → lowered ≡ nothing_cached
        → break_notice key (world.server.leases key).state lowered ≡ lone_break (file_key world key.client file)
    is_lone file same one none = ap (λ s. break_notice key s lowered) one ∙ ap (λ s. break_notice key reads_alone s) none
        ∙ ap (λ (k : Key). break_notice k reads_alone nothing_cached) (sym same)

-- an acknowledgment is awaited
pub begin_trusted : (world : World) (key : Key) (lowered : State) → MayLower world.server key lowered → HasTrust world key.client
    → HasTrust (leased_in world key (record { state = (world.server.leases key).state; broken_to = Some lowered })
    (break_notice key (world.server.leases key).state lowered)) key.client
begin_trusted world key lowered may t =
    let c = key.client in
    let state = (world.server.leases key).state in
    let new_lease : Lease = record { state = state; broken_to = Some lowered } in
    let reply = break_notice key state lowered in
    sent_trusted world (leased_in world key new_lease reply) c reply (leased_sent world key new_lease reply)
    (lowers_well key state lowered may.is_lowered.is_granted_form)
    (λ file fresh e. put_key-cases (λ (l : Lease). IsExplained (file_key world c file) file l
    ((world.clients c).entries file).phase (world.requests c) (world.replies c ++ reply ∷ []))
    world.server.leases key new_lease (machine_key world c file)
    (λ same. break_explained (file_key world c file) file (world.server.leases (machine_key world c file)) new_lease
    ((world.clients c).entries file).phase (world.requests c) (world.replies c) reply
    (ap (λ k. is_breaking (world.server.leases k)) same ∙ may.is_settled) refl
    (ap (λ k. (world.server.leases k).state) (sym same)) (λ T. tt) (λ is. refl) e)
    (λ other. plain_explained (file_key world c file) file (world.server.leases (machine_key world c file))
    ((world.clients c).entries file).phase (world.requests c) (world.replies c) reply tt (λ breaks. tt)
    (other_break world key state lowered file other) e)) t
