-- What the server does for a client leaves what it holds of a file's bytes fresh.
use Rattle.lease_laws.proofs.Words.{◌&&◌, ◌++◌, ◌+◌, ◌==◌, ◌∙◌, ◌∷◌, ◌≡◌, ◌≤◌, Access, Among, Bool, CreateAsk, Fact}
use Rattle.lease_laws.proofs.Words.{FileRequest, Key, Lease, LeaseOf, List, None, Open, Option, Patch, Reply, Request, Share}
use Rattle.lease_laws.proofs.Words.{Some, State, Status, World, ℕ, [], ap, arith, break_notice, bytes_eq, bytes_eq-Decides}
use Rattle.lease_laws.proofs.Words.{connected_open, content_of, eq-eqb, eqb-true, false, granted_form_of, has_strayed}
use Rattle.lease_laws.proofs.Words.{has_written, if◌then◌else◌, inl, inr, is_breaking, is_some, is_up, key_eq, key_of}
use Rattle.lease_laws.proofs.Words.{lease_after, lease_granted, lease_key, length, machine_key, nothing_cached, refl}
use Rattle.lease_laws.proofs.Words.{refusal_of, sendings, subst, sym, takings, true, true≢false, was_opened}
use Rattle.lease_state.specs.Content.{patch as patched}
use Rattle.lease_laws.proofs.client.Thin.{put_same}
use Rattle.lease_laws.proofs.server.Keys.{key_eq-refl, put_key-cases}
use Rattle.lease_laws.proofs.server.Lists.{and_parts, clash, either, if_cases}
use Rattle.lease_laws.proofs.server.cases.Ends.{found_open}
use Rattle.lease_coherence.specs.Names.{Each, IsNamedAt, IsOwnOpen, WasWrittenOn}
use Rattle.lease_coherence.proofs.beliefs.Forms.{keys_apart}
use Rattle.lease_coherence.proofs.beliefs.Grants.{grant_breaking, grant_settled}
use Rattle.lease_coherence.proofs.beliefs.Leases.{settled_none}
use Rattle.lease_coherence.proofs.beliefs.Trust.{HasTrust, file_key}
use Rattle.lease_coherence.proofs.fresh.Contents.{HasContents}
use Rattle.lease_coherence.proofs.fresh.FreshBytes.{AckReads, Follows, IsFreshFor, given_reads, reads_by}
use Rattle.lease_coherence.proofs.fresh.Sent.{IsFreshIn, IsToldIn, IsToldTo, bare_reads, is_still, left_reads, sent_fresh}
use Rattle.lease_coherence.proofs.fresh.Sent.{still_sends}
use Rattle.lease_coherence.proofs.layers.Layers.{HasRecord}
use Rattle.lease_coherence.proofs.moves.Deeds.{IsSource, changed_in, done_reply, granted_in, granted_reply, leased_in}
use Rattle.lease_coherence.proofs.moves.Deeds.{reconnected_in, reconnected_reply, told_to}
use Rattle.lease_coherence.proofs.moves.Events.{Ground}
use Rattle.lease_coherence.proofs.moves.Frames.{from_source, lease_put_rest}
use Rattle.lease_coherence.proofs.moves.Moves.{IsOldest, popped, rest_of}
use Rattle.lease_coherence.proofs.moves.Own.{is_bare}
use Rattle.lease_coherence.proofs.moves.Spared.{ends_as, ends_by}
use Rattle.lease_coherence.proofs.names.NamedInRecord.{each_rest, opened_once}
use Rattle.lease_coherence.proofs.names.Names.{off_counted, off_named}
use Rattle.lease_coherence.proofs.records.Later.{later_fact, later_same}
use Rattle.lease_coherence.proofs.writes.Answered.{names_of}

pub own_of : (world : World) → HasRecord world → (c : ℕ) → has_strayed c world.past ≡ false
    → (one : Open) → Among one world.server.opens → one.client ≡ c → IsOwnOpen (world.clients c).guid one
own_of world v c good one there by = (names_of world v c good).opens one there by

pub low_of : (world : World) → Ground world → (c : ℕ) → is_up (world.links c) ≡ true
    → takings c world.past ≤ length (sendings c world.past)
low_of world g c up = let e = (g.tied c).counted up in (omega (arith, e))

-- ---- the part from which a request was taken off

pub popped_fresh : (world : World) (c file : ℕ) → IsFreshIn world c file → IsFreshIn (popped world c) c file
popped_fresh world c file f = subst
    (λ q. IsFreshFor c (file_key world c file) file (world.server.leases (machine_key world c file))
    ((world.clients c).entries file).phase q (world.replies c) world.past)
    (sym (put_same world.requests c (rest_of (world.requests c)))) (record {
      old = f.old;
      base = f.base;
      relay = f.relay;
      bound = f.bound;
      acks_read = each_rest (AckReads (file_key world c file) (left_reads world c file)) (world.requests c) f.acks_read;
    })

pub off_fresh_in : (world off : World) (c file : ℕ) (request : FileRequest) → IsSource world off c request
    → IsFreshIn world c file → IsFreshIn off c file
off_fresh_in world off c file request source f = from_source world off c request
    (λ o. IsFreshIn o c file) source (popped_fresh world c file f) (λ at left. f)

pub off_low : (world off : World) (c : ℕ) (request : FileRequest) → IsSource world off c request
    → takings c world.past ≤ length (sendings c world.past) → takings c off.past ≤ length (sendings c off.past)
off_low world off c request source low = from_source world off c request
    (λ (o : World). takings c o.past ≤ length (sendings c o.past)) source low (λ at left. low)

pub off_contents : (world off : World) (c : ℕ) (request : FileRequest) → IsSource world off c request → HasContents world
    → HasContents off
off_contents world off c request source h = from_source world off c request HasContents source h (λ at left. h)

-- ---- a reply that gives nothing and tells nothing

pub plain_sent : (world : World) (c : ℕ) (reply : Reply) → IsToldTo world (told_to world c reply) c reply
plain_sent world c reply = record {
  machine = refl;
  requests = refl;
  replies = put_same world.replies c (world.replies c ++ reply ∷ []);
}

pub plain_told : (c : ℕ) (past : List Fact) → IsToldIn c past past (Fact.Sent c ∷ past)
plain_told c past = record { is = refl; later = later_same past; sent = refl; took = refl }

pub told_fresh : (world : World) (c : ℕ) (reply : Reply) (file : ℕ) → is_bare reply → is_still reply
    → takings c world.past ≤ length (sendings c world.past) → IsFreshIn world c file → IsFreshIn (told_to world c reply) c file
told_fresh world c reply file bare still low f = sent_fresh world (told_to world c reply) c world.past reply
    (plain_sent world c reply) (plain_told c world.past) low file
    (still_sends world (told_to world c reply) c world.past reply file still refl
    (λ e. f.bound (sym (bare_reads (file_key world c file) file (left_reads world c file) reply bare) ∙ e))
    (inl (λ e. sym (bare_reads (file_key world c file) file (left_reads world c file) reply bare) ∙ e))) f

pub refusal_still : (request : FileRequest) (status : Status) → is_still (refusal_of request status)
refusal_still (FileRequest.Create file access share contexts) status = tt
refusal_still request status = tt

-- ---- reads and writes

pub read_fresh : (world off : World) (c file_id : ℕ) (one : Open) → IsSource world off c (FileRequest.Read file_id)
    → Ground world → HasContents world → connected_open off.server c file_id ≡ Some one → (file : ℕ)
    → takings c off.past ≤ length (sendings c off.past) → IsFreshIn off c file
    → IsFreshIn (told_to off c (Reply.ReadDone file_id (off.server.contents one.file))) c file
unfolding was_opened
read_fresh world off c file_id one source g h found file low f =
    let own = found_open off.server c file_id one found in
    let told = (off_counted world off c (FileRequest.Read file_id) source g).opens one own.there in
    sent_fresh off (told_to off c (Reply.ReadDone file_id (off.server.contents one.file))) c off.past
    (Reply.ReadDone file_id (off.server.contents one.file))
    (plain_sent off c (Reply.ReadDone file_id (off.server.contents one.file))) (plain_told c off.past) low file (record {
      follows = λ from now reads. now reads;
      tells = record {
        file = one.file;
        opened = subst (λ i. was_opened i one.file c off.past ≡ true) own.id
            (subst (λ d. was_opened one.file_id one.file d off.past ≡ true) own.by told);
        is = off_contents world off c (FileRequest.Read file_id) source h one.file;
      };
      bound = f.bound;
      fewer = inl (λ e. e);
    }) f

pub change_told : (c file number : ℕ) (patch : Patch) (past : List Fact)
    → IsToldIn c past (Fact.Changed file c number patch ∷ past) (Fact.Sent c ∷ Fact.Changed file c number patch ∷ past)
unfolding sendings takings
change_told c file number patch past = record {
  is = refl;
  later = later_fact past (Fact.Changed file c number patch);
  sent = refl;
  took = refl;
}

pub change_follows : (c at file number : ℕ) (patch : Patch) (past new : List Fact) (from : List ℕ) (file_id : ℕ)
    → has_written c at number patch new ≡ true → content_of file past ≡ from
    → Follows c file new from (content_of file (Fact.Changed at c number patch ∷ past)) (Reply.WriteDone file_id number)
unfolding content_of
change_follows c at file number patch past new from file_id written now = either (at == file)
    (λ same. inl (record {
      patch = patch;
      written = subst (λ f. has_written c f number patch new ≡ true) (eqb-true at file same) written;
      is = rw (same) (ap (λ x. patched x patch) now);
    }))
    (λ apart. inr (record {
      other = at;
      patch = patch;
      written = written;
      apart = λ e. clash (at == file) (eq-eqb at file e) apart;
      is = rw (apart) now;
    }))

pub changed_fresh : (world off : World) (c file_id number : ℕ) (patch : Patch) (one : Open)
    → IsSource world off c (FileRequest.Write file_id number patch) → Ground world → IsNamedAt world c
    → connected_open off.server c file_id ≡ Some one → (file : ℕ)
    → takings c off.past ≤ length (sendings c off.past) → IsFreshIn off c file
    → IsFreshIn (changed_in off c one.file file_id number patch) c file
unfolding has_written
changed_fresh world off c file_id number patch one source g n found file low f =
    let own = found_open off.server c file_id one found in
    let told = (off_counted world off c (FileRequest.Write file_id number patch) source g).opens one own.there in
    let w : WasWrittenOn c file_id number patch off.past =
    (off_named world off c (FileRequest.Write file_id number patch) c source n).1 refl in
    let at = opened_once file_id w.file c one.file c off.past w.opened
    (subst (λ i. was_opened i one.file c off.past ≡ true) own.id
    (subst (λ d. was_opened one.file_id one.file d off.past ≡ true) own.by told)) in
    sent_fresh off (changed_in off c one.file file_id number patch) c
    (Fact.Changed one.file c number patch ∷ off.past) (Reply.WriteDone file_id number) (record {
      machine = refl;
      requests = refl;
      replies = put_same off.replies c (off.replies c ++ Reply.WriteDone file_id number ∷ []);
    }) (change_told c one.file number patch off.past) low file (record {
      follows = λ from now reads. change_follows c one.file file number patch off.past
          (changed_in off c one.file file_id number patch).past from file_id
          (subst (λ x. has_written c x number patch off.past ≡ true) at w.written) (now reads);
      tells = tt;
      bound = f.bound;
      fewer = inl (λ e. e);
    }) f

-- ---- grants

-- a grant tells what the lease then is
pub told_lease : (key : List ℕ) (asked : List ℕ) (left : Bool) (lease : Lease)
    → (is_breaking lease ≡ true → left ≡ true → (ends_as lease).read ≡ true)
    → given_reads key left (Some (record { key = asked; state = lease.state; in_progress = is_breaking lease })) ≡ true
    → (ends_as lease).read ≡ true
told_lease key asked left lease breaks e = by_end lease.broken_to refl e
  where
    by_end : (to : Option State) → lease.broken_to ≡ to
        → (if is_breaking lease then left else (bytes_eq asked key && lease.state.read)) ≡ true → (ends_as lease).read ≡ true
    by_end None is h = settled (subst (λ o. (if is_some o then left else (bytes_eq asked key && lease.state.read)) ≡ true) is h)
      where
        settled : (bytes_eq asked key && lease.state.read) ≡ true → (ends_as lease).read ≡ true
        settled x = subst (λ o. (ends_by o lease.state).read ≡ true) (sym is)
            (and_parts (bytes_eq asked key) lease.state.read x).1
    by_end (Some lowered) is h = breaks (ap is_some is) (subst (λ o. (if is_some o then left
        else (bytes_eq asked key && lease.state.read)) ≡ true) is h)

pub busy_left : (key : List ℕ) (asked : List ℕ) (left busy : Bool) (state : State) → busy ≡ true
    → given_reads key left (Some (record { key = asked; state = state; in_progress = busy })) ≡ true → left ≡ true
busy_left key asked left true state e h = h
busy_left key asked left false state e h = absurd (true≢false (sym e))

pub opened_told : (c file : ℕ) (past : List Fact)
    → IsToldIn c past (Fact.Opened file c ∷ past) (Fact.Sent c ∷ Fact.Opened file c ∷ past)
unfolding sendings takings
opened_told c file past =
    record { is = refl; later = later_fact past (Fact.Opened file c); sent = refl; took = refl }

pub opened_content : (at file client : ℕ) (past : List Fact) → content_of at (Fact.Opened file client ∷ past) ≡ content_of at past
unfolding content_of
opened_content at file client past = refl

-- what the queue tells where a grant stands at its end, of the file itself and of others
pub created_bound : (key : List ℕ) (at file file_id : ℕ) (asked : List ℕ) (left : Bool) (lease : Lease) (durable : Bool)
    (P : Type 0) → ((file == at) ≡ true → given_reads key left
    (Some (record { key = asked; state = lease.state; in_progress = is_breaking lease })) ≡ true → P)
    → ((file == at) ≡ false → left ≡ true → P) → reads_by key at left (Reply.Created file file_id (Some (record {
      lease = Some (record { key = asked; state = lease.state; in_progress = is_breaking lease });
      durable = durable;
    }))) ≡ true → P
created_bound key at file file_id asked left lease durable P here there e = by_file (file == at) refl e
  where
    by_file : (b : Bool) → (file == at) ≡ b → (if b then given_reads key left
        (Some (record { key = asked; state = lease.state; in_progress = is_breaking lease })) else left) ≡ true → P
    by_file true same h = here same h
    by_file false apart h = there apart h

-- the key of the create is that of its file alone
pub key_files : (world : World) (c file at : ℕ) (asked : LeaseOf) → asked.key ≡ lease_key (world.clients c).guid file
    → machine_key world c at ≡ key_of c asked.key → (file == at) ≡ true
key_files world c file at asked named same = either (file == at) (λ e. e)
    (λ apart. clash (bytes_eq (lease_key (world.clients c).guid at) (lease_key (world.clients c).guid file))
    ((bytes_eq-Decides (lease_key (world.clients c).guid at) (lease_key (world.clients c).guid file)).1
    (ap (λ (k : Key). k.bytes) same ∙ named))
    (keys_apart (world.clients c).guid at file (λ e. clash (file == at) (eq-eqb file at (sym e)) apart)))

pub key_same : (world : World) (c file at : ℕ) (asked : LeaseOf) → asked.key ≡ lease_key (world.clients c).guid file
    → (file == at) ≡ true → machine_key world c at ≡ key_of c asked.key
key_same world c file at asked named same = ap (λ f. key_of c (lease_key (world.clients c).guid f)) (sym (eqb-true file at same))
    ∙ ap (λ bytes. key_of c bytes) (sym named)

pub granted_asked : (off : World) (c file : ℕ) (access : Access) (share : Share) (ask : CreateAsk) (asked : LeaseOf)
    → asked.key ≡ lease_key (off.clients c).guid file → HasTrust off c → (at : ℕ)
    → off.server.expired (machine_key off c at) ≡ false → takings c off.past ≤ length (sendings c off.past) → IsFreshIn off c at
    → IsFreshIn (granted_in off c file access share (record ask { lease = Some asked })
    (lease_granted off.server (key_of c asked.key) file asked.state)) c at
granted_asked off c file access share ask asked named t at fresh low f =
    let key = key_of c asked.key in
    let lease = lease_granted off.server key file asked.state in
    let told : CreateAsk = record ask { lease = Some asked } in
    let reply = granted_reply off.server file told lease in
    let new = granted_in off c file access share told lease in
    let own = file_key off c at in
    let left = left_reads off c at in
    sent_fresh off new c (Fact.Opened file c ∷ off.past) reply (record {
      machine = refl;
      requests = refl;
      replies = put_same off.replies c (off.replies c ++ reply ∷ []);
    }) (opened_told c file off.past) low at
    (still_sends off new c (Fact.Opened file c ∷ off.past) reply at tt (opened_content at file c off.past)
    (created_bound own at file (off.server.last_id + 1) asked.key left lease (ask.durable && lease.state.handle)
    ((ends_as (new.server.leases (machine_key off c at))).read ≡ true)
    (λ same e. put_key-cases (λ (l : Lease). (ends_as l).read ≡ true) off.server.leases key lease (machine_key off c at)
    (λ mine. told_lease own asked.key left lease (λ breaks reads. still_bound mine breaks reads) e)
    (λ other. clash (key_eq (machine_key off c at) key)
    (ap (λ k. key_eq (machine_key off c at) k) (sym (key_same off c file at asked named same))
    ∙ key_eq-refl (machine_key off c at)) other))
    (λ apart reads. put_key-cases (λ (l : Lease). (ends_as l).read ≡ true) off.server.leases key lease (machine_key off c at)
    (λ mine. clash (file == at) (key_files off c file at asked named mine) apart)
    (λ other. f.bound reads))) (either (file == at)
    (λ same. either (is_breaking (off.server.leases key))
    (λ breaks. inl (created_bound own at file (off.server.last_id + 1) asked.key left lease (ask.durable && lease.state.handle)
    (left ≡ true)
    (λ s e. busy_left own asked.key left (is_breaking lease) lease.state
    (ap is_breaking (grant_breaking off.server key file asked.state breaks) ∙ breaks) e) (λ a e. e)))
    (λ settled. inr (settled_none own at (off.server.leases (machine_key off c at)) ((off.clients c).entries at).phase
    (off.requests c) (off.replies c)
    (ap (λ k. is_breaking (off.server.leases k)) (key_same off c file at asked named same) ∙ settled)
    (t.files at fresh).explained.believed)))
    (λ apart. inl (created_bound own at file (off.server.last_id + 1) asked.key left lease (ask.durable && lease.state.handle)
    (left ≡ true)
    (λ same e. clash (file == at) same apart) (λ a e. e))))) f
  where
    still_bound : machine_key off c at ≡ key_of c asked.key
        → is_breaking (lease_granted off.server (key_of c asked.key) file asked.state) ≡ true → left_reads off c at ≡ true
        → (ends_as (lease_granted off.server (key_of c asked.key) file asked.state)).read ≡ true
    still_bound mine breaks reads = either (is_breaking (off.server.leases (key_of c asked.key)))
        (λ busy. ap (λ (l : Lease). (ends_as l).read) (grant_breaking off.server (key_of c asked.key) file asked.state busy)
        ∙ ap (λ k. (ends_as (off.server.leases k)).read) (sym mine) ∙ f.bound reads)
        (λ settled. clash (is_breaking (lease_granted off.server (key_of c asked.key) file asked.state)) breaks
        (grant_settled off.server (key_of c asked.key) file asked.state settled))

-- a grant lets no timer run out
pub granted_was : (off : World) (c file : ℕ) (access : Access) (share : Share) (ask : CreateAsk) (at : ℕ)
    → (granted_in off c file access share ask (lease_after off.server c file ask.lease)).server.expired
    (machine_key off c at) ≡ false → off.server.expired (machine_key off c at) ≡ false
granted_was off c file access share ask at e = lease_put_rest off.server c ask.lease (lease_after off.server c file ask.lease)
    (λ s. s.expired (machine_key off c at) ≡ false → off.server.expired (machine_key off c at) ≡ false) (λ l x. x) e

pub granted_fresh : (off : World) (c file : ℕ) (access : Access) (share : Share) (ask : CreateAsk) (asked : LeaseOf)
    → ask.lease ≡ Some asked → asked.key ≡ lease_key (off.clients c).guid file → HasTrust off c → (at : ℕ)
    → off.server.expired (machine_key off c at) ≡ false → takings c off.past ≤ length (sendings c off.past) → IsFreshIn off c at
    → IsFreshIn (granted_in off c file access share ask (lease_after off.server c file ask.lease)) c at
granted_fresh off c file access share ask asked e named t at fresh low f = subst
    (λ o. IsFreshIn (granted_in off c file access share (record ask { lease = o }) (lease_after off.server c file o)) c at)
    (sym e) (granted_asked off c file access share ask asked named t at fresh low f)

pub reconnected_asked : (off : World) (c file : ℕ) (ask : CreateAsk) (file_id : ℕ) (asked : LeaseOf)
    → asked.key ≡ lease_key (off.clients c).guid file → HasTrust off c → (at : ℕ)
    → off.server.expired (machine_key off c at) ≡ false → takings c off.past ≤ length (sendings c off.past)
    → IsFreshIn off c at → IsFreshIn (reconnected_in off c file (record ask { lease = Some asked }) file_id) c at
reconnected_asked off c file ask file_id asked named t at fresh low f =
    let lease = off.server.leases (key_of c asked.key) in
    let told : CreateAsk = record ask { lease = Some asked } in
    let reply = reconnected_reply off.server c file told file_id in
    let new = reconnected_in off c file told file_id in
    let own = file_key off c at in
    let left = left_reads off c at in
    sent_fresh off new c off.past reply (record {
      machine = refl;
      requests = refl;
      replies = put_same off.replies c (off.replies c ++ reply ∷ []);
    }) (plain_told c off.past) low at (still_sends off new c off.past reply at tt refl
    (created_bound own at file file_id asked.key left lease false
    ((ends_as (off.server.leases (machine_key off c at))).read ≡ true)
    (λ same e. let mine = key_same off c file at asked named same in
    subst (λ k. (ends_as (off.server.leases k)).read ≡ true) (sym mine) (told_lease own asked.key left lease
    (λ breaks reads. ap (λ k. (ends_as (off.server.leases k)).read) (sym mine) ∙ f.bound reads) e))
    (λ apart reads. f.bound reads)) (either (file == at)
    (λ same. either (is_breaking lease)
    (λ breaks. inl (created_bound own at file file_id asked.key left lease false (left ≡ true)
    (λ s e. busy_left own asked.key left (is_breaking lease) lease.state breaks e) (λ a e. e)))
    (λ settled. inr (settled_none own at (off.server.leases (machine_key off c at)) ((off.clients c).entries at).phase
    (off.requests c) (off.replies c)
    (ap (λ k. is_breaking (off.server.leases k)) (key_same off c file at asked named same) ∙ settled)
    (t.files at fresh).explained.believed)))
    (λ apart. inl (created_bound own at file file_id asked.key left lease false (left ≡ true)
    (λ same e. clash (file == at) same apart) (λ a e. e))))) f

pub reconnected_fresh : (off : World) (c file : ℕ) (ask : CreateAsk) (file_id : ℕ) (asked : LeaseOf)
    → ask.lease ≡ Some asked → asked.key ≡ lease_key (off.clients c).guid file → HasTrust off c → (at : ℕ)
    → off.server.expired (machine_key off c at) ≡ false → takings c off.past ≤ length (sendings c off.past)
    → IsFreshIn off c at → IsFreshIn (reconnected_in off c file ask file_id) c at
reconnected_fresh off c file ask file_id asked e named t at fresh low f = subst
    (λ o. IsFreshIn (reconnected_in off c file (record ask { lease = o }) file_id) c at) (sym e)
    (reconnected_asked off c file ask file_id asked named t at fresh low f)

-- ---- leases that are put

-- the break is over
pub acked_fresh : (world : World) (c : ℕ) (given : LeaseOf) → IsOldest world c (Request.Acknowledge (Some given)) → (file : ℕ)
    → takings c world.past ≤ length (sendings c world.past) → IsFreshIn world c file
    → IsFreshIn (leased_in (popped world c) (key_of c given.key)
    (record { state = granted_form_of given.state; broken_to = None }) (done_reply given)) c file
acked_fresh world c given oldest file low f =
    let lease : Lease = record { state = granted_form_of given.state; broken_to = None } in
    let off = popped world c in
    let new = leased_in off (key_of c given.key) lease (done_reply given) in
    let head : Each (AckReads (file_key world c file) (left_reads world c file))
    (Request.Acknowledge (Some given) ∷ oldest.queue) =
    subst (Each (AckReads (file_key world c file) (left_reads world c file))) oldest.is_first f.acks_read in
    sent_fresh off new c world.past (done_reply given) (record {
      machine = refl;
      requests = refl;
      replies = put_same world.replies c (world.replies c ++ done_reply given ∷ []);
    }) (plain_told c world.past) low file (still_sends off new c world.past (done_reply given) file tt refl
    (λ reads. put_key-cases (λ (l : Lease). (ends_as l).read ≡ true) world.server.leases (key_of c given.key) lease
    (machine_key world c file)
    (λ mine. form_reads given.state ((head.0)
    ((bytes_eq-Decides (file_key world c file) given.key).1 (ap (λ (k : Key). k.bytes) mine)) reads))
    (λ other. f.bound reads)) (inl (λ e. e))) (popped_fresh world c file f)
  where
    form_reads : (state : State) → state.read ≡ true → (granted_form_of state).read ≡ true
    form_reads state reads = if_cases (λ (s : State). s.read ≡ true) state.read state nothing_cached (λ r. reads)
        (λ none. clash state.read reads none)

-- a break is told
pub broken_fresh : (world : World) (key : Key) (lease : Lease) (lowered : State) (file : ℕ)
    → (ends_as lease) ≡ lowered → takings key.client world.past ≤ length (sendings key.client world.past)
    → IsFreshIn world key.client file
    → IsFreshIn (leased_in world key lease (break_notice key (world.server.leases key).state lowered)) key.client file
broken_fresh world key lease lowered file ends low f =
    let c = key.client in
    let reply = break_notice key (world.server.leases key).state lowered in
    let new = leased_in world key lease reply in
    let left = left_reads world c file in
    let own = file_key world c file in
    sent_fresh world new c world.past reply (record {
      machine = refl;
      requests = refl;
      replies = put_same world.replies c (world.replies c ++ reply ∷ []);
    }) (plain_told c world.past) low file (still_sends world new c world.past reply file tt refl
    (λ e. put_key-cases (λ (l : Lease). (ends_as l).read ≡ true) world.server.leases key lease (machine_key world c file)
    (λ mine. ap (λ (s : State). s.read) ends ∙ told_read own ((bytes_eq-Decides own key.bytes).1 (ap (λ (k : Key). k.bytes) mine))
    left e)
    (λ other. f.bound (left_read own left e))) (inl (λ e. left_read own left e))) f
  where
    told_read : (own : List ℕ) → bytes_eq own key.bytes ≡ true → (left : Bool)
        → (if bytes_eq own key.bytes then left && lowered.read else left) ≡ true → lowered.read ≡ true
    told_read own same left e = if_cases (λ b. b ≡ true → lowered.read ≡ true) (bytes_eq own key.bytes)
        (left && lowered.read) left (λ is h. (and_parts left lowered.read h).1)
        (λ other h. clash (bytes_eq own key.bytes) same other) e

    left_read : (own : List ℕ) (left : Bool) → (if bytes_eq own key.bytes then left && lowered.read else left) ≡ true
        → left ≡ true
    left_read own left e = if_cases (λ b. b ≡ true → left ≡ true) (bytes_eq own key.bytes)
        (left && lowered.read) left (λ is h. (and_parts left lowered.read h).0) (λ other h. h) e
