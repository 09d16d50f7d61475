-- An acknowledgment that is judged, and a request that is held, leave a client's writes safe.
use Rattle.lease_laws.proofs.Words.{◌++◌, ◌+◌, ◌∙◌, ◌∷◌, ◌≡◌, ◌⊎◌, FileRequest, IsSound, IsSoundPhase, Key, Lease, LeaseOf}
use Rattle.lease_laws.proofs.Words.{List, LiveEntry, None, Parted, Phase, Reply, Request, Some, Status, World, ℕ, [], ⊎_elim}
use Rattle.lease_laws.proofs.Words.{ap, arith, bytes_eq, bytes_eq-Decides, granted_form_of, has_buffered, inl, inr, is_breaking}
use Rattle.lease_laws.proofs.Words.{is_up, key_of, machine_key, refl, subst, sym, true, true≢false}
use Rattle.lease_laws.proofs.client.Thin.{put_same}
use Rattle.lease_laws.proofs.server.Keys.{put_key-cases}
use Rattle.lease_laws.proofs.server.Lists.{clash, either, not_true}
use Rattle.lease_coherence.specs.Creates.{one_if}
use Rattle.lease_coherence.specs.Names.{Each, IsNamedAt, IsNamedRequest}
use Rattle.lease_coherence.proofs.beliefs.Acked.{served_state}
use Rattle.lease_coherence.proofs.beliefs.OneLease.{AckKeeps, acks}
use Rattle.lease_coherence.proofs.beliefs.Trust.{HasTrust, file_key}
use Rattle.lease_coherence.proofs.late.Likes.{acks_like, held_up, sent_past}
use Rattle.lease_coherence.proofs.late.Moves.{told_late}
use Rattle.lease_coherence.proofs.late.SafeWrites.{AcksKeep, HeldPlain, IsLike, IsNotLate, IsSafeUp, KnowsIds, NotBuffered}
use Rattle.lease_coherence.proofs.late.SafeWrites.{WriteSafe, holds_write}
use Rattle.lease_coherence.proofs.late.Servers.{EntryHolds, entries_like, grants_more, itself, popped_safe}
use Rattle.lease_coherence.proofs.moves.Deeds.{done_reply, leased_in, told_to}
use Rattle.lease_coherence.proofs.moves.Moves.{IsOldest, popped, rest_of}
use Rattle.lease_coherence.proofs.names.NamedInRecord.{each_rest}

-- ---- a request leaves its queue

pub popped_named : (world : World) (c : ℕ) → IsNamedAt world c → IsNamedAt (popped world c) c
popped_named world c n = record {
  requests = subst (Each (IsNamedRequest c (world.clients c).guid world.past))
      (sym (put_same world.requests c (rest_of (world.requests c))))
      (each_rest (IsNamedRequest c (world.clients c).guid world.past) (world.requests c) n.requests);
  held = n.held;
  opens = n.opens;
  replies = n.replies;
  entries = n.entries;
}

pub popped_ids : (world : World) (c : ℕ) → KnowsIds world c → KnowsIds (popped world c) c
popped_ids world c ids = record { low = ids.low; on = ids.on }

pub popped_late : (world : World) (c : ℕ) → KnowsIds world c → IsNamedAt world c → IsNotLate world c
    → IsNotLate (popped world c) c
popped_late world c ids n a =
    record { entries = a.entries; up = λ up. popped_safe world c ids n (a.up up) }

-- ---- an acknowledgment that fails

pub failed_late : (world : World) (c : ℕ) (status : Status) → KnowsIds world c → IsNamedAt world c → IsNotLate world c
    → IsNotLate (told_to (popped world c) c (Reply.AckFailed status)) c
failed_late world c status ids n a = told_late (popped world c) c (Reply.AckFailed status) tt (popped_ids world c ids)
    (popped_named world c n) (popped_late world c ids n a)

-- ---- one that ends its break

abbrev done_in : World → ℕ → LeaseOf → World
done_in world c given = leased_in (popped world c) (key_of c given.key)
    (record { state = granted_form_of given.state; broken_to = None }) (done_reply given)

done_like : (world : World) (c : ℕ) (given : LeaseOf) → IsLike (popped world c) (done_in world c given) c
done_like world c given = record {
  machine = refl;
  past = sent_past c c world.past;
  from = λ x there by low. itself (popped world c) x there;
  timely = λ file x there by on e. e;
}

-- where the acknowledgment keeps writes, or is of another key, they are still held
still_held : (world : World) (c : ℕ) (given : LeaseOf) (file : ℕ)
    → AckKeeps (file_key world c file) (Request.Acknowledge (Some given)) → holds_write world c file ≡ true
    → holds_write (done_in world c given) c file ≡ true
still_held world c given file keeps = put_key-cases (λ (l : Lease). holds_write world c file ≡ true → l.state.write ≡ true)
    world.server.leases (key_of c given.key) (record { state = granted_form_of given.state; broken_to = None })
    (machine_key world c file)
    (λ same h. let k = keeps ((bytes_eq-Decides (file_key world c file) given.key).1 (ap (λ (k : Key). k.bytes) same)) in
    served_state given.state k.0 k.1)
    (λ other h. h)

-- a file of another key keeps its lease
other_held : (world : World) (c : ℕ) (given : LeaseOf) (file : ℕ)
    → (bytes_eq (file_key world c file) given.key ≡ true → holds_write world c file ≡ true
    → holds_write (done_in world c given) c file ≡ true) → holds_write world c file ≡ true
    → holds_write (done_in world c given) c file ≡ true
other_held world c given file here h = either (bytes_eq (file_key world c file) given.key) (λ own. here own h)
    (λ other. still_held world c given file (λ own. clash (bytes_eq (file_key world c file) given.key) own other) h)

some_acks : (n : ℕ) → 1 + n ≡ 0 → ⊥
some_acks n e = omega (arith, e)

-- the queue behind it
queue_acked : (world : World) (c : ℕ) (given : LeaseOf) (queue : List Request) → Each (WriteSafe world c) queue
    → ((file : ℕ) → AckKeeps (file_key world c file) (Request.Acknowledge (Some given))
    ⊎ Each (NotBuffered world c file) queue) → Each (WriteSafe (done_in world c given) c) queue
queue_acked world c given [] safe keeps = tt
queue_acked world c given (Request.OnFile (FileRequest.Write file_id number patch) ∷ queue) safe keeps = (
  λ x there by id. let old = safe.0 x there by id in record {
    held = λ b. let was = sym ((sent_past c c world.past).buffered x.file number) ∙ b in ⊎_elim
        (λ kept. still_held world c given x.file kept (old.held was))
        (λ none. clash (has_buffered c x.file number world.past) was (none.0 x there by id refl)) (keeps x.file);
    clean = (sent_past c c world.past).touched x.file number ∙ old.clean;
  },
  queue_acked world c given queue safe.1 (λ file. ⊎_elim (λ kept. inl kept) (λ none. inr none.1) (keeps file)),
)
queue_acked world c given (Request.OnFile (FileRequest.Create f access share contexts) ∷ queue) safe keeps =
    (tt, queue_acked world c given queue safe.1 (λ file. ⊎_elim (λ kept. inl kept) (λ none. inr none.1) (keeps file)))
queue_acked world c given (Request.OnFile (FileRequest.Read file_id) ∷ queue) safe keeps =
    (tt, queue_acked world c given queue safe.1 (λ file. ⊎_elim (λ kept. inl kept) (λ none. inr none.1) (keeps file)))
queue_acked world c given (Request.OnFile (FileRequest.Close file_id) ∷ queue) safe keeps =
    (tt, queue_acked world c given queue safe.1 (λ file. ⊎_elim (λ kept. inl kept) (λ none. inr none.1) (keeps file)))
queue_acked world c given (Request.Acknowledge other ∷ queue) safe keeps =
    (tt, queue_acked world c given queue safe.1 (λ file. ⊎_elim (λ kept. inl kept) (λ none. inr none.1) (keeps file)))

-- a write that is held wasn't buffered
held_acked : (world : World) (c : ℕ) (given : LeaseOf) (r : FileRequest) → WriteSafe world c (Request.OnFile r)
    → HeldPlain world c (Request.OnFile r) → WriteSafe (done_in world c given) c (Request.OnFile r)
held_acked world c given (FileRequest.Write file_id number patch) safe plain = λ x there by id. record {
  held = λ b. clash (has_buffered c x.file number world.past)
      (sym ((sent_past c c world.past).buffered x.file number) ∙ b) (plain x there by id);
  clean = (sent_past c c world.past).touched x.file number ∙ (safe x there by id).clean;
}
held_acked world c given (FileRequest.Create f access share contexts) safe plain = tt
held_acked world c given request safe plain = tt

-- an entry that believes that it may cache writes keeps them by each acknowledgment on its way
ack_kept : (world : World) (c : ℕ) (given : LeaseOf) → IsOldest world c (Request.Acknowledge (Some given))
    → IsSound world.server → is_breaking (world.server.leases (key_of c given.key)) ≡ true → HasTrust world c
    → (file : ℕ) (live : LiveEntry) → ((world.clients c).entries file).phase ≡ Phase.Live live
    → live.belief.write ≡ true → bytes_eq (file_key world c file) given.key ≡ true
    → AckKeeps (file_key world c file) (Request.Acknowledge (Some given))
ack_kept world c given oldest sound breaks t file live is write own =
    let key = file_key world c file in
    let same : machine_key world c file ≡ key_of c given.key =
    ap (λ bytes. key_of c bytes) ((bytes_eq-Decides key given.key).0 own) in
    let fresh = not_true (world.server.expired (machine_key world c file)) (λ out.
    clash (is_breaking (world.server.leases (key_of c given.key))) breaks
    (ap (λ k. is_breaking (world.server.leases k)) (sym same)
    ∙ ap is_breaking (sound.timed_out (machine_key world c file) out))) in ⊎_elim
    (λ zero. absurd (some_acks (acks key oldest.queue) (ap (λ x. one_if x + acks key oldest.queue) (sym own)
    ∙ ap (acks key) (sym oldest.is_first) ∙ zero)))
    (λ a. let all : Each (AckKeeps key) (Request.Acknowledge (Some given) ∷ oldest.queue) =
    subst (Each (AckKeeps key)) oldest.is_first (a.bounds live is write) in all.0) (t.files file fresh).explained.believed.answers

done_holds : (world : World) (c : ℕ) (given : LeaseOf) → IsOldest world c (Request.Acknowledge (Some given))
    → IsSound world.server → is_breaking (world.server.leases (key_of c given.key)) ≡ true → HasTrust world c
    → (world.clients c).is_online ≡ true
    → ((file : ℕ) → IsSoundPhase (world.clients c).is_online ((world.clients c).entries file).sent
    ((world.clients c).entries file).phase) → IsSafeUp world c → EntryHolds (popped world c) (done_in world c given) c
done_holds world c given oldest sound breaks t online phases u = record {
  live = λ file live is write x there by on h. other_held world c given file
      (λ own had. still_held world c given file (ack_kept world c given oldest sound breaks t file live is write own) had) h;
  parted = λ file parted is x there by on h. other_held world c given file
      (λ own had. ⊎_elim (λ away. absurd (not_away file parted away))
      (λ again. absurd (some_acks (acks (file_key world c file) oldest.queue)
      (ap (λ x. one_if x + acks (file_key world c file) oldest.queue) (sym own)
      ∙ ap (acks (file_key world c file)) (sym oldest.is_first) ∙ u.again file parted again))) is) h;
}
  where
    not_away : (file : ℕ) (parted : Parted) → ((world.clients c).entries file).phase ≡ Phase.Offline parted → ⊥
    not_away file parted away =
        let p : IsSoundPhase (world.clients c).is_online ((world.clients c).entries file).sent (Phase.Offline parted) =
        subst (IsSoundPhase (world.clients c).is_online ((world.clients c).entries file).sent) away (phases file) in
        true≢false (sym online ∙ p.0)

pub done_late : (world : World) (c : ℕ) (given : LeaseOf) → IsOldest world c (Request.Acknowledge (Some given))
    → IsSound world.server → is_breaking (world.server.leases (key_of c given.key)) ≡ true
    → is_up (world.links c) ≡ true → HasTrust world c → (world.clients c).is_online ≡ true
    → ((file : ℕ) → IsSoundPhase (world.clients c).is_online ((world.clients c).entries file).sent
    ((world.clients c).entries file).phase) → KnowsIds world c → IsNamedAt world c → IsNotLate world c
    → IsNotLate (leased_in (popped world c) (key_of c given.key)
    (record { state = granted_form_of given.state; broken_to = None }) (done_reply given)) c
done_late world c given oldest sound breaks was t online phases ids n a =
    let mid = popped world c in
    let new = done_in world c given in
    let like = done_like world c given in
    let u = a.up was in
    let m = popped_safe world c ids n u in
    let left : mid.requests c ≡ oldest.queue =
    put_same world.requests c (rest_of (world.requests c)) ∙ ap rest_of oldest.is_first in
    let queued : Each (WriteSafe world c) (Request.Acknowledge (Some given) ∷ oldest.queue) =
    subst (Each (WriteSafe world c)) oldest.is_first u.writes.queued in
    let keeps : AcksKeep world c (Request.Acknowledge (Some given) ∷ oldest.queue) =
    subst (AcksKeep world c) oldest.is_first u.acks_keep in record {
      entries = entries_like mid new c like (popped_ids world c ids) (popped_named world c n)
          (done_holds world c given oldest sound breaks t online phases u) a.entries;
      up = λ up. record {
        writes = record {
          queued = subst (Each (WriteSafe new c)) (sym left) (queue_acked world c given oldest.queue queued.1 keeps.0);
          held = λ at one b own. held_acked world c given one.request (u.writes.held at one b own) (u.held at one b own);
        };
        held = held_up mid new c like (popped_ids world c ids) refl (popped_named world c n) m.held;
        acks_keep = acks_like mid new c like (popped_ids world c ids) (mid.requests c) (popped_named world c n).requests
            m.acks_keep;
        again = m.again;
        given = λ file known. grants_more mid new c (done_reply given) file like (popped_ids world c ids)
            (popped_named world c n) (put_same world.replies c (world.replies c ++ done_reply given ∷ [])) tt m known;
      };
    }
