-- What others do leaves a client's writes safe.
use Rattle.lease_laws.proofs.Words.{◌++◌, ◌==◌, ◌∙◌, ◌∷◌, ◌≡◌, ◌⊎◌, Among, Client, FileRequest, Held, Lease, List, LiveEntry}
use Rattle.lease_laws.proofs.Words.{Open, Parted, Pending, Phase, Reply, Request, Some, World, ℕ, [], ⊎_elim, ap, ap₂, eq-eqb}
use Rattle.lease_laws.proofs.Words.{false, given_state, has_buffered, inl, inr, is_touched, is_up, key_of, knows_file}
use Rattle.lease_laws.proofs.Words.{lease_key, machine_key, refl, subst, sym, true, was_opened}
use Rattle.lease_laws.proofs.server.Lists.{among_filter, among_filtered}
use Rattle.lease_coherence.specs.Names.{Each, IsNamedAt, IsNamedReply}
use Rattle.lease_coherence.proofs.beliefs.OneLease.{AckKeeps, HoldsWrites, OnGiven, acks}
use Rattle.lease_coherence.proofs.beliefs.Trust.{file_key}
use Rattle.lease_coherence.proofs.late.Entries.{given_so}
use Rattle.lease_coherence.proofs.late.SafeWrites.{AcksKeep, GrantSafe, GrantsSafe, HeldPlain, IsClean, IsNotLate, IsSafeUp}
use Rattle.lease_coherence.proofs.late.SafeWrites.{KeptWrite, KnowsIds, NotBuffered, PhaseSafe, WriteSafe, given_writes}
use Rattle.lease_coherence.proofs.late.SafeWrites.{holds_write, same_key}
use Rattle.lease_coherence.proofs.late.Servers.{live_id, own_has_key, parted_id}
use Rattle.lease_coherence.proofs.moves.Foreign.{IsUnmoved}
use Rattle.lease_coherence.proofs.names.NamedInRecord.{each_weaker}
use Rattle.lease_coherence.proofs.standing.StandingOpens.{asked_unmoved, asked_weaker}

-- ---- leases and files

holds_same : (world new : World) (c : ℕ) → IsUnmoved world new c → (file : ℕ) → holds_write new c file ≡ holds_write world c file
holds_same world new c u file = ap (λ (m : Client). (new.server.leases (key_of c (lease_key m.guid file))).state.write) u.machine
    ∙ ap (λ (l : Lease). l.state.write) (u.leases (machine_key world c file) refl)

touched_same : (world new : World) (c : ℕ) → IsUnmoved world new c → IsNamedAt world c → (file : ℕ) (x : Open)
    → Among x world.server.opens → x.client ≡ c → x.file ≡ file → (number : ℕ)
    → (has_buffered c file number world.past ≡ true → holds_write world c file ≡ true)
    → is_touched c file number world.past ≡ false → is_touched c file number new.past ≡ false
touched_same world new c u n file x there by on number holds clean = subst (λ f. is_touched c f number new.past ≡ false) on
    (u.spared.clean (machine_key world c file) x by there (own_has_key world c file x by on (n.opens x there by)) number
    (λ b. holds (subst (λ f. has_buffered c f number world.past ≡ true) on b))
    (subst (λ f. is_touched c f number world.past ≡ false) (sym on) clean))

-- ---- entries

phase_unmoved : (world new : World) (c file : ℕ) (sent : List Pending) (phase : Phase) → IsUnmoved world new c
    → IsNamedAt world c → KnowsIds world c
    → ((live : LiveEntry) → phase ≡ Phase.Live live → was_opened live.file_id file c world.past ≡ true)
    → ((parted : Parted) → (phase ≡ Phase.Offline parted) ⊎ (phase ≡ Phase.Reconnecting parted)
    → was_opened parted.file_id file c world.past ≡ true) → PhaseSafe world c file sent phase → PhaseSafe new c file sent phase
phase_unmoved world new c file sent (Phase.Live live) u n ids live_ids parted_ids p = λ x there by id write.
    let was = u.from x by there in
    let on = (ids.on live.file_id file (live_ids live refl) x was id).0 in
    let old = p x was by id write in (
      holds_same world new c u file ∙ old.0,
      each_weaker (IsClean c file world.past) (IsClean c file new.past) (sent ++ live.unsent)
          (λ w clean b. touched_same world new c u n file x was by on w.number (λ had. old.0) (clean b)) old.1,
    )
phase_unmoved world new c file sent (Phase.Offline parted) u n ids live_ids parted_ids p = λ x there by id.
    let was = u.from x by there in
    let on = (ids.on parted.file_id file (parted_ids parted (inl refl)) x was id).0 in
    each_weaker (KeptWrite world c file) (KeptWrite new c file) parted.writes
    (λ w k. (
      holds_same world new c u file ∙ k.0,
      touched_same world new c u n file x was by on w.number (λ had. k.0) k.1,
    )) (p x was by id)
phase_unmoved world new c file sent (Phase.Reconnecting parted) u n ids live_ids parted_ids p = λ x there by id.
    let was = u.from x by there in
    let on = (ids.on parted.file_id file (parted_ids parted (inr refl)) x was id).0 in
    each_weaker (KeptWrite world c file) (KeptWrite new c file) parted.writes
    (λ w k. (
      holds_same world new c u file ∙ k.0,
      touched_same world new c u n file x was by on w.number (λ had. k.0) k.1,
    )) (p x was by id)
phase_unmoved world new c file sent phase u n ids live_ids parted_ids p = tt

-- ---- what is on its way

write_unmoved : (world new : World) (c : ℕ) → IsUnmoved world new c → IsNamedAt world c → (r : Request)
    → WriteSafe world c r → WriteSafe new c r
write_unmoved world new c u n (Request.OnFile (FileRequest.Write file_id number patch)) safe = λ x there by id.
    let was = u.from x by there in
    let old = safe x was by id in record {
      held = λ b. holds_same world new c u x.file ∙ old.held (sym (u.spared.buffered x.file number) ∙ b);
      clean = touched_same world new c u n x.file x was by refl number old.held old.clean;
    }
write_unmoved world new c u n request safe = tt

plain_unmoved : (world new : World) (c : ℕ) → IsUnmoved world new c → (r : FileRequest)
    → HeldPlain world c (Request.OnFile r) → HeldPlain new c (Request.OnFile r)
plain_unmoved world new c u (FileRequest.Write file_id number patch) p = λ x there by id.
    u.spared.buffered x.file number ∙ p x (u.from x by there) by id
plain_unmoved world new c u request p = tt

not_buffered_unmoved : (world new : World) (c file : ℕ) → IsUnmoved world new c → (r : Request)
    → NotBuffered world c file r → NotBuffered new c file r
not_buffered_unmoved world new c file u (Request.OnFile (FileRequest.Write file_id number patch)) p = λ x there by id on.
    u.spared.buffered file number ∙ p x (u.from x by there) by id on
not_buffered_unmoved world new c file u request p = tt

acks_unmoved : (world new : World) (c : ℕ) → IsUnmoved world new c → (queue : List Request) → AcksKeep world c queue
    → AcksKeep new c queue
acks_unmoved world new c u [] a = tt
acks_unmoved world new c u (Request.OnFile request ∷ queue) a = acks_unmoved world new c u queue a
acks_unmoved world new c u (Request.Acknowledge given ∷ queue) a = (
  λ file. ⊎_elim
      (λ keeps. inl (subst (λ key. AckKeeps key (Request.Acknowledge given)) (sym (same_key world new c u.machine file)) keeps))
      (λ none. inr (each_weaker (NotBuffered world c file) (NotBuffered new c file) queue
      (not_buffered_unmoved world new c file u) none)) (a.0 file),
  acks_unmoved world new c u queue a.1,
)

-- a grant that gives writes is of a lease that holds them
grant_unmoved : (world new : World) (c file : ℕ) → IsUnmoved world new c → IsNamedAt world c → KnowsIds world c
    → (sent : List Pending) (front : List Reply) (reply : Reply) → IsNamedReply c world.past reply
    → (world.server.expired (machine_key world c file) ≡ false
    → OnGiven (HoldsWrites (world.server.leases (machine_key world c file)).state) (file_key world c file) file reply)
    → GrantSafe world c file sent front reply → GrantSafe new c file sent front reply
grant_unmoved world new c file u n ids sent front (Reply.Created other file_id (Some answer)) m bears g = λ same x there by id.
    let was = u.from x by there in
    let on = (ids.on file_id file (subst (λ f. was_opened file_id f c world.past ≡ true) same m) x was id).0 in
    let safe = g same x was by id in
    let key = same_key world new c u.machine file in
    let timely : given_writes (file_key world c file) answer.lease ≡ true
    → world.server.expired (machine_key world c file) ≡ false = safe.timely in record {
      timely = λ e. ap (λ (m : Client). new.server.expired (key_of c (lease_key m.guid file))) u.machine
          ∙ u.expired (machine_key world c file) refl ∙ timely (ap (λ k. given_writes k answer.lease) (sym key) ∙ e);
      clean = λ e write a buffered none.
          let gives = ap (λ k. (given_state k answer.lease).write) (sym key) ∙ e in
          let holds = (bears (timely (given_so (file_key world c file) answer.lease gives)) same gives).1 in
          touched_same world new c u n file x was by on write.number (λ b. holds) (safe.clean gives write a buffered none);
    }
grant_unmoved world new c file u n ids sent front reply m bears g = tt

grants_unmoved : (world new : World) (c file : ℕ) → IsUnmoved world new c → IsNamedAt world c → KnowsIds world c
    → (sent : List Pending) (front queue : List Reply) → Each (IsNamedReply c world.past) queue
    → (world.server.expired (machine_key world c file) ≡ false
    → Each (OnGiven (HoldsWrites (world.server.leases (machine_key world c file)).state) (file_key world c file) file) queue)
    → GrantsSafe world c file sent front queue → GrantsSafe new c file sent front queue
grants_unmoved world new c file u n ids sent front [] m bears g = tt
grants_unmoved world new c file u n ids sent front (reply ∷ queue) m bears g = (
  grant_unmoved world new c file u n ids sent front reply m.0 (λ fresh. (bears fresh).0) g.0,
  grants_unmoved world new c file u n ids sent (front ++ reply ∷ []) queue m.1 (λ fresh. (bears fresh).1) g.1,
)

-- ---- all of it

pub unmoved_late : (world new : World) (c : ℕ) → IsUnmoved world new c → IsNamedAt world c → KnowsIds world c
    → (is_up (world.links c) ≡ true → (file : ℕ) → world.server.expired (machine_key world c file) ≡ false
    → Each (OnGiven (HoldsWrites (world.server.leases (machine_key world c file)).state) (file_key world c file) file)
    (world.replies c)) → IsNotLate world c → IsNotLate new c
unmoved_late world new c u n ids bears a = record {
  entries = λ file. let entry = (world.clients c).entries file in
      subst (λ (m : Client). PhaseSafe new c file (m.entries file).sent (m.entries file).phase) (sym u.machine)
      (phase_unmoved world new c file entry.sent entry.phase u n ids
      (λ live is. live_id c file world.past entry.phase (n.entries file).phase live is)
      (λ parted is. parted_id c file world.past entry.phase (n.entries file).phase parted is) (a.entries file));
  up = λ up. let was = ap is_up (sym u.link) ∙ up in up_unmoved was (a.up was);
}
  where
    held_was : (file : ℕ) (one : Held) → Among one (new.server.held file) → one.client ≡ c → Among one (world.server.held file)
    held_was file one there own = (among_filter (λ h. h.client == c) one (world.server.held file)
        (subst (λ (l : List Held). Among one l) (u.held file)
        (among_filtered (λ h. h.client == c) one (new.server.held file) there (eq-eqb one.client c own)))).0

    up_unmoved : is_up (world.links c) ≡ true → IsSafeUp world c → IsSafeUp new c
    up_unmoved was old = record {
      writes = asked_weaker (WriteSafe world c) (WriteSafe new c) new c (write_unmoved world new c u n)
          (asked_unmoved (WriteSafe world c) world new c u old.writes);
      held = λ file one there own. plain_unmoved world new c u one.request (old.held file one (held_was file one there own) own);
      acks_keep = subst (AcksKeep new c) (sym u.requests) (acks_unmoved world new c u (world.requests c) old.acks_keep);
      again = λ file parted is. ap₂ acks (same_key world new c u.machine file) u.requests
          ∙ old.again file parted (ap (λ (m : Client). (m.entries file).phase) (sym u.machine) ∙ is);
      given = λ file known. let sent = ((world.clients c).entries file).sent in
          subst (λ (m : Client). GrantsSafe new c file (m.entries file).sent [] (new.replies c)) (sym u.machine)
          (subst (GrantsSafe new c file sent []) (sym u.replies)
          (grants_unmoved world new c file u n ids sent [] (world.replies c) n.replies (bears was file)
          (old.given file (ap (λ (m : Client). knows_file m file) (sym u.machine) ∙ known))));
    }
