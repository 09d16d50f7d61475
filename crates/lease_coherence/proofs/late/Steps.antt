-- A step of a client leaves its writes safe, in its entries and on their way.
use Rattle.lease_laws.proofs.Words.{◌&&◌, ◌++◌, ◌+◌, ◌==◌, ◌||◌, ◌∙◌, ◌∷◌, ◌≡◌, ◌≤◌, ◌⊎◌, Among, Bool, Client, Fact}
use Rattle.lease_laws.proofs.Words.{FileRequest, Held, IsSound, IsSoundClient, Lease, List, LiveEntry, None, Note, Open, Parted}
use Rattle.lease_laws.proofs.Words.{Patch, Pending, Phase, Reply, Request, Server, Some, Step, TellNumbers, World, ℕ, []}
use Rattle.lease_laws.proofs.Words.{⊎_elim, ap, ap₂, are_buffered, arith, eq-eqb, eqb-true, fact_of, false, given_state}
use Rattle.lease_laws.proofs.Words.{has_buffered, inl, inr, is_touched, is_up, key_of, knows_file, lease_key, list_any}
use Rattle.lease_laws.proofs.Words.{machine_key, refl, stepped_in, subst, sym, true, was_opened, write_requests}
use Rattle.lease_laws.proofs.server.Lists.{among_behind, and_both, and_parts, any_has, clash, either, has_any, not_true}
use Rattle.lease_laws.proofs.world.Runs.{stepped_server}
use Rattle.lease_coherence.specs.Names.{Each, IsNamedRequest, WasWrittenOn}
use Rattle.lease_coherence.specs.Standing.{AllAsked, IsOpenFor}
use Rattle.lease_coherence.proofs.beliefs.Anchors.{AnchorsLive, AnchorsOn}
use Rattle.lease_coherence.proofs.beliefs.Entries.{no_acks_keep}
use Rattle.lease_coherence.proofs.beliefs.OneLease.{AckKeeps, acks, acks_append}
use Rattle.lease_coherence.proofs.beliefs.Trust.{file_key}
use Rattle.lease_coherence.proofs.creates.Creates.{stepped_machine}
use Rattle.lease_coherence.proofs.late.Clients.{EntryFrom, IsOther, SendsWrites, SentFrom, StepFrom}
use Rattle.lease_coherence.proofs.late.Entries.{StepSafe, at_among, given_so, sound_live, unsent_writes}
use Rattle.lease_coherence.proofs.late.Likes.{asked_both, noted_touched}
use Rattle.lease_coherence.proofs.late.SafeWrites.{AcksKeep, GrantSafe, GrantsSafe, HeldPlain, IsClean, IsGrantSafe, IsSafeAt}
use Rattle.lease_coherence.proofs.late.SafeWrites.{IsSafeUp, IsSafeWrite, KeptWrite, KnowsIds, LiveSafe, NotBuffered, PhaseSafe}
use Rattle.lease_coherence.proofs.late.SafeWrites.{WriteSafe, given_writes, holds_write}
use Rattle.lease_coherence.proofs.moves.Frames.{stepped_past, stepped_replies}
use Rattle.lease_coherence.proofs.names.NamedInRecord.{each_append, each_weaker}
use Rattle.lease_coherence.proofs.records.Later.{past_noted}
use Rattle.lease_coherence.proofs.records.Once.{buffered_number, unbuffered_clean, written_number}
use Rattle.lease_coherence.proofs.standing.Standing.{step_of}
use Rattle.lease_coherence.proofs.writes.Counts.{settles_of, settling, settling_last}
use Rattle.lease_coherence.proofs.writes.Steps.{IsKnownBy}

-- ---- what notes say of writes that were given before

pub noted_buffered : (c file number last new : ℕ) (past : List Fact) (notes : List Note) → TellNumbers last notes new
    → number ≤ last → has_buffered c file number (past_noted c past notes) ≡ has_buffered c file number past
unfolding has_buffered
noted_buffered c file number last new past [] tells low = refl
noted_buffered c file number last new past (Note.Settled n outcome ∷ notes) tells low =
    noted_buffered c file number last new (fact_of c (Note.Settled n outcome) ∷ past) notes tells.1 low
noted_buffered c file number last new past (Note.Wrote f n patch buffered ∷ notes) tells low =
    noted_buffered c file number n new (fact_of c (Note.Wrote f n patch buffered) ∷ past) notes tells.1
    (omega (arith, low, tells.0))
    ∙ other (n == number) (not_true (n == number) (λ same. omega (arith, low, tells.0, eqb-true n number same)))
  where
    other : (b : Bool) → b ≡ false
        → ((c == c && f == file && b && buffered) || has_buffered c file number past) ≡ has_buffered c file number past
    other b e = rw (e) (none (c == c && f == file))
      where
        none : (a : Bool) → ((a && false && buffered) || has_buffered c file number past) ≡ has_buffered c file number past
        none true = refl
        none false = refl
noted_buffered c file number last new past (Note.Believes f state ∷ notes) tells low =
    noted_buffered c file number last new (fact_of c (Note.Believes f state) ∷ past) notes tells low
noted_buffered c file number last new past (Note.CachedRead f bytes ∷ notes) tells low =
    noted_buffered c file number last new (fact_of c (Note.CachedRead f bytes) ∷ past) notes tells low

-- a number that wasn't given yet
pub new_number : (c : ℕ) (client : Client) (past : List Fact) → IsKnownBy c client past → (file : ℕ)
    → has_buffered c file (client.last_number + 1) past ≡ false
new_number c client past k file = not_true (has_buffered c file (client.last_number + 1) past)
    (λ b. omega (arith, k.low (client.last_number + 1) (buffered_number c file (client.last_number + 1) past b)))

-- a write that is sent at once isn't buffered
sent_plain : (c at file number : ℕ) (patch : Patch) (past : List Fact) → has_buffered c file number past ≡ false
    → has_buffered c file number (Fact.Wrote c at number patch false ∷ past) ≡ false
unfolding has_buffered
sent_plain c at file number patch past e = none (c == c && at == file && number == number)
  where
    none : (a : Bool) → ((a && false) || has_buffered c file number past) ≡ false
    none true = e
    none false = e

-- ---- the step

pub record IsStepWell (world : World) (c : ℕ) (settles : ℕ → ℕ) (step : Step) : Type 0 where
  pub up : is_up (world.links c) ≡ true
  pub guid : step.client.guid ≡ (world.clients c).guid
  pub files : step.client.files ≡ (world.clients c).files
  pub client_sound : IsSoundClient (world.clients c)
  pub server_sound : IsSound world.server
  pub ids : KnowsIds world c
  pub known : IsKnownBy c (world.clients c) world.past
  pub named : AllAsked (IsNamedRequest c (world.clients c).guid world.past) world c
  pub tells : TellNumbers (world.clients c).last_number step.notes step.client.last_number
  pub from : StepFrom (world.clients c) settles step
  pub anchors : AnchorsOn (world.clients c) step
  pub answers : (file : ℕ) → world.server.expired (machine_key world c file) ≡ false
      → (acks (file_key world c file) (world.requests c) ≡ 0)
      ⊎ ((live : LiveEntry) → ((world.clients c).entries file).phase ≡ Phase.Live live → live.belief.write ≡ true
      → Each (AckKeeps (file_key world c file)) (world.requests c))
  pub stands : (file : ℕ) (live : LiveEntry) → ((world.clients c).entries file).phase ≡ Phase.Live live
      → world.server.expired (machine_key world c file) ≡ false → IsOpenFor world c file live.file_id
  pub unknown : (file : ℕ) (parted : Parted) → knows_file (world.clients c) file ≡ false
      → (step.client.entries file).phase ≡ Phase.Reconnecting parted → ⊥
  pub live_ids : (file : ℕ) (live : LiveEntry) → ((world.clients c).entries file).phase ≡ Phase.Live live
      → was_opened live.file_id file c world.past ≡ true

-- the same opens and leases, in another world
pub record IsSameIn (world new : World) (c : ℕ) : Type 0 where
  pub opens : new.server.opens ≡ world.server.opens
  pub holds : (file : ℕ) → holds_write new c file ≡ holds_write world c file
  pub expired : (file : ℕ) → new.server.expired (machine_key new c file) ≡ world.server.expired (machine_key world c file)
  pub key : (file : ℕ) → file_key new c file ≡ file_key world c file
  pub touched : (file number : ℕ) → is_touched c file number new.past ≡ is_touched c file number world.past

same_in : (world : World) (c : ℕ) (step : Step) → is_up (world.links c) ≡ true
    → step.client.guid ≡ (world.clients c).guid → IsSameIn world (stepped_in world c step) c
same_in world c step up guid = let is = step_of world c step up guid in
    let key : (file : ℕ) → machine_key (stepped_in world c step) c file ≡ machine_key world c file =
    λ file. ap (λ (m : Client). key_of c (lease_key m.guid file)) is.clients
    ∙ ap (λ g. key_of c (lease_key g file)) guid in record {
      opens = ap (λ (s : Server). s.opens) is.server;
      holds = λ file. ap₂ (λ (s : Server) k. (s.leases k).state.write) is.server (key file);
      expired = λ file. ap₂ (λ (s : Server) k. s.expired k) is.server (key file);
      key = λ file. ap (λ (m : Client). lease_key m.guid file) is.clients ∙ ap (λ g. lease_key g file) guid;
      touched = λ file number. ap (is_touched c file number) (stepped_past world c step)
          ∙ noted_touched c c file number world.past step.notes;
    }

pub any_same : (world : World) (c : ℕ) (step : Step) → step.client.guid ≡ (world.clients c).guid
    → IsSameIn world (stepped_in world c step) c
any_same world c step guid =
    let server = stepped_server world c step in
    let machine = stepped_machine world c step in
    let key : (file : ℕ) → machine_key (stepped_in world c step) c file ≡ machine_key world c file =
    λ file. ap (λ (m : Client). key_of c (lease_key m.guid file)) machine ∙ ap (λ g. key_of c (lease_key g file)) guid in record {
      opens = ap (λ (s : Server). s.opens) server;
      holds = λ file. ap₂ (λ (s : Server) k. (s.leases k).state.write) server (key file);
      expired = λ file. ap₂ (λ (s : Server) k. s.expired k) server (key file);
      key = λ file. ap (λ (m : Client). lease_key m.guid file) machine ∙ ap (λ g. lease_key g file) guid;
      touched = λ file number. ap (is_touched c file number) (stepped_past world c step)
          ∙ noted_touched c c file number world.past step.notes;
    }

phase_same : (world new : World) (c file : ℕ) (sent : List Pending) (phase : Phase) → IsSameIn world new c
    → PhaseSafe world c file sent phase → PhaseSafe new c file sent phase
phase_same world new c file sent (Phase.Live live) i p = λ x there by id write.
    let old = p x (subst (λ (l : List Open). Among x l) i.opens there) by id write in (
      i.holds file ∙ old.0,
      each_weaker (IsClean c file world.past) (IsClean c file new.past) (sent ++ live.unsent)
          (λ w clean b. i.touched file w.number ∙ clean b) old.1,
    )
phase_same world new c file sent (Phase.Offline parted) i p = λ x there by id.
    each_weaker (KeptWrite world c file) (KeptWrite new c file) parted.writes
    (λ w k. (i.holds file ∙ k.0, i.touched file w.number ∙ k.1)) (p x (subst (λ (l : List Open). Among x l) i.opens there) by id)
phase_same world new c file sent (Phase.Reconnecting parted) i p = λ x there by id.
    each_weaker (KeptWrite world c file) (KeptWrite new c file) parted.writes
    (λ w k. (i.holds file ∙ k.0, i.touched file w.number ∙ k.1)) (p x (subst (λ (l : List Open). Among x l) i.opens there) by id)
phase_same world new c file sent phase i p = tt

pub stepped_entries : (world : World) (c : ℕ) (step : Step) → step.client.guid ≡ (world.clients c).guid
    → StepSafe world c (world.clients c) step → IsSafeAt world c → IsSafeAt (stepped_in world c step) c
stepped_entries world c step guid safe e file =
    subst (λ (m : Client). PhaseSafe (stepped_in world c step) c file (m.entries file).sent (m.entries file).phase)
    (sym (stepped_machine world c step))
    (phase_same world (stepped_in world c step) c file (step.client.entries file).sent (step.client.entries file).phase
    (any_same world c step guid) (safe file (e file)))

-- ---- what is on its way

-- writes that were on their way
old_safe : (world : World) (c : ℕ) (settles : ℕ → ℕ) (step : Step) → IsStepWell world c settles step → (r : Request)
    → WriteSafe world c r → IsNamedRequest c (world.clients c).guid world.past r → WriteSafe (stepped_in world c step) c r
old_safe world c settles step w (Request.OnFile (FileRequest.Write file_id number patch)) safe n = λ x there by id.
    let i = same_in world c step w.up w.guid in
    let old = safe x (subst (λ (l : List Open). Among x l) i.opens there) by id in record {
      held = λ b. i.holds x.file ∙ old.held (sym (buffered_same x.file) ∙ b);
      clean = i.touched x.file number ∙ old.clean;
    }
  where
    buffered_same : (f : ℕ) → has_buffered c f number (stepped_in world c step).past ≡ has_buffered c f number world.past
    buffered_same f = ap (has_buffered c f number) (stepped_past world c step)
        ∙ noted_buffered c f number (world.clients c).last_number step.client.last_number world.past step.notes w.tells
        (w.known.low number (written_number c n.file number patch world.past n.written))
old_safe world c settles step w (Request.OnFile (FileRequest.Create f access share contexts)) safe n = tt
old_safe world c settles step w (Request.Acknowledge given) safe n = tt
old_safe world c settles step w (Request.OnFile request) safe n = tt

old_plain : (world : World) (c : ℕ) (settles : ℕ → ℕ) (step : Step) → IsStepWell world c settles step → (r : FileRequest)
    → HeldPlain world c (Request.OnFile r) → IsNamedRequest c (world.clients c).guid world.past (Request.OnFile r)
    → HeldPlain (stepped_in world c step) c (Request.OnFile r)
old_plain world c settles step w (FileRequest.Write file_id number patch) plain n = λ x there by id.
    let i = same_in world c step w.up w.guid in
    ap (has_buffered c x.file number) (stepped_past world c step)
    ∙ noted_buffered c x.file number (world.clients c).last_number step.client.last_number world.past step.notes w.tells
    (w.known.low number (written_number c n.file number patch world.past n.written))
    ∙ plain x (subst (λ (l : List Open). Among x l) i.opens there) by id
old_plain world c settles step w request plain n = tt

other_safe : (world : World) (c : ℕ) (r : Request) → IsOther r → WriteSafe world c r
other_safe world c (Request.OnFile (FileRequest.Write file_id number patch)) o = absurd o
other_safe world c request o = tt

other_plain : (world : World) (c file : ℕ) (r : Request) → IsOther r → NotBuffered world c file r
other_plain world c file (Request.OnFile (FileRequest.Write file_id number patch)) o = absurd o
other_plain world c file request o = tt

each_writes : (P : Request → Type 0) (file_id : ℕ) (writes : List Pending) (tail : List Request)
    → ((w : Pending) → Among w writes → P (Request.OnFile (FileRequest.Write file_id w.number w.patch))) → Each P tail
    → Each P (write_requests file_id writes ++ tail)
each_writes P file_id [] tail each rest = rest
each_writes P file_id (w ∷ writes) tail each rest =
    (each w (inl refl), each_writes P file_id writes tail (λ x a. each x (inr a)) rest)

buffered_among : (writes : List Pending) (w : Pending) → are_buffered writes ≡ true → Among w writes → w.buffered ≡ true
buffered_among [] w all a = absurd a
buffered_among (x ∷ writes) w all a = let p = and_parts x.buffered (are_buffered writes) all in
    ⊎_elim (λ same. ap (λ (y : Pending). y.buffered) same ∙ p.0) (λ later. buffered_among writes w p.1 later) a

-- a write that was unsent
unsent_safe : (world : World) (c : ℕ) (settles : ℕ → ℕ) (step : Step) → IsStepWell world c settles step → IsSafeAt world c
    → (at : ℕ) (live : LiveEntry) → ((world.clients c).entries at).phase ≡ Phase.Live live → (w : Pending)
    → Among w live.unsent → (x : Open) → Among x world.server.opens → x.client ≡ c → x.file_id ≡ live.file_id
    → (holds_write world c at ≡ true) × (is_touched c at w.number world.past ≡ false)
unsent_safe world c settles step w e at live is write a x there by id =
    let l = sound_live (world.clients c) at live w.client_sound is in
    let safe : LiveSafe world c at ((world.clients c).entries at).sent live =
    subst (PhaseSafe world c at ((world.clients c).entries at).sent) is (e at) in
    let old = safe x there by id (unsent_writes live l write a) in (
      old.0,
      at_among (IsClean c at world.past) (((world.clients c).entries at).sent ++ live.unsent) write old.1
          (among_behind write ((world.clients c).entries at).sent live.unsent a)
          (buffered_among live.unsent write l.unsent_buffered a),
    )

new_safe : (world : World) (c : ℕ) (settles : ℕ → ℕ) (step : Step) → IsStepWell world c settles step → IsSafeAt world c
    → Each (WriteSafe (stepped_in world c step) c) step.requests
new_safe world c settles step w e = by_sends w.from.sends
  where
    i : IsSameIn world (stepped_in world c step) c
    i = same_in world c step w.up w.guid

    by_sends : SendsWrites (world.clients c) step → Each (WriteSafe (stepped_in world c step) c) step.requests
    by_sends (SendsWrites.NoWrite others) =
        each_weaker IsOther (WriteSafe (stepped_in world c step) c) step.requests (other_safe (stepped_in world c step) c) others
    by_sends (SendsWrites.Flush at live is writes all tail others are) =
        subst (Each (WriteSafe (stepped_in world c step) c)) (sym are)
        (each_writes (WriteSafe (stepped_in world c step) c) live.file_id writes tail
        (λ write a x there by id.
        let was = subst (λ (l : List Open). Among x l) i.opens there in
        let on = (w.ids.on live.file_id at (w.live_ids at live is) x was id).0 in
        let safe = unsent_safe world c settles step w e at live is write (all write a) x was by id in
        subst (λ f. IsSafeWrite c f write.number (stepped_in world c step).past (holds_write (stepped_in world c step) c f))
        (sym on) (record {
          held = λ b. i.holds at ∙ safe.0;
          clean = i.touched at write.number ∙ safe.1;
        })) (each_weaker IsOther (WriteSafe (stepped_in world c step) c) tail (other_safe (stepped_in world c step) c) others))
    by_sends (SendsWrites.New at live is patch are notes) =
        let number = (world.clients c).last_number + 1 in
        subst (Each (WriteSafe (stepped_in world c step) c)) (sym are) (
          (λ x there by id. let none = plain x.file in record {
            held = λ b. clash (has_buffered c x.file number (stepped_in world c step).past) b none;
            clean = unbuffered_clean c x.file number (stepped_in world c step).past none;
          }),
          tt,
        )
      where
        plain : (f : ℕ) → has_buffered c f ((world.clients c).last_number + 1) (stepped_in world c step).past ≡ false
        plain f = ap (has_buffered c f ((world.clients c).last_number + 1))
            (stepped_past world c step ∙ ap (past_noted c world.past) notes)
            ∙ sent_plain c at f ((world.clients c).last_number + 1) patch world.past
            (new_number c (world.clients c) world.past w.known f)

-- ---- acknowledgments

acks_more : (world : World) (c : ℕ) (queue more : List Request) → AcksKeep world c queue
    → ((file : ℕ) → Each (AckKeeps (file_key world c file)) queue ⊎ Each (NotBuffered world c file) more)
    → AcksKeep world c more → AcksKeep world c (queue ++ more)
acks_more world c [] more a hyp m = m
acks_more world c (Request.OnFile request ∷ queue) more a hyp m = acks_more world c queue more a
    (λ file. ⊎_elim (λ each. inl each.1) (λ none. inr none) (hyp file)) m
acks_more world c (Request.Acknowledge given ∷ queue) more a hyp m = (
  λ file. ⊎_elim (λ keeps. inl keeps)
      (λ none. ⊎_elim (λ each. inl each.0)
      (λ also. inr (each_append (NotBuffered world c file) queue more none also)) (hyp file)) (a.0 file),
  acks_more world c queue more a.1 (λ file. ⊎_elim (λ each. inl each.1) (λ none. inr none) (hyp file)) m,
)

others_keep : (world : World) (c : ℕ) (queue : List Request) → Each IsOther queue → AcksKeep world c queue
others_keep world c [] each = tt
others_keep world c (Request.OnFile request ∷ queue) each = others_keep world c queue each.1
others_keep world c (Request.Acknowledge given ∷ queue) each = (
  λ file. inr (each_weaker IsOther (NotBuffered world c file) queue (other_plain world c file) each.1),
  others_keep world c queue each.1,
)

writes_keep : (world : World) (c file_id : ℕ) (writes : List Pending) (tail : List Request) → AcksKeep world c tail
    → AcksKeep world c (write_requests file_id writes ++ tail)
writes_keep world c file_id [] tail a = a
writes_keep world c file_id (w ∷ writes) tail a = writes_keep world c file_id writes tail a

-- what stays of those on their way
old_acks : (world : World) (c : ℕ) (settles : ℕ → ℕ) (step : Step) → IsStepWell world c settles step
    → (queue : List Request) → Each (IsNamedRequest c (world.clients c).guid world.past) queue → AcksKeep world c queue
    → AcksKeep (stepped_in world c step) c queue
old_acks world c settles step w [] n a = tt
old_acks world c settles step w (Request.OnFile request ∷ queue) n a = old_acks world c settles step w queue n.1 a
old_acks world c settles step w (Request.Acknowledge given ∷ queue) n a = (
  λ file. ⊎_elim
      (λ keeps. inl (subst (λ key. AckKeeps key (Request.Acknowledge given))
      (sym ((same_in world c step w.up w.guid).key file)) keeps))
      (λ none. inr (still file queue n.1 none)) (a.0 file),
  old_acks world c settles step w queue n.1 a.1,
)
  where
    still : (file : ℕ) (rest : List Request) → Each (IsNamedRequest c (world.clients c).guid world.past) rest
        → Each (NotBuffered world c file) rest → Each (NotBuffered (stepped_in world c step) c file) rest
    still file [] m none = tt
    still file (Request.OnFile (FileRequest.Write file_id number patch) ∷ rest) m none = (
      λ x there by id on.
          let named : WasWrittenOn c file_id number patch world.past = m.0 in
          ap (has_buffered c file number) (stepped_past world c step)
          ∙ noted_buffered c file number (world.clients c).last_number step.client.last_number world.past step.notes w.tells
          (w.known.low number (written_number c named.file number patch world.past named.written))
          ∙ none.0 x (subst (λ (l : List Open). Among x l) (same_in world c step w.up w.guid).opens there) by id on,
      still file rest m.1 none.1,
    )
    still file (Request.OnFile (FileRequest.Create f access share contexts) ∷ rest) m none = (tt, still file rest m.1 none.1)
    still file (Request.OnFile (FileRequest.Read file_id) ∷ rest) m none = (tt, still file rest m.1 none.1)
    still file (Request.OnFile (FileRequest.Close file_id) ∷ rest) m none = (tt, still file rest m.1 none.1)
    still file (Request.Acknowledge other ∷ rest) m none = (tt, still file rest m.1 none.1)

-- the new writes against the acknowledgments before them
new_acks : (world : World) (c : ℕ) (settles : ℕ → ℕ) (step : Step) → IsStepWell world c settles step → IsSafeAt world c
    → (file : ℕ) → Each (AckKeeps (file_key world c file)) (world.requests c)
    ⊎ Each (NotBuffered (stepped_in world c step) c file) step.requests
new_acks world c settles step w e file = by_sends w.from.sends
  where
    i : IsSameIn world (stepped_in world c step) c
    i = same_in world c step w.up w.guid

    others_plain : (queue : List Request) → Each IsOther queue → Each (NotBuffered (stepped_in world c step) c file) queue
    others_plain queue others = each_weaker IsOther (NotBuffered (stepped_in world c step) c file) queue
        (other_plain (stepped_in world c step) c file) others

    -- where its open is there, the client still caches writes, so that all acknowledgments keep them
    open_there : (at : ℕ) (live : LiveEntry) → ((world.clients c).entries at).phase ≡ Phase.Live live
        → (write : Pending) → Among write live.unsent → (x : Open) → Among x world.server.opens → x.client ≡ c
        → x.file_id ≡ live.file_id → Each (AckKeeps (file_key world c at)) (world.requests c)
    open_there at live is write a x there by id =
        let safe = unsent_safe world c settles step w e at live is write a x there by id in
        let fresh = not_true (world.server.expired (machine_key world c at)) (λ out. clash (holds_write world c at) safe.0
        (ap (λ (l : Lease). l.state.write) (w.server_sound.timed_out (machine_key world c at) out))) in ⊎_elim
        (λ zero. no_acks_keep (file_key world c at) (world.requests c) zero)
        (λ keeps. keeps live is (unsent_writes live (sound_live (world.clients c) at live w.client_sound is) write a))
        (w.answers at fresh)

    by_sends : SendsWrites (world.clients c) step → Each (AckKeeps (file_key world c file)) (world.requests c)
        ⊎ Each (NotBuffered (stepped_in world c step) c file) step.requests
    by_sends (SendsWrites.NoWrite others) = inr (others_plain step.requests others)
    by_sends (SendsWrites.New at live is patch are notes) = inr
        (subst (Each (NotBuffered (stepped_in world c step) c file)) (sym are) (
          (λ x there by id on. ap (has_buffered c file ((world.clients c).last_number + 1))
              (stepped_past world c step ∙ ap (past_noted c world.past) notes)
              ∙ sent_plain c at file ((world.clients c).last_number + 1) patch world.past
              (new_number c (world.clients c) world.past w.known file)),
          tt,
        ))
    by_sends (SendsWrites.Flush at live is [] all tail others are) =
        inr (subst (Each (NotBuffered (stepped_in world c step) c file)) (sym are) (others_plain tail others))
    by_sends (SendsWrites.Flush at live is (write ∷ writes) all tail others are) = either (at == file)
        (λ same. either (list_any (λ x. x.file_id == live.file_id && x.client == c) world.server.opens)
        (λ some. let x = any_has (λ x. x.file_id == live.file_id && x.client == c) world.server.opens some in
        let p = and_parts ((x.0).file_id == live.file_id) ((x.0).client == c) x.2 in
        inl (subst (λ f. Each (AckKeeps (file_key world c f)) (world.requests c)) (eqb-true at file same)
        (open_there at live is write (all write (inl refl)) x.0 x.1 (eqb-true (x.0).client c p.1)
        (eqb-true (x.0).file_id live.file_id p.0))))
        (λ none. inr (subst (Each (NotBuffered (stepped_in world c step) c file)) (sym are)
        (each_writes (NotBuffered (stepped_in world c step) c file) live.file_id (write ∷ writes) tail
        (λ y a x there by id on. clash (list_any (λ z. z.file_id == live.file_id && z.client == c) world.server.opens)
        (has_any (λ z. z.file_id == live.file_id && z.client == c) x world.server.opens
        (subst (λ (l : List Open). Among x l) i.opens there)
        (and_both (x.file_id == live.file_id) (x.client == c) (eq-eqb x.file_id live.file_id id) (eq-eqb x.client c by))) none)
        (others_plain tail others)))))
        (λ apart. inr (subst (Each (NotBuffered (stepped_in world c step) c file)) (sym are)
        (each_writes (NotBuffered (stepped_in world c step) c file) live.file_id (write ∷ writes) tail
        (λ y a x there by id on. clash (at == file) (eq-eqb at file (sym (w.ids.on live.file_id at (w.live_ids at live is) x
        (subst (λ (l : List Open). Among x l) i.opens there) id).0 ∙ on)) apart) (others_plain tail others))))

more_acks : (world : World) (c : ℕ) (settles : ℕ → ℕ) (step : Step) → IsStepWell world c settles step
    → AcksKeep (stepped_in world c step) c step.requests
more_acks world c settles step w = by_sends w.from.sends
  where
    by_sends : SendsWrites (world.clients c) step → AcksKeep (stepped_in world c step) c step.requests
    by_sends (SendsWrites.NoWrite others) = others_keep (stepped_in world c step) c step.requests others
    by_sends (SendsWrites.Flush at live is writes all tail others are) = subst (AcksKeep (stepped_in world c step) c) (sym are)
        (writes_keep (stepped_in world c step) c live.file_id writes tail (others_keep (stepped_in world c step) c tail others))
    by_sends (SendsWrites.New at live is patch are notes) = subst (AcksKeep (stepped_in world c step) c) (sym are) tt

-- ---- grants

grant_after : (world : World) (c : ℕ) (settles : ℕ → ℕ) (step : Step) → IsStepWell world c settles step
    → IsSafeAt world c → (file : ℕ) → EntryFrom ((world.clients c).entries file) (step.client.entries file) settles
    → (front left : List Reply) → ((n : ℕ) → settling n front ≡ settles n + settling n left) → (reply : Reply)
    → GrantSafe world c file ((world.clients c).entries file).sent front reply
    → GrantSafe (stepped_in world c step) c file (step.client.entries file).sent left reply
grant_after world c settles step w e file from front left sum (Reply.Created other file_id (Some answer)) g =
    λ same x there by id.
    let i = same_in world c step w.up w.guid in
    let safe = g same x (subst (λ (l : List Open). Among x l) i.opens there) by id in record {
      timely = λ gives. i.expired file ∙ safe.timely (ap (λ k. given_writes k answer.lease) (sym (i.key file)) ∙ gives);
      clean = λ gives write a buffered none.
          let given = ap (λ k. (given_state k answer.lease).write) (sym (i.key file)) ∙ gives in
          i.touched file write.number ∙ by_from safe given write buffered none (from.sent write a);
    }
  where
    by_from : IsGrantSafe world c file file_id ((world.clients c).entries file).sent front answer.lease
        → (given_state (file_key world c file) answer.lease).write ≡ true → (write : Pending) → write.buffered ≡ true
        → settling write.number left ≡ 0 → SentFrom ((world.clients c).entries file) settles write
        → is_touched c file write.number world.past ≡ false
    by_from safe given write buffered none (SentFrom.Was there unsettled) = safe.clean given write there buffered
        (omega (arith, sum write.number, unsettled, none))
    by_from safe given write buffered none (SentFrom.Unsent live is there) =
        let o = w.stands file live is (safe.timely (given_so (file_key world c file) answer.lease given)) in
        (unsent_safe world c settles step w e file live is write there o.one o.there o.by o.id).1
    by_from safe given write buffered none (SentFrom.Plain plain) = clash write.buffered buffered plain
grant_after world c settles step w e file from front left sum (Reply.Created other file_id None) g = tt
grant_after world c settles step w e file from front left sum reply g = tt

grants_after : (world : World) (c : ℕ) (settles : ℕ → ℕ) (step : Step) → IsStepWell world c settles step
    → IsSafeAt world c → (file : ℕ) → EntryFrom ((world.clients c).entries file) (step.client.entries file) settles
    → (front left : List Reply) → ((n : ℕ) → settling n front ≡ settles n + settling n left) → (queue : List Reply)
    → GrantsSafe world c file ((world.clients c).entries file).sent front queue
    → GrantsSafe (stepped_in world c step) c file (step.client.entries file).sent left queue
grants_after world c settles step w e file from front left sum [] g = tt
grants_after world c settles step w e file from front left sum (reply ∷ queue) g = (
  grant_after world c settles step w e file from front left sum reply g.0,
  grants_after world c settles step w e file from (front ++ reply ∷ []) (left ++ reply ∷ [])
      (λ n. settling_last n front reply ∙ ap (λ a. a + settles_of n reply) (sum n)
      ∙ (omega arith) ∙ ap (λ a. settles n + a) (sym (settling_last n left reply))) queue g.1,
)

-- ---- all of it

-- what was safe on its way before the step, with the replies that are left behind those taken
pub record IsOnWay (world : World) (c : ℕ) (front : List Reply) : Type 0 where
  pub writes : AllAsked (WriteSafe world c) world c
  pub held : (file : ℕ) (one : Held) → Among one (world.server.held file) → one.client ≡ c
      → HeldPlain world c (Request.OnFile one.request)
  pub acks_keep : AcksKeep world c (world.requests c)
  pub again : (file : ℕ) (parted : Parted) → ((world.clients c).entries file).phase ≡ Phase.Reconnecting parted
      → acks (file_key world c file) (world.requests c) ≡ 0
  pub given : (file : ℕ) → knows_file (world.clients c) file ≡ true
      → GrantsSafe world c file ((world.clients c).entries file).sent front (world.replies c)

pub stepped_up : (world : World) (c : ℕ) (settles : ℕ → ℕ) (step : Step) (front : List Reply)
    → IsStepWell world c settles step → ((n : ℕ) → settling n front ≡ settles n + 0) → IsSafeAt world c
    → IsOnWay world c front → IsSafeUp (stepped_in world c step) c
stepped_up world c settles step front w sum e o =
    let new = stepped_in world c step in
    let is = step_of world c step w.up w.guid in
    let i = same_in world c step w.up w.guid in
    let old = asked_both (WriteSafe world c) (IsNamedRequest c (world.clients c).guid world.past) (WriteSafe new c) world c
    (old_safe world c settles step w) o.writes w.named in record {
      writes = record {
        queued = subst (Each (WriteSafe new c)) (sym is.queued)
            (each_append (WriteSafe new c) (world.requests c) step.requests old.queued (new_safe world c settles step w e));
        held = λ file one a own. old.held file one (subst (λ (s : Server). Among one (s.held file)) is.server a) own;
      };
      held = λ file one a own. let was = subst (λ (s : Server). Among one (s.held file)) is.server a in
          old_plain world c settles step w one.request (o.held file one was own) (w.named.held file one was own);
      acks_keep = subst (AcksKeep new c) (sym is.queued) (acks_more new c (world.requests c) step.requests
          (old_acks world c settles step w (world.requests c) w.named.queued o.acks_keep)
          (λ file. ⊎_elim (λ keeps. inl (subst (λ k. Each (AckKeeps k) (world.requests c)) (sym (i.key file)) keeps))
          (λ none. inr none) (new_acks world c settles step w e file)) (more_acks world c settles step w));
      again = λ file parted phase. ap₂ acks (i.key file) is.queued
          ∙ none_more file parted (ap (λ (m : Client). (m.entries file).phase) (sym is.clients) ∙ phase);
      given = λ file known. subst (λ (m : Client). GrantsSafe new c file (m.entries file).sent [] (new.replies c))
          (sym is.clients) (subst (λ (r : ℕ → List Reply). GrantsSafe new c file (step.client.entries file).sent [] (r c))
          (sym (stepped_replies world c step)) (let k = was_known file known in
          grants_after world c settles step w e file (w.from.entries file k) front [] sum (world.replies c) (o.given file k)));
    }
  where
    was_known : (file : ℕ) → knows_file ((stepped_in world c step).clients c) file ≡ true
        → knows_file (world.clients c) file ≡ true
    was_known file known = ap (λ n. knows_file (record (world.clients c) { files = n }) file) (sym w.files)
        ∙ ap (λ (m : Client). knows_file m file) (sym (stepped_machine world c step)) ∙ known

    none_more : (file : ℕ) (parted : Parted) → (step.client.entries file).phase ≡ Phase.Reconnecting parted
        → acks (file_key world c file) (world.requests c ++ step.requests) ≡ 0
    none_more file parted phase = either (knows_file (world.clients c) file)
        (λ known. let was = (w.from.entries file known).again parted phase in
        acks_append (file_key world c file) (world.requests c) step.requests
        ∙ zeros (acks (file_key world c file) (world.requests c)) (acks (file_key world c file) step.requests)
        (o.again file parted was)
        (⊎_elim (λ zero. zero) (λ (l : AnchorsLive (world.clients c) file step). absurd (no_live l.live parted (sym l.was ∙ was)))
        (w.anchors file)))
        (λ unknown. absurd (w.unknown file parted unknown phase))
      where
        zeros : (a b : ℕ) → a ≡ 0 → b ≡ 0 → a + b ≡ 0
        zeros a b e f = omega (arith, e, f)

        no_live : (live : LiveEntry) (p : Parted) → Phase.Live live ≡ Phase.Reconnecting p → ⊥
        no_live live p e = cc
