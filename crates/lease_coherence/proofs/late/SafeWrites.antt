-- Which writes of a client may still be accepted, and that no other client opened or changed their files: in its
-- entries, on their way, and over a lost connection.
use Rattle.lease_laws.proofs.Words.{◌&&◌, ◌++◌, ◌||◌, ◌∙◌, ◌∷◌, ◌≡◌, ◌≤◌, ◌⊎◌, Among, Bool, Client, Fact, FileRequest, Held}
use Rattle.lease_laws.proofs.Words.{LeaseGiven, List, LiveEntry, None, Open, Option, Parted, Pending, Phase, Reply, Request}
use Rattle.lease_laws.proofs.Words.{Some, World, ℕ, [], ⊤, ap, bytes_eq, false, given_state, has_buffered, inl, inr, is_touched}
use Rattle.lease_laws.proofs.Words.{is_up, knows_file, lease_key, machine_key, refl, subst, sym, true, was_opened}
use Rattle.lease_coherence.specs.Names.{Each}
use Rattle.lease_coherence.specs.Standing.{AllAsked}
use Rattle.lease_coherence.proofs.beliefs.OneLease.{AckKeeps, acks}
use Rattle.lease_coherence.proofs.beliefs.Trust.{file_key}
use Rattle.lease_coherence.proofs.names.NamedInRecord.{each_weaker}
use Rattle.lease_coherence.proofs.writes.Counts.{settling}

-- the lease of a file holds writes
abbrev pub holds_write : World → ℕ → ℕ → Bool
holds_write world c file = (world.server.leases (machine_key world c file)).state.write

-- ---- writes

-- a write that may be accepted: where it was buffered the lease holds writes, and no other touched the file since
pub record IsSafeWrite (c file number : ℕ) (past : List Fact) (write : Bool) : Type 0 where
  pub held : has_buffered c file number past ≡ true → write ≡ true
  pub clean : is_touched c file number past ≡ false

abbrev pub IsClean : ℕ → ℕ → List Fact → Pending → Type 0
IsClean c file past write = write.buffered ≡ true → is_touched c file write.number past ≡ false

abbrev pub WriteSafe : World → ℕ → Request → Type 0
WriteSafe world c (Request.OnFile (FileRequest.Write file_id number patch)) = (x : Open) → Among x world.server.opens
    → x.client ≡ c → x.file_id ≡ file_id → IsSafeWrite c x.file number world.past (holds_write world c x.file)
WriteSafe world c request = ⊤

-- a write that is held wasn't buffered
abbrev pub HeldPlain : World → ℕ → Request → Type 0
HeldPlain world c (Request.OnFile (FileRequest.Write file_id number patch)) = (x : Open) → Among x world.server.opens
    → x.client ≡ c → x.file_id ≡ file_id → has_buffered c x.file number world.past ≡ false
HeldPlain world c request = ⊤

-- ---- entries

abbrev pub LiveSafe : World → ℕ → ℕ → List Pending → LiveEntry → Type 0
LiveSafe world c file sent live = (x : Open) → Among x world.server.opens → x.client ≡ c → x.file_id ≡ live.file_id
    → live.belief.write ≡ true → (holds_write world c file ≡ true) × Each (IsClean c file world.past) (sent ++ live.unsent)

abbrev pub KeptWrite : World → ℕ → ℕ → Pending → Type 0
KeptWrite world c file write = (holds_write world c file ≡ true) × (is_touched c file write.number world.past ≡ false)

abbrev pub KeptSafe : World → ℕ → ℕ → Parted → Type 0
KeptSafe world c file parted = (x : Open) → Among x world.server.opens → x.client ≡ c → x.file_id ≡ parted.file_id
    → Each (KeptWrite world c file) parted.writes

abbrev pub PhaseSafe : World → ℕ → ℕ → List Pending → Phase → Type 0
PhaseSafe world c file sent (Phase.Live live) = LiveSafe world c file sent live
PhaseSafe world c file sent (Phase.Offline parted) = KeptSafe world c file parted
PhaseSafe world c file sent (Phase.Reconnecting parted) = KeptSafe world c file parted
PhaseSafe world c file sent phase = ⊤

-- over any link
abbrev pub IsSafeAt : World → ℕ → Type 0
IsSafeAt world c = (file : ℕ)
    → PhaseSafe world c file ((world.clients c).entries file).sent ((world.clients c).entries file).phase

-- ---- acknowledgments on their way

abbrev pub NotBuffered : World → ℕ → ℕ → Request → Type 0
NotBuffered world c file (Request.OnFile (FileRequest.Write file_id number patch)) = (x : Open)
    → Among x world.server.opens → x.client ≡ c → x.file_id ≡ file_id → x.file ≡ file
    → has_buffered c file number world.past ≡ false
NotBuffered world c file request = ⊤

-- one that gives writes up has no buffered write of its file behind it
abbrev pub AcksKeep : World → ℕ → List Request → Type 0
AcksKeep world c [] = ⊤
AcksKeep world c (Request.OnFile request ∷ queue) = AcksKeep world c queue
AcksKeep world c (Request.Acknowledge given ∷ queue) =
    ((file : ℕ) → AckKeeps (file_key world c file) (Request.Acknowledge given) ⊎ Each (NotBuffered world c file) queue)
    × AcksKeep world c queue

-- ---- grants on their way

abbrev pub given_writes : List ℕ → Option LeaseGiven → Bool
given_writes key None = false
given_writes key (Some given) = given.in_progress || (bytes_eq given.key key && given.state.write)

-- where a grant gives writes its key's timer didn't run out, and the writes that were sent, and that no reply before it
-- settles, are safe
pub record IsGrantSafe (world : World) (c file file_id : ℕ) (sent : List Pending) (front : List Reply)
    (given : Option LeaseGiven) : Type 0 where
  pub timely : given_writes (file_key world c file) given ≡ true → world.server.expired (machine_key world c file) ≡ false
  pub clean : (given_state (file_key world c file) given).write ≡ true → (write : Pending) → Among write sent
      → write.buffered ≡ true → settling write.number front ≡ 0 → is_touched c file write.number world.past ≡ false

abbrev pub GrantSafe : World → ℕ → ℕ → List Pending → List Reply → Reply → Type 0
GrantSafe world c file sent front (Reply.Created other file_id (Some answer)) = other ≡ file → (x : Open)
    → Among x world.server.opens → x.client ≡ c → x.file_id ≡ file_id → IsGrantSafe world c file file_id sent front answer.lease
GrantSafe world c file sent front reply = ⊤

abbrev pub GrantsSafe : World → ℕ → ℕ → List Pending → List Reply → List Reply → Type 0
GrantsSafe world c file sent front [] = ⊤
GrantsSafe world c file sent front (reply ∷ queue) =
    GrantSafe world c file sent front reply × GrantsSafe world c file sent (front ++ reply ∷ []) queue

-- ---- one client

-- while its link is up
pub record IsSafeUp (world : World) (c : ℕ) : Type 0 where
  pub writes : AllAsked (WriteSafe world c) world c
  pub held : (file : ℕ) (one : Held) → Among one (world.server.held file) → one.client ≡ c
      → HeldPlain world c (Request.OnFile one.request)
  pub acks_keep : AcksKeep world c (world.requests c)
  pub again : (file : ℕ) (parted : Parted) → ((world.clients c).entries file).phase ≡ Phase.Reconnecting parted
      → acks (file_key world c file) (world.requests c) ≡ 0
  pub given : (file : ℕ) → knows_file (world.clients c) file ≡ true
      → GrantsSafe world c file ((world.clients c).entries file).sent [] (world.replies c)

pub record IsNotLate (world : World) (c : ℕ) : Type 0 where
  pub entries : IsSafeAt world c
  pub up : is_up (world.links c) ≡ true → IsSafeUp world c

-- ---- what a move of the server leaves

-- an open that was there
pub record WasOpen (world : World) (x : Open) : Type 0 where
  pub was : Open
  pub there : Among was world.server.opens
  pub id : was.file_id ≡ x.file_id
  pub file : was.file ≡ x.file
  pub client : was.client ≡ x.client

pub record SamePast (c : ℕ) (past new : List Fact) : Type 0 where
  pub buffered : (file number : ℕ) → has_buffered c file number new ≡ has_buffered c file number past
  pub touched : (file number : ℕ) → is_touched c file number new ≡ is_touched c file number past

-- opens that have FileIds which were given were there, and the record says the same of the client's writes
pub record IsLike (world new : World) (c : ℕ) : Type 0 where
  pub machine : new.clients c ≡ world.clients c
  pub past : SamePast c world.past new.past
  pub from : (x : Open) → Among x new.server.opens → x.client ≡ c → x.file_id ≤ world.server.last_id → WasOpen world x
  pub timely : (file : ℕ) (x : Open) → Among x new.server.opens → x.client ≡ c → x.file ≡ file
      → world.server.expired (machine_key world c file) ≡ false → new.server.expired (machine_key new c file) ≡ false

-- where writes are held they still are
abbrev pub StillHolds : World → World → ℕ → Type 0
StillHolds world new c = (file : ℕ) (x : Open) → Among x new.server.opens → x.client ≡ c → x.file ≡ file
    → holds_write world c file ≡ true → holds_write new c file ≡ true

-- what is known of FileIds
pub record KnowsIds (world : World) (c : ℕ) : Type 0 where
  pub low : (file_id file : ℕ) → was_opened file_id file c world.past ≡ true → file_id ≤ world.server.last_id
  pub on : (file_id file : ℕ) → was_opened file_id file c world.past ≡ true → (x : Open) → Among x world.server.opens
      → x.file_id ≡ file_id → (x.file ≡ file) × (x.client ≡ c)

clean_like : (c file : ℕ) (past new : List Fact) → SamePast c past new → (writes : List Pending)
    → Each (IsClean c file past) writes → Each (IsClean c file new) writes
clean_like c file past new s writes each = each_weaker (IsClean c file past) (IsClean c file new) writes
    (λ w clean b. s.touched file w.number ∙ clean b) each

-- the client's machine in another world
pub same_key : (world new : World) (c : ℕ) → new.clients c ≡ world.clients c → (file : ℕ)
    → file_key new c file ≡ file_key world c file
same_key world new c machine file = ap (λ (m : Client). lease_key m.guid file) machine

pub phase_like : (world new : World) (c file : ℕ) (sent : List Pending) (phase : Phase) → IsLike world new c → KnowsIds world c
    → ((live : LiveEntry) → phase ≡ Phase.Live live → was_opened live.file_id file c world.past ≡ true)
    → ((parted : Parted) → (phase ≡ Phase.Offline parted) ⊎ (phase ≡ Phase.Reconnecting parted)
    → was_opened parted.file_id file c world.past ≡ true)
    → ((live : LiveEntry) → phase ≡ Phase.Live live → live.belief.write ≡ true → (x : Open) → Among x new.server.opens
    → x.client ≡ c → x.file ≡ file → holds_write world c file ≡ true → holds_write new c file ≡ true)
    → ((parted : Parted) → (phase ≡ Phase.Offline parted) ⊎ (phase ≡ Phase.Reconnecting parted) → (x : Open)
    → Among x new.server.opens → x.client ≡ c → x.file ≡ file → holds_write world c file ≡ true → holds_write new c file ≡ true)
    → PhaseSafe world c file sent phase → PhaseSafe new c file sent phase
phase_like world new c file sent (Phase.Live live) like ids live_ids parted_ids live_holds parted_holds p = λ x there by id write.
    let opened = live_ids live refl in
    let w = like.from x there by (subst (λ n. n ≤ world.server.last_id) (sym id) (ids.low live.file_id file opened)) in
    let on = ids.on live.file_id file opened w.was w.there (w.id ∙ id) in
    let old = p w.was w.there (w.client ∙ by) (w.id ∙ id) write in (
      live_holds live refl write x there (sym w.client ∙ on.1) (sym w.file ∙ on.0) old.0,
      clean_like c file world.past new.past like.past (sent ++ live.unsent) old.1,
    )
phase_like world new c file sent (Phase.Offline parted) like ids live_ids parted_ids live_holds parted_holds p = λ x there by id.
    let opened = parted_ids parted (inl refl) in
    let w = like.from x there by (subst (λ n. n ≤ world.server.last_id) (sym id) (ids.low parted.file_id file opened)) in
    let on = ids.on parted.file_id file opened w.was w.there (w.id ∙ id) in
    each_weaker (KeptWrite world c file) (KeptWrite new c file) parted.writes
    (λ write kept. (
      parted_holds parted (inl refl) x there (sym w.client ∙ on.1) (sym w.file ∙ on.0) kept.0,
      like.past.touched file write.number ∙ kept.1,
    )) (p w.was w.there (w.client ∙ by) (w.id ∙ id))
phase_like world new c file sent (Phase.Reconnecting parted) like ids live_ids parted_ids live_holds parted_holds p =
    λ x there by id.
    let opened = parted_ids parted (inr refl) in
    let w = like.from x there by (subst (λ n. n ≤ world.server.last_id) (sym id) (ids.low parted.file_id file opened)) in
    let on = ids.on parted.file_id file opened w.was w.there (w.id ∙ id) in
    each_weaker (KeptWrite world c file) (KeptWrite new c file) parted.writes
    (λ write kept. (
      parted_holds parted (inr refl) x there (sym w.client ∙ on.1) (sym w.file ∙ on.0) kept.0,
      like.past.touched file write.number ∙ kept.1,
    )) (p w.was w.there (w.client ∙ by) (w.id ∙ id))
phase_like world new c file sent phase like ids live_ids parted_ids live_holds parted_holds p = tt

-- a write on its way, by the FileId that the record tells of
pub write_like : (world new : World) (c : ℕ) → IsLike world new c → KnowsIds world c → (file_id file number : ℕ)
    → was_opened file_id file c world.past ≡ true
    → (has_buffered c file number world.past ≡ true → (x : Open) → Among x new.server.opens → x.client ≡ c
    → x.file ≡ file → holds_write world c file ≡ true → holds_write new c file ≡ true)
    → ((x : Open) → Among x world.server.opens → x.client ≡ c → x.file_id ≡ file_id
    → IsSafeWrite c x.file number world.past (holds_write world c x.file))
    → (x : Open) → Among x new.server.opens → x.client ≡ c → x.file_id ≡ file_id
    → IsSafeWrite c x.file number new.past (holds_write new c x.file)
write_like world new c like ids file_id file number opened holds safe x there by id =
    let w = like.from x there by (subst (λ n. n ≤ world.server.last_id) (sym id) (ids.low file_id file opened)) in
    let on = ids.on file_id file opened w.was w.there (w.id ∙ id) in
    let at : x.file ≡ file = sym w.file ∙ on.0 in
    let old : IsSafeWrite c file number world.past (holds_write world c file) =
    subst (λ f. IsSafeWrite c f number world.past (holds_write world c f)) on.0
    (safe w.was w.there (w.client ∙ by) (w.id ∙ id)) in
    subst (λ f. IsSafeWrite c f number new.past (holds_write new c f)) (sym at) (record {
      held = λ b. let was = sym (like.past.buffered file number) ∙ b in
          holds was x there (sym w.client ∙ on.1) at (old.held was);
      clean = like.past.touched file number ∙ old.clean;
    })

pub plain_like : (world new : World) (c : ℕ) → IsLike world new c → KnowsIds world c → (file_id file number : ℕ)
    → was_opened file_id file c world.past ≡ true → ((x : Open) → Among x world.server.opens → x.client ≡ c → x.file_id ≡ file_id
    → has_buffered c x.file number world.past ≡ false)
    → (x : Open) → Among x new.server.opens → x.client ≡ c → x.file_id ≡ file_id → has_buffered c x.file number new.past ≡ false
plain_like world new c like ids file_id file number opened plain x there by id =
    let w = like.from x there by (subst (λ n. n ≤ world.server.last_id) (sym id) (ids.low file_id file opened)) in
    like.past.buffered x.file number ∙ ap (λ f. has_buffered c f number world.past) (sym w.file)
    ∙ plain w.was w.there (w.client ∙ by) (w.id ∙ id)
