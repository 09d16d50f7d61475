-- Each connected open of a client is its entry's, or a Close of it is asked, or it is granted by a reply on its way: in
-- words of one file, its entry and its queues.
use Rattle.lease_laws.proofs.Words.{◌++◌, ◌+◌, ◌==◌, ◌∷◌, ◌≡◌, ◌≢◌, ◌⊎◌, FileRequest, Held, List, LiveEntry, Pending, Phase}
use Rattle.lease_laws.proofs.Words.{Reply, Request, Some, Status, ℕ, [], ⊎_elim, ⊤, ap, arith, eq-eqb, inl, inr, refl}
use Rattle.lease_laws.proofs.Words.{write_requests}
use Rattle.lease_coherence.specs.Agreement.{as_requests}
use Rattle.lease_coherence.specs.Creates.{answer_of, answers, create_of, creates, held_creates, one_if}
use Rattle.lease_coherence.specs.Standing.{IsNoClose}

-- ---- closes

-- a Close of the FileId is asked, and no create of the file before it
abbrev pub ClosedBefore : ℕ → ℕ → List Request → Type 0
ClosedBefore file file_id [] = ⊥
ClosedBefore file file_id (Request.OnFile (FileRequest.Close other) ∷ queue) = (other ≡ file_id) ⊎ ClosedBefore file file_id queue
ClosedBefore file file_id (Request.OnFile (FileRequest.Create other access share contexts) ∷ queue) =
    (other ≢ file) × ClosedBefore file file_id queue
ClosedBefore file file_id (Request.OnFile (FileRequest.Read other) ∷ queue) = ClosedBefore file file_id queue
ClosedBefore file file_id (Request.OnFile (FileRequest.Write other number patch) ∷ queue) = ClosedBefore file file_id queue
ClosedBefore file file_id (Request.Acknowledge given ∷ queue) = ClosedBefore file file_id queue

pub closed_more : (file file_id : ℕ) (queue more : List Request) → ClosedBefore file file_id queue
    → ClosedBefore file file_id (queue ++ more)
closed_more file file_id [] more c = absurd c
closed_more file file_id (Request.OnFile (FileRequest.Close other) ∷ queue) more c =
    ⊎_elim (λ e. inl e) (λ l. inr (closed_more file file_id queue more l)) c
closed_more file file_id (Request.OnFile (FileRequest.Create other access share contexts) ∷ queue) more c =
    (c.0, closed_more file file_id queue more c.1)
closed_more file file_id (Request.OnFile (FileRequest.Read other) ∷ queue) more c = closed_more file file_id queue more c
closed_more file file_id (Request.OnFile (FileRequest.Write other number patch) ∷ queue) more c =
    closed_more file file_id queue more c
closed_more file file_id (Request.Acknowledge given ∷ queue) more c = closed_more file file_id queue more c

-- one that is no Close of it leaves
pub closed_less : (file file_id : ℕ) (before behind : List Request) (request : Request) → IsNoClose file_id request
    → ClosedBefore file file_id (before ++ request ∷ behind) → ClosedBefore file file_id (before ++ behind)
closed_less file file_id [] behind (Request.OnFile (FileRequest.Close other)) kept c = ⊎_elim (λ e. absurd (kept e)) (λ l. l) c
closed_less file file_id [] behind (Request.OnFile (FileRequest.Create other access share contexts)) kept c = c.1
closed_less file file_id (Request.OnFile (FileRequest.Close other) ∷ before) behind request kept c =
    ⊎_elim (λ e. inl e) (λ l. inr (closed_less file file_id before behind request kept l)) c
closed_less file file_id (Request.OnFile (FileRequest.Create other access share contexts) ∷ before) behind request kept c =
    (c.0, closed_less file file_id before behind request kept c.1)
closed_less file file_id (Request.OnFile (FileRequest.Read other) ∷ before) behind request kept c =
    closed_less file file_id before behind request kept c
closed_less file file_id (Request.OnFile (FileRequest.Write other number patch) ∷ before) behind request kept c =
    closed_less file file_id before behind request kept c
closed_less file file_id (Request.Acknowledge given ∷ before) behind request kept c =
    closed_less file file_id before behind request kept c
closed_less file file_id [] behind request kept c = c

-- behind requests that create nothing of the file
pub closed_behind : (file file_id : ℕ) (queue more : List Request) → creates file queue ≡ 0
    → ClosedBefore file file_id more → ClosedBefore file file_id (queue ++ more)
closed_behind file file_id [] more none c = c
closed_behind file file_id (Request.OnFile (FileRequest.Close other) ∷ queue) more none c =
    inr (closed_behind file file_id queue more (right 0 (creates file queue) none) c)
  where
    right : (a b : ℕ) → a + b ≡ 0 → b ≡ 0
    right a b e = omega (arith, e)
closed_behind file file_id (Request.OnFile (FileRequest.Create other access share contexts) ∷ queue) more none c = (
  λ same. omega (arith, ap one_if (eq-eqb other file same), none),
  closed_behind file file_id queue more (right (one_if (other == file)) (creates file queue) none) c,
)
  where
    right : (a b : ℕ) → a + b ≡ 0 → b ≡ 0
    right a b e = omega (arith, e)
closed_behind file file_id (Request.OnFile (FileRequest.Read other) ∷ queue) more none c =
    closed_behind file file_id queue more (right 0 (creates file queue) none) c
  where
    right : (a b : ℕ) → a + b ≡ 0 → b ≡ 0
    right a b e = omega (arith, e)
closed_behind file file_id (Request.OnFile (FileRequest.Write other number patch) ∷ queue) more none c =
    closed_behind file file_id queue more (right 0 (creates file queue) none) c
  where
    right : (a b : ℕ) → a + b ≡ 0 → b ≡ 0
    right a b e = omega (arith, e)
closed_behind file file_id (Request.Acknowledge given ∷ queue) more none c = closed_behind file file_id queue more none c

-- the writes of an entry are flushed, and its open is closed
pub closed_behind_writes : (file file_id : ℕ) (writes : List Pending) (more : List Request)
    → ClosedBefore file file_id (write_requests file_id writes ++ Request.OnFile (FileRequest.Close file_id) ∷ more)
closed_behind_writes file file_id [] more = inl refl
closed_behind_writes file file_id (write ∷ writes) more = closed_behind_writes file file_id writes more

pub creates_asked : (file : ℕ) (held : List Held) → creates file (as_requests held) ≡ held_creates file held
creates_asked file [] = refl
creates_asked file (one ∷ held) = ap (λ n. create_of file one.request + n) (creates_asked file held)

-- ---- grants

abbrev pub IsGrantOf : ℕ → ℕ → Reply → Type 0
IsGrantOf file file_id (Reply.Created other given (Some answer)) = (other ≡ file) × (given ≡ file_id)
IsGrantOf file file_id reply = ⊥

abbrev pub HasGrant : ℕ → ℕ → List Reply → Type 0
HasGrant file file_id [] = ⊥
HasGrant file file_id (reply ∷ queue) = IsGrantOf file file_id reply ⊎ HasGrant file file_id queue

pub grant_more : (file file_id : ℕ) (queue more : List Reply) → HasGrant file file_id queue
    → HasGrant file file_id (queue ++ more)
grant_more file file_id [] more g = absurd g
grant_more file file_id (reply ∷ queue) more g = ⊎_elim (λ x. inl x) (λ x. inr (grant_more file file_id queue more x)) g

pub grant_last : (file file_id : ℕ) (queue : List Reply) (reply : Reply) → IsGrantOf file file_id reply
    → HasGrant file file_id (queue ++ reply ∷ [])
grant_last file file_id [] reply is = inl is
grant_last file file_id (x ∷ queue) reply is = inr (grant_last file file_id queue reply is)

pub grant_answers : (file file_id : ℕ) (reply : Reply) → IsGrantOf file file_id reply → answer_of file reply ≡ 1
grant_answers file file_id (Reply.Created other given (Some answer)) g = ap one_if (eq-eqb other file g.0)
grant_answers file file_id reply g = absurd g

pub never_granted : (file file_id : ℕ) (queue : List Reply) → answers file queue ≡ 0 → HasGrant file file_id queue → ⊥
never_granted file file_id [] none g = g
never_granted file file_id (reply ∷ queue) none g = ⊎_elim
    (λ x. omega (arith, grant_answers file file_id reply x, none))
    (λ x. never_granted file file_id queue (omega (arith, none)) x) g

-- ---- one open

pub record IsLiveUnder (phase : Phase) (file_id : ℕ) : Type 0 where
  pub live : LiveEntry
  pub is : phase ≡ Phase.Live live
  pub id : live.file_id ≡ file_id

-- it is the entry's, or a Close of it is asked, or it is granted
abbrev pub IsCovered : Phase → ℕ → ℕ → List Request → List Reply → Type 0
IsCovered phase file file_id asked queue =
    IsLiveUnder phase file_id ⊎ (ClosedBefore file file_id asked ⊎ HasGrant file file_id queue)

pub cover_by : (old new : Phase) (file file_id : ℕ) (asked left : List Request) (queue more : List Reply)
    → (IsLiveUnder old file_id → IsCovered new file file_id left more)
    → (ClosedBefore file file_id asked → ClosedBefore file file_id left)
    → (HasGrant file file_id queue → IsCovered new file file_id left more)
    → IsCovered old file file_id asked queue → IsCovered new file file_id left more
cover_by old new file file_id asked left queue more live closed granted c =
    ⊎_elim live (λ x. ⊎_elim (λ y. inr (inl (closed y))) granted x) c

-- ---- what fails

-- the open of a live entry wasn't found
abbrev pub NotFailed : ℕ → Reply → Type 0
NotFailed file_id (Reply.ReadFailed other status) = status ≡ Status.FileClosed → other ≢ file_id
NotFailed file_id (Reply.WriteFailed other number status) = status ≡ Status.FileClosed → other ≢ file_id
NotFailed file_id reply = ⊤
