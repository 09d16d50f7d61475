-- How many writes of a number are under way: asked, held, or answered and not yet taken.
use Rattle.lease_laws.proofs.Words.{◌++◌, ◌+◌, ◌==◌, ◌||◌, ◌∙◌, ◌∷◌, ◌≡◌, Bool, FileRequest, Held, List, Pending, Reply}
use Rattle.lease_laws.proofs.Words.{Request, Status, World, ℕ, [], ap, ap₂, arith, eqb-true, false, is_numbered, list_any, refl}
use Rattle.lease_laws.proofs.Words.{refusal_of, sent_without, sym, true, true≢false, write_requests}
use Rattle.lease_laws.proofs.server.Lists.{if_cases}
use Rattle.lease_coherence.specs.Creates.{held_by, one_if}
use Rattle.lease_coherence.proofs.moves.Events.{chosen, not_chosen}

abbrev pub write_of : ℕ → FileRequest → ℕ
write_of number (FileRequest.Write file_id used patch) = one_if (used == number)
write_of number request = 0

abbrev pub writes : ℕ → List Request → ℕ
writes number [] = 0
writes number (Request.OnFile request ∷ queue) = write_of number request + writes number queue
writes number (Request.Acknowledge given ∷ queue) = writes number queue

abbrev pub held_writes : ℕ → List Held → ℕ
held_writes number [] = 0
held_writes number (one ∷ held) = write_of number one.request + held_writes number held

-- a reply to one
abbrev pub settles_of : ℕ → Reply → ℕ
settles_of number (Reply.WriteDone file_id used) = one_if (used == number)
settles_of number (Reply.WriteFailed file_id used status) = one_if (used == number)
settles_of number reply = 0

abbrev pub settling : ℕ → List Reply → ℕ
settling number [] = 0
settling number (reply ∷ queue) = settles_of number reply + settling number queue

-- the writes of the number among these
abbrev pub numbered_in : ℕ → List Pending → ℕ
numbered_in number [] = 0
numbered_in number (write ∷ pending) = one_if (write.number == number) + numbered_in number pending

abbrev pub writes_left : World → ℕ → ℕ → ℕ → ℕ
writes_left world client file number =
    writes number (world.requests client) + held_writes number (held_by client (world.server.held file))

abbrev pub writes_under_way : World → ℕ → ℕ → ℕ → ℕ
writes_under_way world client file number = writes_left world client file number + settling number (world.replies client)

-- ---- sums

three : (a b c : ℕ) → a + (b + c) ≡ a + b + c
three a b c = omega arith

pub writes_append : (number : ℕ) (queue more : List Request)
    → writes number (queue ++ more) ≡ writes number queue + writes number more
writes_append number [] more = omega arith
writes_append number (Request.OnFile request ∷ queue) more =
    ap (λ n. write_of number request + n) (writes_append number queue more)
    ∙ three (write_of number request) (writes number queue) (writes number more)
writes_append number (Request.Acknowledge given ∷ queue) more = writes_append number queue more

pub settling_last : (number : ℕ) (queue : List Reply) (reply : Reply)
    → settling number (queue ++ reply ∷ []) ≡ settling number queue + settles_of number reply
settling_last number [] reply = omega arith
settling_last number (x ∷ queue) reply = ap (λ n. settles_of number x + n) (settling_last number queue reply)
    ∙ three (settles_of number x) (settling number queue) (settles_of number reply)

pub numbered_append : (number : ℕ) (pending more : List Pending)
    → numbered_in number (pending ++ more) ≡ numbered_in number pending + numbered_in number more
numbered_append number [] more = omega arith
numbered_append number (write ∷ pending) more =
    ap (λ n. one_if (write.number == number) + n) (numbered_append number pending more)
    ∙ three (one_if (write.number == number)) (numbered_in number pending) (numbered_in number more)

pub held_writes_among : (number client : ℕ) (before behind : List Held) (one : Held) → (one.client == client) ≡ true
    → held_writes number (held_by client (before ++ one ∷ behind))
    ≡ write_of number one.request + held_writes number (held_by client (before ++ behind))
held_writes_among number client [] behind one own = if_cases
    (λ l. held_writes number l ≡ write_of number one.request + held_writes number (held_by client behind))
    (one.client == client) (one ∷ held_by client behind) (held_by client behind)
    (λ e. refl) (λ e. absurd (true≢false (sym own ∙ e)))
held_writes_among number client (x ∷ before) behind one own = if_cases
    (λ l. held_writes number l ≡ write_of number one.request + held_writes number (held_by client (x ∷ before ++ behind)))
    (x.client == client) (x ∷ held_by client (before ++ one ∷ behind)) (held_by client (before ++ one ∷ behind))
    (λ mine. ap (λ n. write_of number x.request + n) (held_writes_among number client before behind one own) ∙ (omega arith)
    ∙ ap (λ (l : List Held). write_of number one.request + held_writes number l)
    (sym (chosen (x.client == client) (x ∷ held_by client (before ++ behind)) (held_by client (before ++ behind)) mine)))
    (λ other. held_writes_among number client before behind one own
    ∙ ap (λ (l : List Held). write_of number one.request + held_writes number l)
    (sym (not_chosen (x.client == client) (x ∷ held_by client (before ++ behind)) (held_by client (before ++ behind)) other)))

-- ---- messages

-- a request that is refused is answered as what it was
pub refusal_settles : (number : ℕ) (request : FileRequest) (status : Status)
    → settles_of number (refusal_of request status) ≡ write_of number request
refusal_settles number (FileRequest.Create file access share contexts) status = refl
refusal_settles number request status = refl

-- writes as requests
pub writes_asked : (number file_id : ℕ) (pending : List Pending)
    → writes number (write_requests file_id pending) ≡ numbered_in number pending
writes_asked number file_id [] = refl
writes_asked number file_id (write ∷ pending) =
    ap (λ n. one_if (write.number == number) + n) (writes_asked number file_id pending)

-- the first of a number leaves
pub numbered_without : (number used : ℕ) (pending : List Pending) → list_any (is_numbered used) pending ≡ true
    → numbered_in number (sent_without used pending) + one_if (used == number) ≡ numbered_in number pending
unfolding sent_without
numbered_without number used [] has = absurd (true≢false (sym has))
numbered_without number used (write ∷ pending) has = if_cases
    (λ l. (write.number == used) ≡ (write.number == used)
    → numbered_in number l + one_if (used == number) ≡ numbered_in number (write ∷ pending))
    (write.number == used) pending (write ∷ sent_without used pending)
    (λ same e. (omega arith)
    ∙ ap (λ n. one_if (n == number) + numbered_in number pending) (sym (eqb-true write.number used same)))
    (λ other e. omega (
      arith,
      numbered_without number used pending (later (write.number == used) (list_any (is_numbered used) pending) has other),
    )) refl
  where
    later : (a b : Bool) → (a || b) ≡ true → a ≡ false → b ≡ true
    later true b e f = absurd (true≢false f)
    later false b e f = e

-- none of the number is there
pub none_numbered : (number : ℕ) (pending : List Pending) → list_any (is_numbered number) pending ≡ false
    → numbered_in number pending ≡ 0
none_numbered number [] e = refl
none_numbered number (write ∷ pending) e = let none = neither (write.number == number) _ e in
    ap₂ (λ b n. one_if b + n) none.0 (none_numbered number pending none.1) ∙ (omega arith)
  where
    neither : (a b : Bool) → (a || b) ≡ false → (a ≡ false) × (b ≡ false)
    neither true b e = absurd (true≢false e)
    neither false b e = (refl, e)
