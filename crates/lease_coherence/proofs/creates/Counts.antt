-- How many creates of a file are under way: asked, held, or answered and not yet taken.
use Rattle.lease_laws.proofs.Words.{◌++◌, ◌+◌, ◌==◌, ◌∙◌, ◌∷◌, ◌≡◌, FileRequest, Held, List, Pending, Phase, Reply, Request}
use Rattle.lease_laws.proofs.Words.{Status, ℕ, [], ap, arith, false, refl, refusal_of, sym, true, true≢false, write_requests}
use Rattle.lease_laws.proofs.client.cases.Replies.{AwaitsNone}
use Rattle.lease_laws.proofs.server.Lists.{if_cases}
use Rattle.lease_coherence.specs.Creates.{answer_of, answers, create_of, creates, has_asked, held_by, held_creates}
use Rattle.lease_coherence.proofs.moves.Events.{chosen, not_chosen}

-- an entry that waits for no answer to a create has asked for none
pub none_asked : (phase : Phase) → AwaitsNone phase → has_asked phase ≡ false
none_asked (Phase.Opening access share) idle = absurd idle
none_asked (Phase.Live live) idle = idle
none_asked (Phase.Reconnecting parted) idle = absurd idle
none_asked phase idle = refl

-- ---- sums

three : (a b c : ℕ) → a + (b + c) ≡ a + b + c
three a b c = omega arith

pub creates_append : (file : ℕ) (queue more : List Request)
    → creates file (queue ++ more) ≡ creates file queue + creates file more
creates_append file [] more = omega arith
creates_append file (Request.OnFile request ∷ queue) more = ap (λ n. create_of file request + n) (creates_append file queue more)
    ∙ three (create_of file request) (creates file queue) (creates file more)
creates_append file (Request.Acknowledge given ∷ queue) more = creates_append file queue more

pub answers_append : (file : ℕ) (queue more : List Reply) → answers file (queue ++ more) ≡ answers file queue + answers file more
answers_append file [] more = omega arith
answers_append file (reply ∷ queue) more = ap (λ n. answer_of file reply + n) (answers_append file queue more)
    ∙ three (answer_of file reply) (answers file queue) (answers file more)

pub answers_last : (file : ℕ) (queue : List Reply) (reply : Reply)
    → answers file (queue ++ reply ∷ []) ≡ answers file queue + answer_of file reply
answers_last file queue reply = answers_append file queue (reply ∷ []) ∙ (omega arith)

-- one of the client's that is held, among the others
pub held_among : (file client : ℕ) (before behind : List Held) (one : Held) → (one.client == client) ≡ true
    → held_creates file (held_by client (before ++ one ∷ behind))
    ≡ create_of file one.request + held_creates file (held_by client (before ++ behind))
held_among file client [] behind one own = if_cases
    (λ l. held_creates file l ≡ create_of file one.request + held_creates file (held_by client behind))
    (one.client == client) (one ∷ held_by client behind) (held_by client behind)
    (λ e. refl) (λ e. absurd (true≢false (sym own ∙ e)))
held_among file client (x ∷ before) behind one own = if_cases
    (λ l. held_creates file l ≡ create_of file one.request + held_creates file (held_by client (x ∷ before ++ behind)))
    (x.client == client) (x ∷ held_by client (before ++ one ∷ behind)) (held_by client (before ++ one ∷ behind))
    (λ mine. ap (λ n. create_of file x.request + n) (held_among file client before behind one own) ∙ (omega arith)
    ∙ ap (λ (l : List Held). create_of file one.request + held_creates file l)
    (sym (chosen (x.client == client) (x ∷ held_by client (before ++ behind)) (held_by client (before ++ behind)) mine)))
    (λ other. held_among file client before behind one own
    ∙ ap (λ (l : List Held). create_of file one.request + held_creates file l)
    (sym (not_chosen (x.client == client) (x ∷ held_by client (before ++ behind)) (held_by client (before ++ behind)) other)))

-- ---- messages

-- a request that is refused is answered as what it was
pub refusal_answers : (file : ℕ) (request : FileRequest) (status : Status)
    → answer_of file (refusal_of request status) ≡ create_of file request
refusal_answers file (FileRequest.Create other access share contexts) status = refl
refusal_answers file request status = refl

-- writes are no creates
pub writes_create : (file file_id : ℕ) (writes : List Pending) → creates file (write_requests file_id writes) ≡ 0
writes_create file file_id [] = refl
writes_create file file_id (write ∷ writes) = ap (λ n. 0 + n) (writes_create file file_id writes) ∙ (omega arith)
