-- Turns of one entry that come to simpler steps: what leaves the entry as it is, and a write that takes a number.
use Rattle.lease_laws.proofs.Words.{◌++◌, ◌∙◌, ◌∷◌, ◌≡◌, Answer, Bool, Client, Entry, List, Note, Pending, Refusal, Request}
use Rattle.lease_laws.proofs.Words.{State}
use Rattle.lease_laws.proofs.Words.{Step, Turn, ℕ, [], ap, arith, belief_of, believes_noted, beq, fun_ext, is_refused, false}
use Rattle.lease_laws.proofs.Words.{nat_tests, number_after, put, quiet_step, quiet_turn, refl, refused_step, refused_turn}
use Rattle.lease_laws.proofs.Words.{same_state}
use Rattle.lease_laws.proofs.Words.{cached_read, cached_turn, subst, sym, true, turned, wrote_step, wrote_turn}
use Rattle.lease_model.specs.client.Step.{with_number}

-- ---- the step of a turn

-- the step that a turn of the entry of a file makes, written out
abbrev pub step_of : Client → ℕ → Turn → Step
step_of client file turn = record {
  client = record client { entries = put client.entries file turn.entry };
  answer = turn.answer;
  requests = turn.requests;
  notes = turn.settled ++ believes_noted file (belief_of (client.entries file)) (belief_of turn.entry);
}

-- what the written out step has, the turn's has
pub by_turn : (P : Step → Type 0) (client : Client) (file : ℕ) (turn : Turn) → P (step_of client file turn)
    → P (turned client file turn)
unfolding turned
by_turn P client file turn has = has

pub turned_answer : (client : Client) (file : ℕ) (turn : Turn) → (turned client file turn).answer ≡ turn.answer
turned_answer client file turn = by_turn (λ step. step.answer ≡ turn.answer) client file turn refl

-- ---- turns that leave the entry as it is

beq_same : (b : Bool) → beq b b ≡ true
beq_same b = grind arith

pub state_same : (state : State) → same_state state state ≡ true
state_same state = rw (beq_same state.read, beq_same state.write, beq_same state.handle) refl

pub put_same : (table : ℕ → Entry) (n : ℕ) → put table n (table n) ≡ table
unfolding put
put_same table n = fun_ext (λ k. grind (arith, nat_tests))

pub unnoted : (file : ℕ) (state : State) → believes_noted file state state ≡ []
unnoted file state = rw (state_same state) refl

-- the client stays as it is, and answers
abbrev pub answered_step : Client → Answer → List Note → Step
answered_step client answer notes = record { client = client; answer = answer; requests = []; notes = notes }

noted_so : (client : Client) (file : ℕ) (answer : Answer) (notes : List Note)
    → turned client file (record { entry = client.entries file; answer = answer; requests = []; settled = notes })
    ≡ answered_step client answer (notes ++ [])
noted_so client file answer notes = by_turn (λ step. step ≡ answered_step client answer (notes ++ [])) client file _
    (ap (λ (more : List Note). record {
      client = record client { entries = put client.entries file (client.entries file) };
      answer = answer;
      requests = [];
      notes = notes ++ more;
    }) (unnoted file (belief_of (client.entries file)))
    ∙ ap (λ (t : ℕ → Entry). answered_step (record client { entries = t }) answer (notes ++ [])) (put_same client.entries file))

-- a turn that notes something and leaves the entry as it is
pub noted_still : (client : Client) (file : ℕ) (entry : Entry) (answer : Answer) (notes : List Note) → client.entries file ≡ entry
    → turned client file (record { entry = entry; answer = answer; requests = []; settled = notes })
    ≡ answered_step client answer (notes ++ [])
noted_still client file entry answer notes e = subst (λ (one : Entry).
    turned client file (record { entry = one; answer = answer; requests = []; settled = notes })
    ≡ answered_step client answer (notes ++ [])) e (noted_so client file answer notes)

pub still_refused : (client : Client) (file : ℕ) (entry : Entry) (refusal : Refusal) → client.entries file ≡ entry
    → refused_step client refusal ≡ turned client file (refused_turn entry refusal)
still_refused client file entry refusal e = sym (noted_still client file entry (Answer.Refused refusal) [] e)

pub still_quiet : (client : Client) (file : ℕ) (entry : Entry) → client.entries file ≡ entry
    → quiet_step client ≡ turned client file (quiet_turn entry)
still_quiet client file entry e = sym (noted_still client file entry Answer.Quiet [] e)

pub still_cached : (client : Client) (file : ℕ) (entry : Entry) (bytes : List ℕ) → client.entries file ≡ entry
    → cached_read client file bytes ≡ turned client file (cached_turn file entry bytes)
still_cached client file entry bytes e =
    sym (noted_still client file entry (Answer.Bytes bytes true) (Note.CachedRead file bytes ∷ []) e)

-- ---- the numbers of writes

pub same_numbered : (client : Client) (file : ℕ) (turn : Turn)
    → with_number client.last_number (turned client file turn) ≡ turned client file turn
unfolding turned
same_numbered client file turn = refl

-- a write is given the next number
pub numbered_next : (client : Client) (file : ℕ) (old new : Entry) (answer : Answer) (requests : List Request) (write : Pending)
    → is_refused answer ≡ false → client.entries file ≡ old → belief_of old ≡ belief_of new
    → wrote_step client file new answer requests write
    ≡ with_number (number_after (wrote_turn file new answer requests write) client.last_number)
    (turned client file (wrote_turn file new answer requests write))
unfolding turned
numbered_next client file old new answer requests write taken e same = grind arith
