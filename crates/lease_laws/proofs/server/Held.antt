-- The passes end: each but the last answers a held request, so that one more than are held is enough.
use Rattle.lease_laws.proofs.Words.{◌++◌, ◌+◌, ◌<◌, ◌==◌, ◌∙◌, ◌∷◌, ◌≡◌, ◌≤◌, Among, Bool, Decides-eqb, FileRequest, Held}
use Rattle.lease_laws.proofs.Words.{List, Open, Outcome, Pass, Progress, Server, Tried, ℕ, [], ap}
use Rattle.lease_laws.proofs.Words.{append-nil, append_assoc, arith, concluded}
use Rattle.lease_laws.proofs.Words.{held_left, is_left_open, left_waiting, length}
use Rattle.lease_laws.proofs.Words.{length-append, one_pass, opens_dropped, pass_answered, put, refl, sym}
use Rattle.lease_laws.proofs.Words.{subst, tried, tried_again, tried_for, true, true≢false, unmarked}
use Rattle.lease_laws.proofs.server.Lists.{among_unmarked, if_cases}
use Rattle.lease_laws.proofs.server.cases.Calls.{requests_lost}
use Rattle.lease_laws.proofs.server.cases.Tries.{HasTries, any_try}
use Rattle.lease_laws.proofs.server.cases.Ends.{HasEnds, any_end}
use Rattle.lease_laws.proofs.server.cases.Passes.{any_pass, any_try_again, pass_begun}

-- the call has gone on, and what is held is the same
abbrev pub SameHeld : Progress → Progress → Type 0
SameHeld before after = after.server.held ≡ before.server.held

-- to drop opens leaves the held requests as they are
pub dropped_held : (test : Open → Bool) (progress : Progress) → SameHeld progress (opens_dropped test progress)
dropped_held test progress = refl

pub tries_hold : HasTries SameHeld
tries_hold = record {
  same = λ progress. refl;
  behind = λ before next after e f. f ∙ e;
  drop = λ key progress. dropped_held (is_left_open key) progress;
  lower = λ key lowered progress settled. refl;
  begin = λ key lowered progress settled. refl;
}

-- a try holds and lets go nothing
pub tried_for-held : (rounds client : ℕ) (request : FileRequest) (progress : Progress)
    → SameHeld progress (tried_for rounds client request progress).progress
tried_for-held = any_try SameHeld tries_hold

-- the end of a try holds and lets go nothing
ends_hold : (client : ℕ) (progress : Progress) → HasEnds client progress (λ request outcome. SameHeld progress)
ends_hold client progress = grind arith

pub concluded-held : (client : ℕ) (request : FileRequest) (progress : Progress) (outcome : Outcome)
    → SameHeld progress (concluded client request progress outcome)
concluded-held client request progress = any_end client progress _ (ends_hold client progress) request

-- the file has the requests that are left
pub held_left-here : (file : ℕ) (left : List Held) (progress : Progress) → (held_left file left progress).server.held file ≡ left
unfolding put
held_left-here file left progress = rw ((Decides-eqb file file).1 refl) refl

-- what still waits waited before
pub requests_lost-there : (server : Server) (file : ℕ) (marks : List Bool) (other : ℕ) (one : Held)
    → Among one ((requests_lost server file marks).server.held other) → Among one (server.held other)
unfolding put
requests_lost-there server file marks other one a = if_cases (λ left. Among one left → Among one (server.held other))
    (other == file) (unmarked marks (server.held file)) (server.held other)
    (λ here b. subst (λ f. Among one (server.held f)) (sym ((Decides-eqb other file).0 here))
    (among_unmarked one marks (server.held file) b)) (λ apart b. b) a

-- During a pass the file holds the requests passed over and those that wait, no more than there were;
-- and one less once one was answered.
pub record InPass (file : ℕ) (count : ℕ) (waiting : List Held) (pass : Pass) : Type 0 where
  pub is_held : pass.progress.server.held file ≡ pass.passed ++ waiting
  pub is_counted : length pass.passed + length waiting ≤ count
  pub is_fewer : pass.has_answered ≡ true → length pass.passed + length waiting < count

-- one more
length_cons : (one : Held) (waiting : List Held) → length (one ∷ waiting) ≡ length waiting + 1
length_cons one waiting = omega arith

-- one moved from the second list to the first
length_moved : (kept : List Held) (one : Held) (waiting : List Held)
    → length (kept ++ one ∷ []) + length waiting ≡ length kept + length (one ∷ waiting)
length_moved kept one waiting = rw (length-append kept (one ∷ [])) (omega arith)

-- at first all are counted
pub all_counted : (held : List Held) → length {A = Held} [] + length held ≤ length held
all_counted held = omega arith

-- at last none waits
nothing_more : (kept count left : ℕ) → kept + length {A = Held} [] < count → left ≡ kept → left < count
nothing_more kept count left less same = omega (arith, less, same)

-- to pass over a held request keeps count of the pass
pub left_waiting-in : (file count : ℕ) (one : Held) (waiting : List Held) (pass : Pass) (progress : Progress)
    → InPass file count (one ∷ waiting) pass → SameHeld pass.progress progress
    → InPass file count waiting (left_waiting one pass progress)
left_waiting-in file count one waiting pass progress i same =
    let longer : length (pass.passed ++ one ∷ []) + length waiting ≡ length pass.passed + length (one ∷ waiting) =
    length_moved pass.passed one waiting in
    record {
      is_held = ap (λ held. held file) same ∙ i.is_held ∙ sym (append_assoc pass.passed (one ∷ []) waiting);
      is_counted = omega (arith, longer, i.is_counted);
      is_fewer = λ e. let less = i.is_fewer e in omega (arith, longer, less);
    }

-- to answer a held request keeps count of the pass
pub pass_answered-in : (file count : ℕ) (one : Held) (waiting : List Held) (pass : Pass) (done : Tried)
    → InPass file count (one ∷ waiting) pass → InPass file count waiting (pass_answered file one waiting pass done)
pass_answered-in file count one waiting pass done i =
    let shorter : length (one ∷ waiting) ≡ length waiting + 1 = length_cons one waiting in
    record {
      is_held = ap (λ held. held file) (concluded-held one.client one.request
          (held_left file (pass.passed ++ waiting) done.progress) done.outcome)
          ∙ held_left-here file (pass.passed ++ waiting) done.progress;
      is_counted = omega (arith, shorter, i.is_counted);
      is_fewer = λ e. omega (arith, shorter, i.is_counted);
    }

-- a held request tried again keeps count of the pass
tried_again-in : (file count : ℕ) (one : Held) (waiting : List Held) (pass : Pass)
    → InPass file count (one ∷ waiting) pass → InPass file count waiting (tried_again file one waiting pass)
tried_again-in file count one waiting pass i = any_try_again file one waiting pass (InPass file count waiting) (record {
  behind = λ behind. left_waiting-in file count one waiting pass pass.progress i refl;
  waits = λ first waits. left_waiting-in file count one waiting pass (tried one.client one.request pass.progress).progress i
      (tried_for-held 3 one.client one.request pass.progress);
  answers = λ first ends. pass_answered-in file count one waiting pass (tried one.client one.request pass.progress) i;
})

-- a pass begins
pub begun-in : (file : ℕ) (progress : Progress)
    → InPass file (length (progress.server.held file)) (progress.server.held file) (pass_begun progress)
begun-in file progress = record {
  is_held = refl;
  is_counted = all_counted (progress.server.held file);
  is_fewer = λ never. absurd (true≢false (sym never));
}

-- a pass that answers a request leaves fewer
pub answered-fewer : (file : ℕ) (progress : Progress) (pass : Pass) → InPass file (length (progress.server.held file)) [] pass
    → pass.has_answered ≡ true → length (pass.progress.server.held file) < length (progress.server.held file)
answered-fewer file progress pass i e =
    nothing_more (length pass.passed) (length (progress.server.held file)) _ (i.is_fewer e)
    (ap length (i.is_held ∙ append-nil pass.passed))

pub one_pass-fewer : (file : ℕ) (progress : Progress) → (one_pass file progress).has_answered ≡ true
    → length ((one_pass file progress).progress.server.held file) < length (progress.server.held file)
one_pass-fewer file progress = answered-fewer file progress (one_pass file progress)
    (any_pass file (InPass file (length (progress.server.held file)))
    (tried_again-in file (length (progress.server.held file))) (progress.server.held file) (pass_begun progress)
    (begun-in file progress))
