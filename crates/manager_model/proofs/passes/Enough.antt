-- Passes of a manager over a file end by themselves: each that answers a request leaves fewer to wait.
use Rattle.lease_laws.proofs.Words.{◌+◌, ◌++◌, ◌<◌, ◌∙◌, ◌∷◌, ◌≡◌, ◌≤◌, List, ℕ, [], ap, append_assoc, arith, false}
use Rattle.lease_laws.proofs.Words.{length, length-append, refl, suc, sym, true, true≢false, zero}
use Rattle.lease_laws.proofs.server.Lists.{either}
use Rattle.manager_model.specs.Handling.{Handling, Pass, Tagged, one_pass}
use Rattle.manager_model.specs.Handling as rules
use Rattle.manager_model.specs.Laws.{PassesAnswer, PassesAreEnough}
use Rattle.manager_model.proofs.passes.Tables.{put_here}
use Rattle.manager_model.proofs.passes.Ways.{any_pass, any_try, passes_on, passes_stop}

-- A pass under way over a queue: those passed over and those not looked at yet are what is left of it, and fewer than it had
-- where one was answered.
pub record InPass (file : ℕ) (count : ℕ) (waiting : List Tagged) (pass : Pass) : Type 0 where
  pub queue : pass.now.manager.queues file ≡ pass.passed ++ waiting
  pub left : length (pass.passed ++ waiting) ≤ count
  pub fewer : pass.has_answered ≡ true → length (pass.passed ++ waiting) < count

still_there : (file count : ℕ) (one : Tagged) (waiting : List Tagged) (pass after : Pass)
    → InPass file count (one ∷ waiting) pass → after.passed ≡ pass.passed ++ one ∷ []
    → after.now.manager.queues file ≡ pass.now.manager.queues file → after.has_answered ≡ pass.has_answered
    → InPass file count waiting after
still_there file count one waiting pass after p passed queue has =
    let same : after.passed ++ waiting ≡ pass.passed ++ one ∷ waiting =
    ap (λ l. l ++ waiting) passed ∙ append_assoc pass.passed (one ∷ []) waiting in
    record {
      queue = queue ∙ p.queue ∙ sym same;
      left = rw same p.left;
      fewer = λ answered. rw same (p.fewer (sym has ∙ answered));
    }

pub in_pass : (file count : ℕ) (one : Tagged) (waiting : List Tagged) (pass : Pass) → InPass file count (one ∷ waiting) pass
    → InPass file count waiting (rules.tried_again file one waiting pass)
in_pass file count one waiting pass p = any_try file one waiting pass (λ after. InPass file count waiting after) (record {
  behind = still_there file count one waiting pass _ p refl refl refl;
  waits = still_there file count one waiting pass _ p refl refl refl;
  answers = λ outcome is ends.
      let a = length-append pass.passed waiting in
      let b = length-append pass.passed (one ∷ waiting) in
      let left = p.left in
      let less : length (pass.passed ++ waiting) < count = omega (arith, a, b, left) in record {
        queue = put_here pass.now.manager.queues file (pass.passed ++ waiting);
        left = omega (arith, less);
        fewer = λ answered. less;
      };
})

pub passes_answer : PassesAnswer
passes_answer file now answered =
    let done = any_pass file (InPass file (length (now.manager.queues file))) (in_pass file (length (now.manager.queues file)))
    (now.manager.queues file) (record { passed = []; now = now; has_answered = false })
    (record { queue = refl; left = omega arith; fewer = λ never. absurd (true≢false (sym never)) }) in
    let pass = one_pass file now in
    let fewer = done.fewer answered in
    rw (done.queue) fewer

more_passes : (file count other : ℕ) (now : Handling) → length (now.manager.queues file) < count
    → length (now.manager.queues file) < other → rules.passes_for count file now ≡ rules.passes_for other file now
more_passes file zero other now lt less = let never : ⊥ = omega arith in absurd never
more_passes file (suc count) zero now lt less = let never : ⊥ = omega arith in absurd never
more_passes file (suc count) (suc other) now lt less = either (one_pass file now).has_answered
    (λ a. let fewer = passes_answer file now a in
    passes_on count file now a
    ∙ more_passes file count other (one_pass file now).now (omega arith) (omega arith)
    ∙ sym (passes_on other file now a))
    (λ n. passes_stop count file now n ∙ sym (passes_stop other file now n))

pub passes_are_enough : PassesAreEnough
passes_are_enough count file now lt = more_passes file count (length (now.manager.queues file) + 1) now lt (omega arith)
