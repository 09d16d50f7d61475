-- What a pass of a manager does: each of the ways that a try in it can go, and how passes follow one another.
use Rattle.lease_laws.proofs.Words.{◌∷◌, ◌≡◌, List, Outcome, Progress, Tried, ℕ, [], begun, false}
use Rattle.lease_laws.proofs.Words.{is_behind, refl, subst, suc, sym, tried, true}
use Rattle.lease_laws.proofs.server.Lists.{either}
use Rattle.manager_model.specs.Handling.{Handling, Pass, Tagged, after_try, ends, gone_on, held_in, left_waiting, one_pass}
use Rattle.manager_model.specs.Handling.{pass_answered}
use Rattle.manager_model.specs.Handling as rules

abbrev pub try_of : Tagged → Handling → Tried
try_of one now = tried one.held.client one.held.request (begun now.manager.server)

pub is_passed_over : (file : ℕ) (one : Tagged) (waiting : List Tagged) (pass : Pass)
    → is_behind pass.now.manager.server.rules one.held (held_in pass.passed) ≡ true
    → rules.tried_again file one waiting pass ≡ left_waiting one pass pass.now
unfolding rules.tried_again
is_passed_over file one waiting pass behind = rw (behind) refl

pub is_tried : (file : ℕ) (one : Tagged) (waiting : List Tagged) (pass : Pass)
    → is_behind pass.now.manager.server.rules one.held (held_in pass.passed) ≡ false
    → rules.tried_again file one waiting pass
    ≡ after_try file one waiting pass (try_of one pass.now).progress (try_of one pass.now).outcome
unfolding rules.tried_again
is_tried file one waiting pass first = rw (first) refl

pub goes_on : (file : ℕ) (one : Tagged) (waiting : List Tagged) (pass : Pass)
    → rules.pass_over file (one ∷ waiting) pass ≡ rules.pass_over file waiting (rules.tried_again file one waiting pass)
unfolding rules.pass_over
goes_on file one waiting pass = refl

pub is_over : (file : ℕ) (pass : Pass) → rules.pass_over file [] pass ≡ pass
unfolding rules.pass_over
is_over file pass = refl

pub passes_on : (count file : ℕ) (now : Handling) → (one_pass file now).has_answered ≡ true
    → rules.passes_for (suc count) file now ≡ rules.passes_for count file (one_pass file now).now
unfolding rules.passes_for
passes_on count file now answered = rw (answered) refl

pub passes_stop : (count file : ℕ) (now : Handling) → (one_pass file now).has_answered ≡ false
    → rules.passes_for (suc count) file now ≡ (one_pass file now).now
unfolding rules.passes_for
passes_stop count file now none = rw (none) refl

pub file_by_file : (file : ℕ) (files : List ℕ) (now : Handling)
    → rules.passes_over (file ∷ files) now ≡ rules.passes_over files (rules.passes file now)
unfolding rules.passes_over
file_by_file file files now = refl

pub no_file_left : (now : Handling) → rules.passes_over [] now ≡ now
unfolding rules.passes_over
no_file_left now = refl

-- What a try makes of a pass: it isn't tried, waits, or is answered.
pub record HasTries (file : ℕ) (one : Tagged) (waiting : List Tagged) (pass : Pass) (P : Pass → Type 0) : Type 0 where
  pub behind : P (left_waiting one pass pass.now)
  pub waits : P (left_waiting one pass (gone_on one.tag (try_of one pass.now).progress
      (ends (try_of one pass.now).progress.server pass.now)))
  pub answers : (outcome : Outcome) → (try_of one pass.now).outcome ≡ outcome → (outcome ≡ Outcome.Waits → ⊥)
      → P (pass_answered file one waiting pass (try_of one pass.now).progress outcome)

ended_so : (file : ℕ) (one : Tagged) (waiting : List Tagged) (pass : Pass) (P : Pass → Type 0) (progress : Progress)
    (outcome : Outcome) → P (left_waiting one pass (gone_on one.tag progress (ends progress.server pass.now)))
    → ((outcome ≡ Outcome.Waits → ⊥) → P (pass_answered file one waiting pass progress outcome))
    → P (after_try file one waiting pass progress outcome)
ended_so file one waiting pass P progress Outcome.Waits waits answers = waits
ended_so file one waiting pass P progress Outcome.Ready waits answers = answers (λ same. absurd (cc))
ended_so file one waiting pass P progress (Outcome.Refused status) waits answers = answers (λ same. absurd (cc))

pub any_try : (file : ℕ) (one : Tagged) (waiting : List Tagged) (pass : Pass) (P : Pass → Type 0)
    → HasTries file one waiting pass P → P (rules.tried_again file one waiting pass)
any_try file one waiting pass P h = either (is_behind pass.now.manager.server.rules one.held (held_in pass.passed))
    (λ behind. subst P (sym (is_passed_over file one waiting pass behind)) h.behind)
    (λ first. subst P (sym (is_tried file one waiting pass first))
    (ended_so file one waiting pass P (try_of one pass.now).progress (try_of one pass.now).outcome h.waits
    (h.answers (try_of one pass.now).outcome refl)))

-- what each try hands on to the next holds at the end of the pass
pub any_pass : (file : ℕ) (Q : List Tagged → Pass → Type 0)
    → ((one : Tagged) (waiting : List Tagged) (pass : Pass) → Q (one ∷ waiting) pass
    → Q waiting (rules.tried_again file one waiting pass))
    → (waiting : List Tagged) (pass : Pass) → Q waiting pass → Q [] (rules.pass_over file waiting pass)
unfolding rules.pass_over
any_pass file Q goes [] pass q = q
any_pass file Q goes (one ∷ waiting) pass q =
    any_pass file Q goes waiting (rules.tried_again file one waiting pass) (goes one waiting pass q)
