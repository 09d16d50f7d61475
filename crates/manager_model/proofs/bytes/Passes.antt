-- Passes over what waits, with and without bytes.
use Rattle.lease_laws.proofs.Words.{◌+◌, ◌++◌, ◌∙◌, ◌∷◌, ◌≡◌, Held, List, Outcome, Pass, Progress, Tried, ℕ, [], after_try}
use Rattle.lease_laws.proofs.Words.{all_passes, ap}
use Rattle.lease_laws.proofs.Words.{ap₂, concluded, false, held_left, if◌then◌else◌, is_behind, left_waiting, length}
use Rattle.lease_laws.proofs.Words.{length-map, map}
use Rattle.lease_laws.proofs.Words.{map-append, numbers_to, one_pass, pass_answered, pass_over, passes, passes_for, passes_over}
use Rattle.lease_laws.proofs.Words.{refl}
use Rattle.lease_laws.proofs.Words.{suc, sym, tried, tried_again, true, zero}
use Rattle.lease_model.specs.server.Passes.{after_pass}
use Rattle.manager_model.specs.Bare.{bare_held, bare_progress, bare_request}
use Rattle.manager_model.proofs.bytes.Ends.{concluded_so}
use Rattle.manager_model.proofs.bytes.Steps.{behind_so, choose_so, left_so}
use Rattle.manager_model.proofs.bytes.Tries.{bare_tried, tried_so}

abbrev bare_pass : Pass → Pass
bare_pass pass = record {
  passed = map bare_held pass.passed;
  progress = bare_progress pass.progress;
  has_answered = pass.has_answered;
}

waiting_so : (one : Held) (pass : Pass) (progress : Progress)
    → left_waiting (bare_held one) (bare_pass pass) (bare_progress progress) ≡ bare_pass (left_waiting one pass progress)
waiting_so one pass progress =
    ap (λ (passed : List Held). record { passed = passed; progress = bare_progress progress; has_answered = pass.has_answered })
    (sym (map-append bare_held pass.passed (one ∷ [])))

answered_so : (file : ℕ) (one : Held) (waiting : List Held) (pass : Pass) (done : Tried)
    → pass_answered file (bare_held one) (map bare_held waiting) (bare_pass pass) (bare_tried done)
    ≡ bare_pass (pass_answered file one waiting pass done)
answered_so file one waiting pass done =
    let left = held_left file (pass.passed ++ waiting) done.progress in
    ap (λ (progress : Progress). record { passed = map bare_held pass.passed; progress = progress; has_answered = true })
    (ap (λ held. concluded one.client (bare_request one.request) (held_left file held (bare_progress done.progress)) done.outcome)
    (sym (map-append bare_held pass.passed waiting))
    ∙ ap (λ p. concluded one.client (bare_request one.request) p done.outcome) (left_so file
    (pass.passed ++ waiting) done.progress)
    ∙ concluded_so one.client one.request left done.outcome)

tried_so_far : (file : ℕ) (one : Held) (waiting : List Held) (pass : Pass) (progress : Progress) (outcome : Outcome)
    → after_try file (bare_held one) (map bare_held waiting) (bare_pass pass) (bare_progress progress) outcome
    ≡ bare_pass (after_try file one waiting pass progress outcome)
tried_so_far file one waiting pass progress Outcome.Waits = waiting_so one pass progress
tried_so_far file one waiting pass progress outcome =
    answered_so file one waiting pass (record { progress = progress; outcome = outcome })

again_so : (file : ℕ) (one : Held) (waiting : List Held) (pass : Pass)
    → tried_again file (bare_held one) (map bare_held waiting) (bare_pass pass) ≡ bare_pass (tried_again file one waiting pass)
unfolding tried_again
again_so file one waiting pass =
    let done = tried one.client one.request pass.progress in
    ap₂ (λ b (after : Pass). if b then left_waiting (bare_held one) (bare_pass pass) (bare_progress pass.progress) else after)
    (behind_so pass.progress.server.rules one pass.passed)
    (ap (λ (tried : Tried). after_try file (bare_held one) (map bare_held waiting) (bare_pass pass) tried.progress tried.outcome)
    (tried_so one.client one.request pass.progress)
    ∙ tried_so_far file one waiting pass done.progress done.outcome)
    ∙ choose_so bare_pass (is_behind pass.progress.server.rules one pass.passed) _ _ _ _
    (waiting_so one pass pass.progress) refl

over_so : (file : ℕ) (waiting : List Held) (pass : Pass)
    → pass_over file (map bare_held waiting) (bare_pass pass) ≡ bare_pass (pass_over file waiting pass)
unfolding pass_over
over_so file [] pass = refl
over_so file (one ∷ waiting) pass =
    ap (pass_over file (map bare_held waiting)) (again_so file one waiting pass)
    ∙ over_so file waiting (tried_again file one waiting pass)

one_pass_so : (file : ℕ) (progress : Progress) → one_pass file (bare_progress progress) ≡ bare_pass (one_pass file progress)
one_pass_so file progress = over_so file (progress.server.held file)
    (record { passed = []; progress = progress; has_answered = false })

passes_for_so : (count file : ℕ) (progress : Progress)
    → passes_for count file (bare_progress progress) ≡ bare_progress (passes_for count file progress)
unfolding passes_for
passes_for_so zero file progress = refl
passes_for_so (suc count) file progress =
    ap (after_pass (passes_for count file)) (one_pass_so file progress)
    ∙ choose_so bare_progress (one_pass file progress).has_answered _ _ _ _
    (passes_for_so count file (one_pass file progress).progress) refl

passes_so : (file : ℕ) (progress : Progress) → passes file (bare_progress progress) ≡ bare_progress (passes file progress)
passes_so file progress =
    ap (λ count. passes_for (count + 1) file (bare_progress progress)) (length-map (progress.server.held file) bare_held)
    ∙ passes_for_so (length (progress.server.held file) + 1) file progress

files_so : (files : List ℕ) (progress : Progress)
    → passes_over files (bare_progress progress) ≡ bare_progress (passes_over files progress)
unfolding passes_over
files_so [] progress = refl
files_so (file ∷ files) progress =
    ap (passes_over files) (passes_so file progress) ∙ files_so files (passes file progress)

pub all_so : (progress : Progress) → all_passes (bare_progress progress) ≡ bare_progress (all_passes progress)
unfolding all_passes
all_so progress = files_so (numbers_to progress.server.files) progress
