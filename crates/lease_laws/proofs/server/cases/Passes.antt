-- What a held request tried again makes of a pass, and what passes make of a call under way. What holds of each way that
-- a try in a pass can go, and is carried from pass to pass, holds of all passes.
use Rattle.lease_laws.proofs.Words.{◌+◌, ◌∷◌, ◌≡◌, Held, List, Outcome, Pass, Progress, Tried, ℕ, [], after_try, all_passes}
use Rattle.lease_laws.proofs.Words.{false, is_behind, left_waiting, length, numbers_to, one_pass, pass_answered, pass_over}
use Rattle.lease_laws.proofs.Words.{passes, passes_for, passes_over, refl, subst, suc, sym, tried, tried_again, true, zero}
use Rattle.lease_laws.proofs.server.Lists.{either}

-- ---- a held request tried again

pub is_passed_over : (file : ℕ) (one : Held) (waiting : List Held) (pass : Pass)
    → is_behind pass.progress.server.rules one pass.passed ≡ true
    → tried_again file one waiting pass ≡ left_waiting one pass pass.progress
unfolding tried_again
is_passed_over file one waiting pass behind = rw (behind) refl

pub is_tried : (file : ℕ) (one : Held) (waiting : List Held) (pass : Pass)
    → is_behind pass.progress.server.rules one pass.passed ≡ false
    → tried_again file one waiting pass ≡ after_try file one waiting pass (tried one.client one.request pass.progress).progress
    (tried one.client one.request pass.progress).outcome
unfolding tried_again
is_tried file one waiting pass first = rw (first) refl

-- behind: an earlier request that it waits behind still waits, so it isn't tried
-- waits: it has still to wait
-- answers: it is answered, or refused
pub record HasTriesAgain (file : ℕ) (one : Held) (waiting : List Held) (pass : Pass) (P : Pass → Type 0) : Type 0 where
  pub behind : is_behind pass.progress.server.rules one pass.passed ≡ true → P (left_waiting one pass pass.progress)
  pub waits : is_behind pass.progress.server.rules one pass.passed ≡ false
      → (tried one.client one.request pass.progress).outcome ≡ Outcome.Waits
      → P (left_waiting one pass (tried one.client one.request pass.progress).progress)
  pub answers : is_behind pass.progress.server.rules one pass.passed ≡ false
      → ((tried one.client one.request pass.progress).outcome ≡ Outcome.Waits → ⊥)
      → P (pass_answered file one waiting pass (tried one.client one.request pass.progress))

ended_so : (file : ℕ) (one : Held) (waiting : List Held) (pass : Pass) (P : Pass → Type 0) (done : Tried) (outcome : Outcome)
    → done.outcome ≡ outcome → (done.outcome ≡ Outcome.Waits → P (left_waiting one pass done.progress))
    → ((done.outcome ≡ Outcome.Waits → ⊥) → P (pass_answered file one waiting pass done))
    → P (after_try file one waiting pass done.progress outcome)
ended_so file one waiting pass P done Outcome.Waits e waits answers = waits e
ended_so file one waiting pass P done outcome e waits answers =
    subst (λ o. P (pass_answered file one waiting pass (record { progress = done.progress; outcome = o }))) e
    (answers (λ other. absurd (apart e other)))
  where
    apart : done.outcome ≡ outcome → done.outcome ≡ Outcome.Waits → ⊥
    apart e other = cc

pub any_try_again : (file : ℕ) (one : Held) (waiting : List Held) (pass : Pass) (P : Pass → Type 0)
    → HasTriesAgain file one waiting pass P → P (tried_again file one waiting pass)
any_try_again file one waiting pass P h = either (is_behind pass.progress.server.rules one pass.passed)
    (λ behind. subst P (sym (is_passed_over file one waiting pass behind)) (h.behind behind))
    (λ first. let done = tried one.client one.request pass.progress in
    subst P (sym (is_tried file one waiting pass first))
    (ended_so file one waiting pass P done done.outcome refl (h.waits first) (h.answers first)))

-- ---- a pass over a file

pub goes_on : (file : ℕ) (one : Held) (waiting : List Held) (pass : Pass)
    → pass_over file (one ∷ waiting) pass ≡ pass_over file waiting (tried_again file one waiting pass)
unfolding pass_over
goes_on file one waiting pass = refl

pub is_over : (file : ℕ) (pass : Pass) → pass_over file [] pass ≡ pass
unfolding pass_over
is_over file pass = refl

abbrev pub pass_begun : Progress → Pass
pass_begun progress = record { passed = []; progress = progress; has_answered = false }

-- what each try hands on to the next holds at the end of the pass
pub any_pass : (file : ℕ) (Q : List Held → Pass → Type 0)
    → ((one : Held) (waiting : List Held) (pass : Pass) → Q (one ∷ waiting) pass → Q waiting (tried_again file one waiting pass))
    → (waiting : List Held) (pass : Pass) → Q waiting pass → Q [] (pass_over file waiting pass)
unfolding pass_over
any_pass file Q goes [] pass q = q
any_pass file Q goes (one ∷ waiting) pass q =
    any_pass file Q goes waiting (tried_again file one waiting pass) (goes one waiting pass q)

-- ---- passes over a file, until one answers nothing

pub passes_on : (count file : ℕ) (progress : Progress) → (one_pass file progress).has_answered ≡ true
    → passes_for (suc count) file progress ≡ passes_for count file (one_pass file progress).progress
unfolding passes_for
passes_on count file progress answered = rw (answered) refl

pub passes_stop : (count file : ℕ) (progress : Progress) → (one_pass file progress).has_answered ≡ false
    → passes_for (suc count) file progress ≡ (one_pass file progress).progress
unfolding passes_for
passes_stop count file progress none = rw (none) refl

-- ---- passes over all files

pub file_by_file : (file : ℕ) (files : List ℕ) (progress : Progress)
    → passes_over (file ∷ files) progress ≡ passes_over files (passes file progress)
unfolding passes_over
file_by_file file files progress = refl

pub no_file_left : (progress : Progress) → passes_over [] progress ≡ progress
unfolding passes_over
no_file_left progress = refl

pub over_all : (progress : Progress) → all_passes progress ≡ passes_over (numbers_to progress.server.files) progress
unfolding all_passes
over_all progress = refl

-- Of a pass over a file (`InPass file start waiting pass`, for what it began with, the requests not yet looked at and the
-- pass so far), of so many passes over a file (`OfFile count file start after`), and of passes over some files.
pub record HasPasses (InPass : ℕ → Progress → List Held → Pass → Type 0) (OfFile : ℕ → ℕ → Progress → Progress → Type 0)
    (OfFiles : List ℕ → Progress → Progress → Type 0) : Type 0 where
  pub begins : (file : ℕ) (start : Progress) → InPass file start (start.server.held file) (pass_begun start)
  pub goes : (file : ℕ) (start : Progress) (one : Held) (waiting : List Held) (pass : Pass)
      → InPass file start (one ∷ waiting) pass → InPass file start waiting (tried_again file one waiting pass)
  pub out : (file : ℕ) (start : Progress) → OfFile 0 file start start
  pub again : (count file : ℕ) (start after : Progress) (pass : Pass) → InPass file start [] pass
      → pass.has_answered ≡ true → OfFile count file pass.progress after → OfFile (suc count) file start after
  pub last : (count file : ℕ) (start : Progress) (pass : Pass) → InPass file start [] pass
      → pass.has_answered ≡ false → OfFile (suc count) file start pass.progress
  pub none : (start : Progress) → OfFiles [] start start
  pub more : (file : ℕ) (files : List ℕ) (start next after : Progress)
      → OfFile (length (start.server.held file) + 1) file start next → OfFiles files next after
      → OfFiles (file ∷ files) start after

any_count : (InPass : ℕ → Progress → List Held → Pass → Type 0) (OfFile : ℕ → ℕ → Progress → Progress → Type 0)
    (OfFiles : List ℕ → Progress → Progress → Type 0) → HasPasses InPass OfFile OfFiles
    → (count file : ℕ) (progress : Progress) → OfFile count file progress (passes_for count file progress)
unfolding passes_for
any_count InPass OfFile OfFiles h zero file progress = h.out file progress
any_count InPass OfFile OfFiles h (suc count) file progress =
    let pass = one_pass file progress in
    let done = any_pass file (InPass file progress) (h.goes file progress) (progress.server.held file) (pass_begun progress)
    (h.begins file progress) in
    either pass.has_answered
    (λ answered. subst (OfFile (suc count) file progress) (sym (passes_on count file progress answered))
    (h.again count file progress (passes_for count file pass.progress) pass done answered
    (any_count InPass OfFile OfFiles h count file pass.progress)))
    (λ nothing. subst (OfFile (suc count) file progress) (sym (passes_stop count file progress nothing))
    (h.last count file progress pass done nothing))

any_files : (InPass : ℕ → Progress → List Held → Pass → Type 0) (OfFile : ℕ → ℕ → Progress → Progress → Type 0)
    (OfFiles : List ℕ → Progress → Progress → Type 0) → HasPasses InPass OfFile OfFiles
    → (files : List ℕ) (progress : Progress) → OfFiles files progress (passes_over files progress)
unfolding passes_over
any_files InPass OfFile OfFiles h [] progress = h.none progress
any_files InPass OfFile OfFiles h (file ∷ files) progress =
    h.more file files progress (passes file progress) (passes_over files (passes file progress))
    (any_count InPass OfFile OfFiles h (length (progress.server.held file) + 1) file progress)
    (any_files InPass OfFile OfFiles h files (passes file progress))

pub any_passes : (InPass : ℕ → Progress → List Held → Pass → Type 0) (OfFile : ℕ → ℕ → Progress → Progress → Type 0)
    (OfFiles : List ℕ → Progress → Progress → Type 0) → HasPasses InPass OfFile OfFiles
    → (progress : Progress) → OfFiles (numbers_to progress.server.files) progress (all_passes progress)
unfolding all_passes
any_passes InPass OfFile OfFiles h progress = any_files InPass OfFile OfFiles h (numbers_to progress.server.files) progress

-- what each try keeps all passes keep
pub passes_keep : (P : Progress → Type 0)
    → ((file : ℕ) (one : Held) (waiting : List Held) (pass : Pass) → P pass.progress
    → P (tried_again file one waiting pass).progress)
    → (progress : Progress) → P progress → P (all_passes progress)
passes_keep P goes = any_passes (λ file start waiting pass. P start → P pass.progress)
    (λ count file start after. P start → P after)
    (λ files start after. P start → P after) (record {
      begins = λ file start p. p;
      goes = λ file start one waiting pass kept p. goes file one waiting pass (kept p);
      out = λ file start p. p;
      again = λ count file start after pass kept answered rest p. rest (kept p);
      last = λ count file start pass kept nothing. kept;
      none = λ start p. p;
      more = λ file files start next after first rest p. rest (first p);
    })
