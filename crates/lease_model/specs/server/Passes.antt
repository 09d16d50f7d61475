-- Held requests are tried again (profile): files in number order, and on each file passes over what
-- is held there, in order of arrival, until a pass answers nothing.
use Rattle.std.specs.Prelude.{ℕ, ◌+◌, zero, suc, Bool, true, false, List, [], ◌∷◌, ◌++◌, length, if◌then◌else◌}
use Rattle.lease_model.specs.server.Answers.{concluded}
use Rattle.lease_model.specs.server.Attempt.{Outcome, Tried, tried}
use Rattle.lease_model.specs.values.Lists.{numbers_to}
use Rattle.lease_model.specs.server.Progress.{Progress, held_left}
use Rattle.lease_model.specs.server.State.{Held}
use Rattle.lease_model.specs.server.Lanes.{is_behind}

-- a pass under way: the requests that it passed over and that still wait, the call so far, and
-- whether the pass answered any
pub record Pass : Type 0 where
  pub passed : List Held
  pub progress : Progress
  pub has_answered : Bool

abbrev pub left_waiting : Held → Pass → Progress → Pass
left_waiting one pass progress = record pass { passed = pass.passed ++ one ∷ []; progress = progress }

-- the request leaves the held ones, and is answered or refused
abbrev pub pass_answered : ℕ → Held → List Held → Pass → Tried → Pass
pass_answered file one waiting pass done = record pass {
  progress = concluded one.client one.request
      (held_left file (pass.passed ++ waiting) done.progress) done.outcome;
  has_answered = true;
}

abbrev pub after_try : ℕ → Held → List Held → Pass → Progress → Outcome → Pass
after_try file one waiting pass progress Outcome.Waits = left_waiting one pass progress
after_try file one waiting pass progress outcome =
    pass_answered file one waiting pass (record { progress = progress; outcome = outcome })

-- One held request is tried again, unless an earlier one that it waits behind is still held; `waiting` are
-- those after it.
unfoldable pub tried_again : ℕ → Held → List Held → Pass → Pass
tried_again file one waiting pass =
    if is_behind pass.progress.server.rules one pass.passed then left_waiting one pass pass.progress
    else after_try file one waiting pass
    (tried one.client one.request pass.progress).progress
    (tried one.client one.request pass.progress).outcome

unfoldable pub pass_over : ℕ → List Held → Pass → Pass
pass_over file [] pass = pass
pass_over file (one ∷ waiting) pass = pass_over file waiting (tried_again file one waiting pass)

-- one pass over a file
abbrev pub one_pass : ℕ → Progress → Pass
one_pass file progress = pass_over file (progress.server.held file)
    (record { passed = []; progress = progress; has_answered = false })

abbrev pub after_pass : (Progress → Progress) → Pass → Progress
after_pass again pass = if pass.has_answered then again pass.progress else pass.progress

-- At most so many passes over a file.
unfoldable pub passes_for : ℕ → ℕ → Progress → Progress
passes_for zero file progress = progress
passes_for (suc count) file progress = after_pass (passes_for count file) (one_pass file progress)

-- Each pass but the last answers a request, so one more than are held is enough.
abbrev pub passes : ℕ → Progress → Progress
passes file progress = passes_for (length (progress.server.held file) + 1) file progress

unfoldable pub passes_over : List ℕ → Progress → Progress
passes_over [] progress = progress
passes_over (file ∷ files) progress = passes_over files (passes file progress)

unfoldable pub all_passes : Progress → Progress
all_passes progress = passes_over (numbers_to progress.server.files) progress
