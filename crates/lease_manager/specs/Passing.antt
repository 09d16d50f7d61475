-- A pass over a file's queue under way, by the place that it has come to.
use Rattle.std.specs.Prelude.{ℕ, Bool, true, false, take, drop}
use Rattle.lease_model.specs.server.Attempt.{Outcome}
use Rattle.manager_model.specs.Handling.{Handling, Pass, pass_over}

-- what becomes of a pass that has come to this place of the queue
abbrev pub pass_at : ℕ → ℕ → Bool → Handling → Pass
pass_at file place has_answered now = pass_over file (drop place (now.manager.queues file)) (record {
  passed = take place (now.manager.queues file);
  now = now;
  has_answered = has_answered;
})

abbrev pub is_waiting : Outcome → Bool
is_waiting Outcome.Waits = true
is_waiting outcome = false
