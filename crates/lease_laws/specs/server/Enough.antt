-- A try of a request and the passes over held requests end by themselves: the numbers of rounds and
-- of passes that their definitions allow are enough.
use Rattle.std.specs.Prelude.{◌≡◌, ℕ, ◌≤◌, ◌<◌, true, false, List, length}
use Rattle.lease_model.specs.server.Attempt.{Outcome, tried_for, tried, wants_met, must_wait}
use Rattle.lease_model.specs.server.Passes.{one_pass, passes_for, passes}
use Rattle.lease_model.specs.server.Progress.{Progress}
use Rattle.lease_model.specs.server.Ready.{is_ready}
use Rattle.lease_model.specs.messages.Requests.{FileRequest}
use Rattle.lease_model.specs.server.Wants.{Want}
use Rattle.lease_model.specs.server.Findings.{Finding, finding}

-- Why a try ends: its last look refuses the request, or finds it ready, or what this look wanted is
-- done as far as it can be, and the request has to wait for it.
abbrev pub EndsFor : ℕ → FileRequest → Progress → Outcome → Type 0
EndsFor client request progress (Outcome.Refused status) =
    finding progress.server client request ≡ Finding.Fails status
EndsFor client request progress Outcome.Ready = (wants : List Want)
    × (finding progress.server client request ≡ Finding.Needs wants)
    × (is_ready request progress.server.leases wants ≡ true)
EndsFor client request progress Outcome.Waits = (before : Progress) × (wants : List Want)
    × (finding before.server client request ≡ Finding.Needs wants)
    × (progress ≡ wants_met wants before)
    × (must_wait request progress wants ≡ true)

-- Every try ends so, and none for want of rounds.
abbrev pub TriesEnd : Type 0
TriesEnd = (client : ℕ) (request : FileRequest) (progress : Progress)
    → EndsFor client request (tried client request progress).progress (tried client request progress).outcome

-- With more rounds than three, a try does the same.
abbrev pub ThreeRoundsAreEnough : Type 0
ThreeRoundsAreEnough = (rounds client : ℕ) (request : FileRequest) (progress : Progress) → 3 ≤ rounds
    → tried_for rounds client request progress ≡ tried client request progress

-- The last of the passes over a file answered nothing.
abbrev pub PassesEnd : Type 0
PassesEnd = (file : ℕ) (progress : Progress) → (before : Progress)
    × ((one_pass file before).has_answered ≡ false)
    × (passes file progress ≡ (one_pass file before).progress)

-- With more passes than requests are held on a file, however many, the same is done.
abbrev pub PassesAreEnough : Type 0
PassesAreEnough = (count file : ℕ) (progress : Progress) → length (progress.server.held file) < count
    → passes_for count file progress ≡ passes file progress
