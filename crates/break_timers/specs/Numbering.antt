-- What the decisions of a manager do to the timers of its host.
use Rattle.std.specs.Prelude.{ℕ, ◌+◌, Bool, false, Option, Some, None, List, [], ◌∷◌, if◌then◌else◌}
use Rattle.lease_model.specs.server.Naming.{key_of}
use Rattle.manager_model.specs.Decisions.{Decision}
use Rattle.break_timers.specs.Timers.{Timers, started, stopped}

-- a break that has to be acknowledged
abbrev pub starts_timer : Decision → Bool
starts_timer (Decision.Breaks client notice) = notice.ack_required
starts_timer other = false

-- the number of the timer that the decision starts
abbrev pub number_told : Decision → Timers → Option ℕ
number_told decision timers = if starts_timer decision then Some (timers.started + 1) else None

-- the timers after a decision: an acknowledgment that is answered ends its break
abbrev pub noted : Decision → Timers → Timers
noted (Decision.Breaks client notice) timers =
    if notice.ack_required then started (key_of client notice.key) timers else timers
noted (Decision.Acknowledged client given) timers = stopped (key_of client given.key) timers
noted other timers = timers

abbrev pub noted_all : List Decision → Timers → Timers
noted_all [] timers = timers
noted_all (decision ∷ decisions) timers = noted_all decisions (noted decision timers)

-- the numbers that decisions are told, one after the other
abbrev pub numbers_told : List Decision → Timers → List (Option ℕ)
numbers_told [] timers = []
numbers_told (decision ∷ decisions) timers = number_told decision timers ∷ numbers_told decisions (noted decision timers)
