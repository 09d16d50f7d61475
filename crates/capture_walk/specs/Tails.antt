-- The same of a lease as its chains say, by the events that are about it, each with those that come after it. Each list begins
-- with an event that is about the lease.
use Rattle.std.specs.Prelude.{ℕ, ◌&&◌, false, nat_le, if◌then◌else◌, List, [], ◌∷◌, ◌++◌, Option, Some, None, filter}
use Rattle.std.specs.Option.{option_map}
use Rattle.capture_judge.specs.declared.values.Change.{Change}
use Rattle.capture_judge.specs.declared.values.Level.TheVariants.{Nothing}
use Rattle.capture_walk.specs.Chains.{is_same, is_known, is_accepted, change, changes_by_grant, changes_by_break, taken, last_shown}
use Rattle.capture_walk.specs.Tables.{held_by_grant, held_by_break, ended_with, broken_at}
use Rattle.capture_walk.specs.Told.{granted_now, broken_now, acknowledged_now}
use Rattle.capture_walk.specs.declared.event.Acknowledged.{Acknowledged}
use Rattle.capture_walk.specs.declared.event.Event.{Event}
use Rattle.capture_walk.specs.declared.event.Event.TheVariants as event
use Rattle.capture_walk.specs.declared.event.Lease.{Lease}
use Rattle.capture_walk.specs.declared.told.LeaseTold.{LeaseTold}

-- ---- acknowledgments

-- the acknowledgment of a break by an event and those after it, where there is this one behind it
abbrev pub acknowledged_by : Lease → Option ℕ → Event → List Event → Option Acknowledged → Option Acknowledged
acknowledged_by lease since (event.Acknowledged given) later behind =
    if is_known since (event.Acknowledged given) && is_accepted lease given (filter (is_known since) later)
    then Some given else behind
acknowledged_by lease since (event.Broken one) later behind =
    if is_known since (event.Broken one) && is_same one.lease lease then None else behind
acknowledged_by lease since _ later behind = behind

abbrev pub acknowledgment_in : Lease → Option ℕ → List (List Event) → Option Acknowledged
acknowledgment_in lease since [] = None
acknowledgment_in lease since ([] ∷ rest) = acknowledgment_in lease since rest
acknowledgment_in lease since ((one ∷ later) ∷ rest) = acknowledged_by lease since one later (acknowledgment_in lease since rest)

-- ---- what clients believe

abbrev pub changes_with : Lease → Event → List Event → Option Acknowledged → List Change
changes_with lease (event.Granted grant) later given =
    if is_same grant.lease lease
    then changes_by_grant grant (taken grant.sent later) (last_shown grant.lease grant.sent false None later)
    else []
changes_with lease (event.Broken one) later given = if is_same one.lease lease then changes_by_break one given later else []
changes_with lease (event.Ended end) later given =
    if is_same end.lease lease then change Nothing end.first (Some end.last) ∷ [] else []
changes_with lease _ later given = []

abbrev pub changes_at : Lease → Option ℕ → Event → List Event → Option Acknowledged → List Change
changes_at lease since one later given =
    if is_known since one then changes_with lease one (filter (is_known since) later) given else []

abbrev pub changes_in : Lease → Option ℕ → List (List Event) → List Change
changes_in lease since [] = []
changes_in lease since ([] ∷ rest) = changes_in lease since rest
changes_in lease since ((one ∷ later) ∷ rest) =
    changes_at lease since one later (acknowledgment_in lease since rest) ++ changes_in lease since rest

-- ---- what the server holds

abbrev pub held_with : Lease → ℕ → Event → List Event → Option Acknowledged → List Change
held_with lease broken (event.Granted one) later given =
    if is_same one.lease lease then held_by_grant one broken (last_shown one.lease one.sent false None later) else []
held_with lease broken (event.Broken one) later given =
    if is_same one.lease lease then held_by_break one given (last_shown one.lease one.sent false None later) later else []
held_with lease broken (event.Ended end) later given = if is_same end.lease lease then ended_with end.closing end later else []
held_with lease broken _ later given = []

abbrev pub held_at : Lease → Option ℕ → ℕ → Event → List Event → Option Acknowledged → List Change
held_at lease since broken one later given =
    if is_known since one then held_with lease broken one (filter (is_known since) later) given else []

abbrev pub broken_by : Lease → Option ℕ → ℕ → Event → ℕ
broken_by lease since broken one = if is_known since one then broken_at lease broken one else broken

abbrev pub held_in : Lease → Option ℕ → ℕ → List (List Event) → List Change
held_in lease since broken [] = []
held_in lease since broken ([] ∷ rest) = held_in lease since broken rest
held_in lease since broken ((one ∷ later) ∷ rest) =
    held_at lease since broken one later (acknowledgment_in lease since rest)
    ++ held_in lease since (broken_by lease since broken one) rest

-- ---- what was said last

abbrev pub told_after : Lease → ℕ → Option LeaseTold → Event → Option LeaseTold
told_after lease until found (event.Granted one) =
    if is_same one.lease lease && nat_le one.sent.position until then Some (granted_now one) else found
told_after lease until found (event.Broken one) =
    if is_same one.lease lease && nat_le one.sent.position until then option_map (broken_now one) found else found
told_after lease until found (event.Acknowledged given) =
    if is_same given.lease lease && nat_le given.last until then option_map (acknowledged_now given) found else found
told_after lease until found (event.Ended end) = if is_same end.lease lease && nat_le end.last until then None else found
told_after lease until found _ = found

abbrev pub told_in : Lease → ℕ → Option LeaseTold → List (List Event) → Option LeaseTold
told_in lease until found [] = found
told_in lease until found ([] ∷ rest) = told_in lease until found rest
told_in lease until found ((one ∷ later) ∷ rest) = told_in lease until (told_after lease until found one) rest
