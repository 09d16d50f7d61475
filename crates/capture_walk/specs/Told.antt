-- What the server said last of the leases on a file, up to a position: for whoever wants to know which of its messages clash.
-- Events are in the order of the capture.
use Rattle.std.specs.Prelude.{ℕ, nat_le, ◌&&◌, if◌then◌else◌, List, [], ◌∷◌, Option, Some, None, option_to_list}
use Rattle.std.specs.List.{flat_map}
use Rattle.std.specs.Option.{option_map}
use Rattle.capture_walk.specs.Chains.{is_same, leases_on}
use Rattle.capture_walk.specs.declared.event.Acknowledged.{Acknowledged}
use Rattle.capture_walk.specs.declared.event.Break.{Break}
use Rattle.capture_walk.specs.declared.event.Event.{Event}
use Rattle.capture_walk.specs.declared.event.Event.TheVariants as event
use Rattle.capture_walk.specs.declared.event.Grant.{Grant}
use Rattle.capture_walk.specs.declared.event.Lease.{Lease}
use Rattle.capture_walk.specs.declared.told.LeaseTold.{LeaseTold}

-- a grant, of which nothing was said since
abbrev pub granted_now : Grant → LeaseTold
granted_now grant = record { grant = grant; broken = None; acknowledged = None }

-- the break takes the place of one before it
abbrev pub broken_now : Break → LeaseTold → LeaseTold
broken_now broken told = record { grant = told.grant; broken = Some broken; acknowledged = None }

-- what an acknowledgment adds
abbrev pub acknowledged_now : Acknowledged → LeaseTold → LeaseTold
acknowledged_now given told = record { grant = told.grant; broken = told.broken; acknowledged = Some given }

-- What was said of a lease up to a position, after what was said before these events; nothing once it has ended.
abbrev pub told_until : Lease → ℕ → Option LeaseTold → List Event → Option LeaseTold
told_until lease until found [] = found
told_until lease until found (event.Granted one ∷ later) = told_until lease until
    (if is_same one.lease lease && nat_le one.sent.position until then Some (granted_now one) else found) later
told_until lease until found (event.Broken one ∷ later) = told_until lease until
    (if is_same one.lease lease && nat_le one.sent.position until then option_map (broken_now one) found else found) later
told_until lease until found (event.Acknowledged given ∷ later) = told_until lease until
    (if is_same given.lease lease && nat_le given.last until then option_map (acknowledged_now given) found else found) later
told_until lease until found (event.Ended end ∷ later) =
    told_until lease until (if is_same end.lease lease && nat_le end.last until then None else found) later
told_until lease until found (_ ∷ later) = told_until lease until found later

abbrev pub told_of : ℕ → List Event → Lease → List LeaseTold
told_of until events lease = option_to_list (told_until lease until None events)

-- of the leases on a file that had not ended by then, in the order in which they were granted first
abbrev pub leases_told : ℕ → ℕ → List Event → List LeaseTold
leases_told file until events = flat_map (told_of until events) (leases_on file events)
