use Rattle.std.proofs.Common.{◌≡◌, drop}
use Rattle.capture_walk.specs.Index.{from_places}
use Rattle.capture_walk.specs.Tails.{acknowledgment_in}
use Rattle.capture_walk.proofs.chains.acknowledgment_at.Given as goal

-- what is left gives the whole
abbrev pub invariant-loop-place : goal.invariant-loop-place
invariant-loop-place l =
    acknowledgment_in l.lease l.since (from_places l.events (drop l.place-index l.places))
    ≡ acknowledgment_in l.lease l.since (from_places l.events l.places)
