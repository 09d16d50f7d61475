use Rattle.std.proofs.Common.{◌≡◌, drop, None}
use Rattle.capture_walk.specs.Index.{from_places, places_at}
use Rattle.capture_walk.specs.Tails.{told_in}
use Rattle.capture_walk.proofs.told.told_until.Given as goal

-- what is left gives the whole
abbrev pub invariant-loop-place : goal.invariant-loop-place
invariant-loop-place l =
    told_in l.lease l.until l.found (from_places l.events (drop l.place-index l.place-items))
    ≡ told_in l.lease l.until None (from_places l.events (places_at l.index.places l.lease))
