use Rattle.std.proofs.Common.{◌≡◌, ◌++◌, drop}
use Rattle.capture_walk.specs.Index.{from_places, places_at}
use Rattle.capture_walk.specs.Tails.{changes_in}
use Rattle.capture_walk.proofs.chains.changes_of.Given as goal

-- what is left gives the whole
abbrev pub invariant-loop-number : goal.invariant-loop-number
invariant-loop-number l =
    l.changes.items ++ changes_in l.lease l.since (from_places l.events (drop l.number l.places))
    ≡ changes_in l.lease l.since (from_places l.events (places_at l.index.places l.lease))
