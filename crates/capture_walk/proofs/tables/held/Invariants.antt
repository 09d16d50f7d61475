use Rattle.std.proofs.Common.{◌≡◌, ◌++◌, drop}
use Rattle.capture_walk.specs.Index.{from_places, places_at}
use Rattle.capture_walk.specs.Tails.{held_in}
use Rattle.capture_walk.proofs.tables.held.Given as goal

-- what is left gives the whole
abbrev pub invariant-loop-number : goal.invariant-loop-number
invariant-loop-number l =
    l.changes.items ++ held_in l.lease l.since l.broken (from_places l.events (drop l.number l.places))
    ≡ held_in l.lease l.since 0 (from_places l.events (places_at l.index.places l.lease))
