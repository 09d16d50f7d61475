use Rattle.std.proofs.Common.{◌≡◌, ◌-◌, length, drop}
use Rattle.lease_wire.specs.Reading.{items_behind}
use Rattle.lease_c.specs.Found.{found, found_among}
use Rattle.lease_c.proofs.context.place_of.Given as goal

-- what is found from here on is what is found
abbrev pub invariant-loop-read : goal.invariant-loop-read
invariant-loop-read l = found l.name l.text ≡ found_among l.name (items_behind l.place 0 (drop l.place l.text))

-- each context ends behind the one before it
abbrev pub decreases-loop-read : goal.decreases-loop-read
decreases-loop-read l = length l.text - l.place
