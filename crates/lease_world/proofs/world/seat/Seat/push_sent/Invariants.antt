use Rattle.std.proofs.Common.{◌≡◌, ◌++◌, ◌-◌, drop, take}
use Rattle.lease_world.specs.world.Passages.{sent_noted}
use Rattle.lease_world.proofs.world.seat.Seat.push_sent.Given as goal

abbrev pub invariant-loop-place : goal.invariant-loop-place
invariant-loop-place l = l.passages.items
    ≡ l.fn.passages.items ++ sent_noted l.client l.facts (take (l.place - l.waiting) (drop l.waiting l.self.requests))
