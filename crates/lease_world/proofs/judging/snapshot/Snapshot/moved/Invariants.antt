use Rattle.lease_laws.proofs.Words.{◌+◌, ◌-◌, ◌≡◌, drop, length, patches}
use Rattle.lease_world.specs.judge.Before.{before, patches_of}
use Rattle.lease_world.proofs.judging.snapshot.Snapshot.moved.Given as goal

abbrev pub invariant-loop-applied : goal.invariant-loop-applied
invariant-loop-applied l = (patches l.bytes.items (patches_of (before l.place (drop l.applied l.changes)))
    ≡ patches l.fn.self.bytes (patches_of (before l.place (drop l.fn.self.applied l.changes))))
    × (l.applied + length (before l.place (drop l.applied l.changes))
    ≡ l.fn.self.applied + length (before l.place (drop l.fn.self.applied l.changes)))

abbrev pub decreases-loop-applied : goal.decreases-loop-applied
decreases-loop-applied l = length l.changes - l.applied
