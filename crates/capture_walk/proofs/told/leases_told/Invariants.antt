use Rattle.std.proofs.Common.{◌≡◌, take}
use Rattle.std.specs.List.{flat_map}
use Rattle.capture_walk.specs.Told.{told_of}
use Rattle.capture_walk.proofs.told.leases_told.Given as goal

abbrev pub invariant-loop-lease : goal.invariant-loop-lease
invariant-loop-lease l = l.told.items ≡ flat_map (told_of l.until l.events) (take l.lease-index l.lease-items)
