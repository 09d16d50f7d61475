use Rattle.std.proofs.Common.{◌≡◌, map, take}
use Rattle.std.specs.List.{flat_map}
use Rattle.capture_judge.specs.Worked.{shown}
use Rattle.capture_walk.specs.Tables.{table_of}
use Rattle.capture_walk.proofs.tables.tables_on.Given as goal

abbrev pub invariant-loop-lease : goal.invariant-loop-lease
invariant-loop-lease l = map shown l.chains.items ≡ flat_map (table_of l.events) (take l.lease-index l.lease-items)
