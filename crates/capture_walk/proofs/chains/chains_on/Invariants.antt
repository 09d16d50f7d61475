use Rattle.std.proofs.Common.{◌≡◌, map, take}
use Rattle.std.specs.List.{flat_map}
use Rattle.capture_judge.specs.Worked.{shown}
use Rattle.capture_walk.specs.Chains.{chain_of}
use Rattle.capture_walk.proofs.chains.chains_on.Given as goal

abbrev pub invariant-loop-lease : goal.invariant-loop-lease
invariant-loop-lease l = map shown l.chains.items ≡ flat_map (chain_of l.events) (take l.lease-index l.lease-items)
