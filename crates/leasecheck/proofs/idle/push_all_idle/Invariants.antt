use Rattle.std.proofs.Common.{◌≡◌, ◌++◌, flat_map, take}
use Rattle.std.specs.String.{string_bytes}
use Rattle.leasecheck.specs.Idle.{idle_line}
use Rattle.leasecheck.proofs.idle.push_all_idle.Given as goal

abbrev pub invariant-loop-one : goal.invariant-loop-one
invariant-loop-one l =
    string_bytes l.text ≡ string_bytes l.fn.text ++ flat_map (idle_line l.lines) (take l.one-index l.events)
