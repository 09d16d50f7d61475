use Rattle.std.proofs.Common.{◌≡◌, ◌++◌, length}
use Rattle.std.specs.String.{string_bytes}
use Rattle.leasecheck.specs.Idle.{idle_before, idle_behind, idle_line}
use Rattle.leasecheck.proofs.idle.push_idle_before.Given as goal

-- what is told and what is left are the whole
abbrev pub invariant-loop-left : goal.invariant-loop-left
invariant-loop-left l = record {
  told : string_bytes l.text ++ idle_before (idle_line l.lines) l.count l.left
      ≡ string_bytes l.fn.text ++ idle_before (idle_line l.lines) l.count l.events;
  behind : idle_behind l.count l.left ≡ idle_behind l.count l.events;
}

abbrev pub decreases-loop-left : goal.decreases-loop-left
decreases-loop-left l = length l.left
