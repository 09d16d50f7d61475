use Rattle.std.proofs.Common.{◌≡◌, ◌++◌, drop}
use Rattle.std.specs.String.{string_bytes}
use Rattle.leasecheck.specs.Capturing.{lines_printed}
use Rattle.leasecheck.proofs.capturing.push_lines.Given as goal

abbrev pub invariant-loop-line : goal.invariant-loop-line
invariant-loop-line l = string_bytes l.text ++ lines_printed (drop l.line-index l.lines)
    ≡ string_bytes l.initial.text ++ lines_printed l.lines
