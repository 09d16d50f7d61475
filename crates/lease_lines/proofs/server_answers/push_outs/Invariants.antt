use Rattle.std.proofs.Common.{◌≡◌, ◌++◌}
use Rattle.{std.specs.List.flat_map, std.specs.String.string_bytes, lease_lines.specs.ServerAnswers.out_line}
use Rattle.lease_lines.proofs.server_answers.push_outs.Given as goal

abbrev pub invariant-loop-given : goal.invariant-loop-given
invariant-loop-given l = string_bytes l.text ≡ string_bytes l.fn.text ++ flat_map out_line l.yielded
