use Rattle.std.proofs.Common.{◌≡◌, ◌++◌, take}
use Rattle.{std.specs.List.flat_map, std.specs.String.string_bytes, lease_lines.specs.ClientAnswers.request_line}
use Rattle.lease_lines.proofs.client_answers.push_requests.Given as goal

abbrev pub invariant-loop-request : goal.invariant-loop-request
invariant-loop-request l = string_bytes l.text ≡ string_bytes l.fn.text ++ flat_map request_line (take l.request-index l.requests)
