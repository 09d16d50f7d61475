use Rattle.std.specs.{List.flat_map, String.string_bytes}
use Rattle.std.proofs.Common.{◌≡◌, ◌++◌, map}
use Rattle.{lease_lines.specs.ClientAnswers.note_line, lease_client.specs.Answers.note_of}
use Rattle.lease_lines.proofs.client_answers.push_notes.Given as goal

abbrev pub invariant-loop-note : goal.invariant-loop-note
invariant-loop-note l = string_bytes l.text ≡ string_bytes l.fn.text ++ flat_map (note_line l.client.0) (map note_of l.yielded)
