use Rattle.std.proofs.Common.{◌≡◌, ◌++◌, take}
use Rattle.std.specs.List.{flat_map}
use Rattle.capture_texts.specs.records.Records.{are_lines, facts_in, tells, lost_remark}
use Rattle.capture_texts.proofs.records.notes.push_clients.Given as goal

abbrev pub invariant-loop-client : goal.invariant-loop-client
invariant-loop-client l = record {
  facts : facts_in l.lines.items ≡ facts_in l.initial.lines.items;
  lines : are_lines l.lines.items ≡ are_lines l.initial.lines.items;
  told : tells l.lines.items ≡ tells l.initial.lines.items ++ flat_map lost_remark (take l.client-index l.clients);
}
