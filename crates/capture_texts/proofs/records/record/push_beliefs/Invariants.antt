use Rattle.std.proofs.Common.{◌≡◌, ◌++◌, take}
use Rattle.capture_texts.specs.records.Records.{are_lines, facts_in, beliefs, tells, beliefs_told}
use Rattle.capture_texts.proofs.records.record.push_beliefs.Given as goal

abbrev pub invariant-loop-change : goal.invariant-loop-change
invariant-loop-change l = record {
  facts : facts_in l.lines.items ≡ facts_in l.initial.lines.items ++ beliefs (take l.change-index l.changes);
  lines : are_lines l.lines.items ≡ are_lines l.initial.lines.items;
  told : tells l.lines.items ≡ tells l.initial.lines.items ++ beliefs_told l.files (take l.change-index l.changes);
}
