use Rattle.std.proofs.Common.{◌≡◌, ◌++◌, drop}
use Rattle.capture_texts.specs.records.Records.{are_lines, facts_in, joins, tells, joins_told}
use Rattle.capture_texts.proofs.records.record.push_joins.Given as goal

abbrev pub invariant-loop-index : goal.invariant-loop-index
invariant-loop-index l = record {
  facts : facts_in l.lines.items ≡ facts_in l.initial.lines.items ++ joins l.index;
  lines : are_lines l.lines.items ≡ are_lines l.initial.lines.items;
  told : tells l.lines.items ++ joins_told l.files l.index (drop l.index l.clients)
      ≡ tells l.initial.lines.items ++ joins_told l.files 0 l.clients;
}
