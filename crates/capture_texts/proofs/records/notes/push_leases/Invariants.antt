use Rattle.std.proofs.Common.{◌≡◌, ◌++◌, take}
use Rattle.std.specs.List.{flat_map}
use Rattle.capture_texts.specs.records.Records.{are_lines, facts_in, tells, lease_remark}
use Rattle.capture_texts.proofs.records.notes.push_leases.Given as goal

abbrev pub invariant-loop-lease : goal.invariant-loop-lease
invariant-loop-lease l = record {
  facts : facts_in l.lines.items ≡ facts_in l.initial.lines.items;
  lines : are_lines l.lines.items ≡ are_lines l.initial.lines.items;
  told : tells l.lines.items ≡ tells l.initial.lines.items ++ flat_map lease_remark (take l.lease-index l.leases);
}
