use Rattle.std.proofs.Common.{◌≡◌, ◌++◌, take}
use Rattle.std.specs.List.{flat_map}
use Rattle.capture_texts.specs.records.Records.{are_lines, facts_in, tells, epoch_remark}
use Rattle.capture_texts.proofs.records.notes.push_epochs.Given as goal

abbrev pub invariant-loop-epoch : goal.invariant-loop-epoch
invariant-loop-epoch l = record {
  facts : facts_in l.lines.items ≡ facts_in l.initial.lines.items;
  lines : are_lines l.lines.items ≡ are_lines l.initial.lines.items;
  told : tells l.lines.items ≡ tells l.initial.lines.items ++ flat_map epoch_remark (take l.epoch-index l.epochs);
}
