use Rattle.std.proofs.Common.{◌≡◌, ◌++◌, take}
use Rattle.std.specs.List.{flat_map}
use Rattle.std.specs.String.{string_bytes}
use Rattle.capture_texts.specs.records.Remarks.{message_words}
use Rattle.capture_texts.proofs.records.record.push_messages.Given as goal

abbrev pub invariant-loop-name : goal.invariant-loop-name
invariant-loop-name l =
    string_bytes l.remark ≡ string_bytes l.initial.remark ++ flat_map message_words (take l.name-index l.names)
