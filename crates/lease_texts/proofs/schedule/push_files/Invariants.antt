use Rattle.std.proofs.Common.{◌≡◌, ◌++◌, flat_map, take}
use Rattle.{std.specs.String.string_bytes, lease_texts.specs.Schedules.part_line, lease_texts.specs.declared.parts.Part.Part}
use Rattle.lease_texts.proofs.schedule.push_files.Given as goal

abbrev pub invariant-loop-content : goal.invariant-loop-content
invariant-loop-content l =
    string_bytes l.text ≡ string_bytes l.fn.text
    ++ flat_map (λ content. part_line (Part.File content)) (take l.content-index l.files)
