use Rattle.std.proofs.Common.{◌≡◌, ◌++◌, flat_map, take}
use Rattle.{std.specs.String.string_bytes, lease_texts.specs.Schedules.part_line, lease_texts.specs.declared.parts.Part.Part}
use Rattle.lease_texts.proofs.schedule.push_clients.Given as goal

abbrev pub invariant-loop-guid : goal.invariant-loop-guid
invariant-loop-guid l =
    string_bytes l.text ≡ string_bytes l.fn.text ++ flat_map (λ guid. part_line (Part.Client guid)) (take l.guid-index l.guids)
