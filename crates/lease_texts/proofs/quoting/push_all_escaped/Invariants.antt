use Rattle.std.proofs.Common.{◌≡◌, ◌++◌, flat_map, take}
use Rattle.{std.specs.String.string_bytes, lease_texts.specs.Quoting.escaped}
use Rattle.lease_texts.proofs.quoting.push_all_escaped.Given as goal

abbrev pub invariant-loop-byte : goal.invariant-loop-byte
invariant-loop-byte l = string_bytes l.text ≡ string_bytes l.fn.text ++ flat_map escaped (take l.byte-index l.bytes)
