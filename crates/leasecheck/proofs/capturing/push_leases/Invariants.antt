use Rattle.lease_laws.proofs.Words.{◌≡◌, ◌++◌, flat_map, string_bytes, take}
use Rattle.capture_texts.specs.Texts.{lease_line}
use Rattle.leasecheck.proofs.capturing.push_leases.Given as goal

abbrev pub invariant-loop-lease : goal.invariant-loop-lease
invariant-loop-lease l = string_bytes l.text ≡ string_bytes l.fn.text ++ flat_map lease_line (take l.lease-index l.leases)
