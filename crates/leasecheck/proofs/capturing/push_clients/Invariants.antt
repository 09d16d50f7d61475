use Rattle.lease_laws.proofs.Words.{◌≡◌, ◌++◌, flat_map, string_bytes, take}
use Rattle.capture_texts.specs.Texts.{lost_line}
use Rattle.leasecheck.proofs.capturing.push_clients.Given as goal

abbrev pub invariant-loop-client : goal.invariant-loop-client
invariant-loop-client l = string_bytes l.text ≡ string_bytes l.fn.text ++ flat_map lost_line (take l.client-index l.clients)
