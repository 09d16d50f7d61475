use Rattle.std.proofs.Common.{◌≡◌, map, take}
use Rattle.capture_texts.specs.Reports.{number_named, chain_client}
use Rattle.capture_texts.proofs.capture.Capture.clients_of.Given as goal

abbrev pub invariant-loop-chain : goal.invariant-loop-chain
invariant-loop-chain l = map number_named l.clients.items ≡ map chain_client (take l.chain-index l.chains)
