use Rattle.lease_laws.proofs.Words.{◌≡◌, ◌++◌, flat_map, string_bytes, take}
use Rattle.capture_texts.specs.Texts.{epoch_line}
use Rattle.leasecheck.proofs.capturing.push_epochs.Given as goal

abbrev pub invariant-loop-epoch : goal.invariant-loop-epoch
invariant-loop-epoch l = string_bytes l.text ≡ string_bytes l.fn.text ++ flat_map epoch_line (take l.epoch-index l.epochs)
