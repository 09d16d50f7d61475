use Rattle.std.proofs.Common.{◌≡◌, map, drop}
use Rattle.capture_texts.specs.Reports.{number_named}
use Rattle.capture_texts.specs.records.Casts.{with_clients}
use Rattle.capture_texts.proofs.records.cast.clients_with.Given as goal

abbrev pub invariant-loop-name : goal.invariant-loop-name
invariant-loop-name l = with_clients l.clients.items (map number_named (drop l.name-index l.names))
    ≡ with_clients l.known (map number_named l.names)
