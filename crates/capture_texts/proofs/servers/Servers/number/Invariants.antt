use Rattle.std.proofs.Common.{◌≡◌, ◌+◌, drop}
use Rattle.capture_texts.specs.Servers.{number_from, server_number}
use Rattle.capture_texts.proofs.servers.Servers.number.Given as goal

-- what is left gives the whole
abbrev pub invariant-loop-index : goal.invariant-loop-index
invariant-loop-index l =
    number_from (l.index + 1) l.address (drop l.index l.self.addresses.items) ≡ server_number l.address l.self.addresses.items
