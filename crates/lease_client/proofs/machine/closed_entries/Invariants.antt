use Rattle.lease_laws.proofs.Words.{◌≡◌, [], closed_entry}
use Rattle.std.proofs.Math.ListN.{replicate}
use Rattle.lease_client.proofs.machine.closed_entries.Given as goal

abbrev pub invariant-loop : goal.invariant-loop
invariant-loop l = l.entries.items ≡ replicate l.counter (closed_entry [])
