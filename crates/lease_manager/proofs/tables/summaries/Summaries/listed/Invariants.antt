use Rattle.lease_laws.proofs.Words.{◌++◌, ◌≡◌, map}
use Rattle.lease_manager.specs.Listings.{entry_listed, leases_in}
use Rattle.lease_manager.proofs.tables.summaries.Summaries.listed.Given as goal

abbrev pub invariant-loop-key : goal.invariant-loop-key
invariant-loop-key l = l.leases.items ++ map entry_listed l.key-iterator ≡ leases_in l.self
