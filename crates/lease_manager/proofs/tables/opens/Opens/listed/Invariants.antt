use Rattle.lease_laws.proofs.Words.{◌++◌, ◌≡◌, map}
use Rattle.lease_manager.specs.Listing.{open_of}
use Rattle.lease_manager.proofs.tables.opens.Opens.listed.Given as goal

abbrev pub invariant-loop-one : goal.invariant-loop-one
invariant-loop-one l = map open_of l.opens.items ++ l.one-iterator ≡ l.self
