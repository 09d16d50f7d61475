use Rattle.lease_laws.proofs.Words.{◌++◌, ◌≡◌, map}
use Rattle.lease_manager.specs.Restarting.{pair_kept, pairs_in}
use Rattle.lease_manager.specs.Summaries.{lease_in}
use Rattle.lease_manager.proofs.tables.opens.Opens.kept.Given as goal

abbrev pub invariant-loop-one : goal.invariant-loop-one
invariant-loop-one l = map pair_kept l.kept.items ++ pairs_in (lease_in l.leases) l.one-iterator
    ≡ pairs_in (lease_in l.leases) l.self
