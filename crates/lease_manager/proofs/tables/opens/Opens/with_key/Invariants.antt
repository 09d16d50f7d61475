use Rattle.lease_laws.proofs.Words.{◌++◌, ◌≡◌, filter}
use Rattle.lease_manager.specs.LeftOpens.{has_key_in}
use Rattle.lease_manager.proofs.tables.opens.Opens.with_key.Given as goal

abbrev pub invariant-loop-fid : goal.invariant-loop-fid
invariant-loop-fid l =
    l.ids.items ++ filter (has_key_in l.self l.key) l.fid-iterator ≡ filter (has_key_in l.self l.key) l.left.keys
