use Rattle.lease_laws.proofs.Words.{◌≡◌, map, take}
use Rattle.lease_manager.specs.Table.{server_of}
use Rattle.lease_manager.specs.Wishes.{want_of}
use Rattle.lease_manager.proofs.tables.Tables.wants_of.Given as goal

abbrev pub invariant-loop-key : goal.invariant-loop-key
invariant-loop-key l = l.wants.items ≡ map (want_of l.wish (server_of l.self)) (take l.key-index l.keys)
