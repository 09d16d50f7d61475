use Rattle.lease_laws.proofs.Words.{◌++◌, ◌≡◌, filter, map, take}
use Rattle.lease_manager.specs.Outs.{decisions}
use Rattle.lease_manager.specs.Table.{server_of}
use Rattle.waiting_changes.specs.Changes.{goes, goes_on}
use Rattle.waiting_changes.proofs.trying.tell_free.Given as goal

abbrev pub invariant-loop-one : goal.invariant-loop-one
invariant-loop-one l = decisions l.decisions.items ≡ decisions l.fn.decisions.items
    ++ map goes_on (filter (goes l.file.0 (server_of l.manager)) (take l.one-index l.changes))
