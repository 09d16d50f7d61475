use Rattle.lease_laws.proofs.Words.{◌≡◌, filter, take}
use Rattle.lease_manager.specs.LeftOpens.{ids_of, numbers}
use Rattle.lease_manager.specs.Parting.{is_connected_named}
use Rattle.lease_manager.proofs.tables.opens.Opens.named.Given as goal

abbrev pub invariant-loop-fid : goal.invariant-loop-fid
invariant-loop-fid l = numbers l.names.keys
    ≡ ids_of (filter (is_connected_named l.client.0 (numbers (take l.fid-index l.file_ids))) l.self)
