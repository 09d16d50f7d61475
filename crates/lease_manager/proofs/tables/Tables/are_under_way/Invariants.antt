use Rattle.lease_laws.proofs.Words.{◌≡◌, drop, list_all}
use Rattle.lease_manager.specs.StillWaiting.{is_under_way}
use Rattle.lease_manager.specs.Table.{server_of}
use Rattle.lease_manager.proofs.tables.Tables.are_under_way.Given as goal

abbrev pub invariant-loop-want : goal.invariant-loop-want
invariant-loop-want l = list_all (λ want. is_under_way (server_of l.self) l.file.0 want.key) (drop l.want-index l.wants)
    ≡ list_all (λ want. is_under_way (server_of l.self) l.file.0 want.key) l.wants
