use Rattle.lease_manager.specs.Leases.{lease_of}
use Rattle.lease_manager.specs.Table.{server_of}
use Rattle.lease_manager.proofs.opens.Restoring.{unbroken_with}
use Rattle.lease_manager.proofs.tables.Tables.keep.Goals as goal

pub disconnect-requires : goal.disconnect-requires
disconnect-requires c = record {
  unbroken = unbroken_with (server_of c.args.self.now) (server_of c.open.new.self) c.args.one c.entry.result
      (lease_of c.lease.result) c.entry.ensures c.lease.ensures c.in_ok-open.ensures.changed c.requires.unbroken;
}
