use Rattle.lease_laws.proofs.Words.{◌≡◌, list_any}
use Rattle.std.specs.BTreeMap.{keys}
use Rattle.lease_versions.proofs.Scans.{open_test}
use Rattle.lease_versions.proofs.opens.Opens.under.Given as goal

abbrev pub invariant-loop-file_id : goal.invariant-loop-file_id
invariant-loop-file_id l = list_any (open_test l.client.0 l.guid.0 l.self) l.file_id-iterator
    ≡ list_any (open_test l.client.0 l.guid.0 l.self) (keys l.self.by_number)
