use Rattle.lease_laws.proofs.Words.{◌≡◌, list_any}
use Rattle.std.specs.BTreeMap.{keys}
use Rattle.lease_versions.proofs.Scans.{create_test}
use Rattle.lease_versions.proofs.requests.Requests.has_create.Given as goal

abbrev pub invariant-loop-under : goal.invariant-loop-under
invariant-loop-under l = list_any (create_test l.client.0 l.guid.0 l.self) l.under-iterator
    ≡ list_any (create_test l.client.0 l.guid.0 l.self) (keys l.self.by_tag)
