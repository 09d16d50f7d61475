use Rattle.lease_laws.proofs.Words.{◌≡◌, None, find, numbers_to}
use Rattle.lease_client.specs.Searches.{is_read_under}
use Rattle.lease_client.specs.Known.{client_of}
use Rattle.lease_client.proofs.machine.Machine.file_read_under.Given as goal

abbrev pub invariant-loop-index : goal.invariant-loop-index
invariant-loop-index l = find (is_read_under (client_of l.self) l.file_id.0) (numbers_to l.index) ≡ None
