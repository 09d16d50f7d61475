use Rattle.lease_laws.proofs.Words.{◌≡◌, None, find, is_key_of, numbers_to}
use Rattle.lease_client.specs.Known.{client_of}
use Rattle.lease_client.proofs.machine.Machine.file_of_key.Given as goal

abbrev pub invariant-loop-index : goal.invariant-loop-index
invariant-loop-index l = find (is_key_of (client_of l.self) l.key.0) (numbers_to l.index) ≡ None
