use Rattle.lease_laws.proofs.Words.{◌≡◌, None, find, has_sent, numbers_to}
use Rattle.lease_client.specs.Known.{client_of}
use Rattle.lease_client.proofs.machine.Machine.file_with_sent.Given as goal

abbrev pub invariant-loop-index : goal.invariant-loop-index
invariant-loop-index l = find (has_sent (client_of l.self) l.number) (numbers_to l.index) ≡ None
