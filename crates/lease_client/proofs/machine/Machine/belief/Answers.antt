use Rattle.lease_laws.proofs.Words.{refl}
use Rattle.lease_client.proofs.Places.{entry_numbered}
use Rattle.lease_client.proofs.machine.Machine.belief.Goals as goal

pub returns-in-Some : goal.returns-in-Some
returns-in-Some c = rw (entry_numbered _ c.args.file.0, ← c.entry.ensures, c.in-Some.is) c.belief.ensures

pub returns-in-None : goal.returns-in-None
returns-in-None c = rw (entry_numbered _ c.args.file.0, ← c.entry.ensures, c.in-None.is) refl
