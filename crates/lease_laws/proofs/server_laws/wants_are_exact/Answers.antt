use Rattle.lease_laws.proofs.server.Wanted.{wants_where-exact}
use Rattle.lease_laws.proofs.server_laws.wants_are_exact.Goals as goal

pub returns : goal.returns
returns c = wants_where-exact
