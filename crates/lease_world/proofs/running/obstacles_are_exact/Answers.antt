use Rattle.lease_world.proofs.worlds.Exact.{obstacles_exact, refusals_named}
use Rattle.lease_world.proofs.running.obstacles_are_exact.Goals as goal

pub returns-clause-exact : goal.returns-clause-exact
returns-clause-exact c = obstacles_exact

pub returns-clause-refusals : goal.returns-clause-refusals
returns-clause-refusals c = refusals_named
