use Rattle.lease_world.proofs.worlds.First.{as_many}
use Rattle.lease_world.proofs.running.are_too_many.Goals as goal

pub returns : goal.returns
returns c = as_many c.args.events.now
