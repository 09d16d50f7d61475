use Rattle.lease_laws.proofs.Words.{refl}
use Rattle.lease_world.specs.contracts.world.World.{the_view}
use Rattle.lease_world.proofs.worlds.Standing.{told_stands}
use Rattle.lease_world.proofs.world.World.tell.Goals as goal

pub returns-clause-becomes : goal.returns-clause-becomes
returns-clause-becomes c = rw (c.in_ok-push.ensures.items, ← c.self.view_is)
    (refl, λ world s. told_stands (the_view c.self.inside) c.args.fact world s)
