use Rattle.share_server.specs.contracts.server.Server.{the_view}
use Rattle.share_server.proofs.Kept.{one_writer, no_conflict, what_lasts, breaks_to_less}
use Rattle.share_server.proofs.server.Server.laws.Goals as goal

pub returns-clause-one_writer : goal.returns-clause-one_writer
returns-clause-one_writer c = rw (← c.self.view_is) (one_writer (the_view c.self.inside) c.self.invariant.sound)

pub returns-clause-no_conflict : goal.returns-clause-no_conflict
returns-clause-no_conflict c = rw (← c.self.view_is) (no_conflict (the_view c.self.inside) c.self.invariant.sound)

pub returns-clause-lasting : goal.returns-clause-lasting
returns-clause-lasting c = rw (← c.self.view_is) (what_lasts (the_view c.self.inside) c.self.invariant.sound)

pub returns-clause-broken_to : goal.returns-clause-broken_to
returns-clause-broken_to c = rw (← c.self.view_is) (breaks_to_less (the_view c.self.inside) c.self.invariant.sound)
