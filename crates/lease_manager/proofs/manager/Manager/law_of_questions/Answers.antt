use Rattle.lease_manager.specs.contracts.manager.Manager.{the_view}
use Rattle.lease_manager.proofs.follows.Questions.{reads_else, reads_go_on, writes_go_on}
use Rattle.lease_manager.proofs.manager.Manager.law_of_questions.Goals as goal

pub returns-clause-reads : goal.returns-clause-reads
returns-clause-reads c = rw (← c.self.view_is) (reads_go_on (the_view c.self.inside) c.self.invariant)

pub returns-clause-writes : goal.returns-clause-writes
returns-clause-writes c = rw (← c.self.view_is) (writes_go_on (the_view c.self.inside) c.self.invariant)

pub returns-clause-reads_else : goal.returns-clause-reads_else
returns-clause-reads_else c = reads_else c.args.self.now
