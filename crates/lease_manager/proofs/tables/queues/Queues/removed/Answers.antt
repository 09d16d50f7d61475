use Rattle.lease_laws.proofs.Words.{arith, rules, sym}
use Rattle.std.specs.List.{remove}
use Rattle.lease_manager.proofs.waits.Queuing.{edited_at}
use Rattle.lease_manager.proofs.tables.queues.Queues.removed.Goals as goal

pub returns-in-Some : goal.returns-in-Some
returns-in-Some c = edited_at (λ queue. remove queue c.args.place) c.args.self.now.by_file
    (c.get_mut.follows.lender c.remove.new.self) c.args.file c.in-Some.queue.now c.remove.new.self
    (sym c.in-Some.ensures.value) ((c.get_mut.follows.holds c.remove.new.self).3 (search rules)) c.remove.ensures

pub returns-in-None : goal.returns-in-None
returns-in-None c = absurd (let inside = rw (sym c.in-None.ensures.value) at c.requires in omega (arith, inside))
