use Rattle.lease_laws.proofs.Words.{rules, sym, without}
use Rattle.manager_model.specs.Handling.{is_of}
use Rattle.lease_manager.proofs.waits.Queuing.{edited_at, unfound_at}
use Rattle.lease_manager.proofs.tables.queues.Queues.forgotten.Goals as goal

pub returns-in-Some : goal.returns-in-Some
returns-in-Some c = edited_at (without (is_of c.args.client.0)) c.args.self.now.by_file
    (c.get_mut.follows.lender c.forget.new.self) c.args.file c.in-Some.queue.now c.forget.new.self
    (sym c.in-Some.ensures.value) ((c.get_mut.follows.holds c.forget.new.self).3 (search rules)) c.forget.ensures

pub returns-in-None : goal.returns-in-None
returns-in-None c = rw c.get_mut.follows.holds-at-none
    (unfound_at (is_of c.args.client.0) c.args.self.now.by_file c.args.file (sym c.in-None.ensures.value))
