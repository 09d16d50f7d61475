use Rattle.lease_laws.proofs.Words.{rules, sym, without}
use Rattle.manager_model.specs.Handling.{is_left}
use Rattle.lease_manager.specs.Parting.{tag_numbers}
use Rattle.lease_manager.proofs.waits.Queuing.{edited_at, unfound_at}
use Rattle.lease_manager.proofs.tables.queues.Queues.left.Goals as goal

pub returns-in-Some : goal.returns-in-Some
returns-in-Some c = edited_at (without (is_left c.args.client.0 (tag_numbers c.args.tags.now))) c.args.self.now.by_file
    (c.get_mut.follows.lender c.leave.new.self) c.args.file c.in-Some.queue.now c.leave.new.self
    (sym c.in-Some.ensures.value) ((c.get_mut.follows.holds c.leave.new.self).3 (search rules)) c.leave.ensures

pub returns-in-None : goal.returns-in-None
returns-in-None c = rw c.get_mut.follows.holds-at-none
    (unfound_at (is_left c.args.client.0 (tag_numbers c.args.tags.now)) c.args.self.now.by_file c.args.file
    (sym c.in-None.ensures.value))
