use Rattle.lease_laws.proofs.Words.{refl}
use Rattle.break_timers.specs.Timers.{timers_of}
use Rattle.lease_manager.specs.Table.{manager_of}
use Rattle.machines_c.proofs.Tries.{handled_now}
use Rattle.waiting_changes.specs.Changes.{changed}
use Rattle.machines_c.proofs.manager.managing.Managing.change.Goals as goal

pub returns : goal.returns
returns c = handled_now c.note.result (timers_of c.args.self.now.timers)
    (changed (manager_of c.args.self.now.manager) c.args.self.now.changes c.args.one) (record {
      manager = c.change.new.manager;
      changes = c.change.new.self;
      decisions = c.change.new.decisions;
      timers = c.args.self.now.timers;
      numbers = c.args.self.now.numbers;
      listed = c.nothing.result;
    }) c.note.new.self
    (record { going = c.in_ok-change.ensures.after; timers = refl }) c.nothing.ensures
    c.note.ensures.timers c.note.ensures.numbers c.note.ensures.same
