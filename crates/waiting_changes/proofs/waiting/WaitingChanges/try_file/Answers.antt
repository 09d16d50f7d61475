use Rattle.waiting_changes.proofs.Retrying.{tried}
use Rattle.waiting_changes.proofs.waiting.WaitingChanges.try_file.Goals as goal

pub returns : goal.returns
returns c = tried c.args.file.0 c.args.self.now c.let_go.new.self c.args.manager.now c.ask_again.new.manager
    c.args.decisions.now.items c.ask_again.new.decisions.items c.tell_free.new.decisions.items
    (rw c.as_slice.ensures at c.in_ok-ask_again.ensures) (rw c.as_slice-2.ensures at c.in_ok-tell_free.ensures) c.let_go.ensures
