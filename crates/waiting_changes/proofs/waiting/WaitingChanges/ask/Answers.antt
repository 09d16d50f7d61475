use Rattle.lease_laws.proofs.Words.{None, [], ◌∙◌, ap, on_ok_weaker}
use Rattle.lease_manager.specs.GivingUp.{extent_of}
use Rattle.lease_manager.specs.Table.{manager_of}
use Rattle.manager_model.specs.Handling.{give_up}
use Rattle.waiting_changes.specs.Changes.{changed, concluded, own_of, tried_after}
use Rattle.waiting_changes.proofs.Retrying.{after_of}
use Rattle.waiting_changes.proofs.waiting.WaitingChanges.ask.Goals as goal

pub returns : goal.returns
unfolding changed
returns c =
    let one = c.args.one in
    let same = after_of c.args.self.now c.give_up.new.self c.give_up.new.decisions.items
    (give_up (manager_of c.args.manager.now) (own_of one) one.file.0 (extent_of one.extent)) c.in_ok-give_up.ensures.after in
    on_ok_weaker c.conclude.result
    (λ is. is ∙ ap (concluded one) (c.in_ok-try_after.ensures ∙ ap (tried_after None []) same)) c.conclude.ensures
