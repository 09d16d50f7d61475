use Rattle.lease_laws.proofs.Words.{◌++◌, ◌∷◌, [], on_ok_weaker, rules, sym}
use Rattle.std.proofs.lemmas.Result.{on_err_weaker}
use Rattle.lease_manager.proofs.waits.Queuing.{edited_at, first_at, kept_at}
use Rattle.lease_manager.proofs.tables.queues.Queues.push.Goals as goal

pub returns-in-Some-clause-more : goal.returns-in-Some-clause-more
returns-in-Some-clause-more c = on_ok_weaker c.push.result (edited_at (λ queue. queue ++ c.args.one ∷ []) c.args.self.now.by_file
    (c.get_mut.follows.lender c.push.new.self) c.args.file c.in-Some.queue.now c.push.new.self
    (sym c.in-Some.ensures.value) ((c.get_mut.follows.holds c.push.new.self).3 (search rules))) c.push.ensures.more

pub returns-in-Some-clause-refused : goal.returns-in-Some-clause-refused
returns-in-Some-clause-refused c = on_err_weaker c.push.result (kept_at c.args.self.now.by_file
    (c.get_mut.follows.lender c.push.new.self) c.args.file c.in-Some.queue.now c.push.new.self
    (sym c.in-Some.ensures.value) ((c.get_mut.follows.holds c.push.new.self).3 (search rules))) c.push.ensures.refused

pub returns-in_ok-insert-in-None-clause-more : goal.returns-in_ok-insert-in-None-clause-more
returns-in_ok-insert-in-None-clause-more c = first_at (λ queue. queue ++ c.args.one ∷ []) c.args.self.now.by_file
    c.insert.new.self c.args.file _ (sym c.in-None.ensures.value)
    (rw c.get_mut.follows.holds-at-none at c.in_ok-insert-in-None.ensures.updates) (search rules)
