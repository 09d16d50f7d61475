use Rattle.lease_laws.proofs.Words.{ap, drop, rules, true}
use Rattle.manager_model.specs.Handling.{Tagged}
use Rattle.lease_manager.proofs.opens.Joining.{present_put}
use Rattle.lease_manager.proofs.waits.Clients.{drop_more, kept_of, more_of}
use Rattle.lease_manager.proofs.tables.queue.Queue.push.Goals as goal

pub invariant_of-self-in_err-push : goal.invariant_of-self-in_err-push
invariant_of-self-in_err-push c = (
  search rules,
  rw (c.in_err-push.ensures.items)
      (kept_of c.self.inside.clients.keys c.insert.new.self.keys (drop c.self.inside.gone c.self.inside.items.items)
      c.one.inside.client.0 c.self.invariant.1
      (present_put c.self.inside.clients c.insert.new.self c.one.inside.client true c.in_ok-insert.ensures.updates)),
)

pub invariant_of-self-2 : goal.invariant_of-self-2
invariant_of-self-2 c = (
  search rules,
  rw (
    c.in_ok-push.ensures.items,
    drop_more c.self.inside.gone c.self.inside.items.items c.args.one c.self.invariant.0,
  )
      (more_of c.self.inside.clients.keys c.insert.new.self.keys (drop c.self.inside.gone c.self.inside.items.items) c.args.one
      c.self.invariant.1 (rw (← ap (λ (one : Tagged). one.held.client) c.one.view_is)
      (present_put c.self.inside.clients c.insert.new.self c.one.inside.client true c.in_ok-insert.ensures.updates))),
)
