use Rattle.lease_laws.proofs.Words.{arith, drop}
use Rattle.lease_manager.proofs.waits.Clients.{among_without, less_of}
use Rattle.lease_manager.proofs.tables.queue.Queue.withdraw.Goals as goal

pub invariant_of-self : goal.invariant_of-self
invariant_of-self c = (
  omega arith,
  rw (c.forget_under.ensures, c.let_go.ensures)
      (less_of _ (drop c.self.inside.gone c.self.inside.items.items) _ c.self.invariant.1
      (λ one. among_without _ (drop c.self.inside.gone c.self.inside.items.items) one)),
)
