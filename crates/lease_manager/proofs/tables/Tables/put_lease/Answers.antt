use Rattle.lease_laws.proofs.Words.{refl}
use Rattle.lease_manager.specs.Leases.{lease_of}
use Rattle.lease_manager.specs.contracts.tables.Tables.{the_view}
use Rattle.lease_manager.specs.Summaries.{lease_in}
use Rattle.lease_manager.proofs.waits.Awaiting.{empty_settled, put_settled}
use Rattle.lease_manager.proofs.waits.Counted.{kept_empty}
use Rattle.lease_manager.proofs.waits.Settled.{known_settled, settled_put}
use Rattle.lease_manager.proofs.waits.StillWaiting.{none_counted}
use Rattle.lease_manager.proofs.opens.Tabling.{lease_written}
use Rattle.lease_manager.specs.Queues.{filed}
use Rattle.lease_manager.specs.Table.{held_at}
use Rattle.lease_manager.proofs.tables.Tables.put_lease.Goals as goal

pub returns-in-Ok-clause-changed : goal.returns-in-Ok-clause-changed
returns-in-Ok-clause-changed c =
    let table = the_view c.self.inside in
    rw (← c.self.view_is) (lease_written table c.args.key (lease_of c.args.lease) c.self.inside.summaries c.put.new.self refl
    (c.in-Ok.ensures.leases c.self.inside.opens (rw (← c.self.view_is) at c.requires) c.self.invariant.0.agree))

pub invariant_of-self : goal.invariant_of-self
invariant_of-self c =
    let there = rw (← c.self.view_is) at c.requires in (
      record {
        agree = c.in-Ok.ensures.agrees c.self.inside.opens there c.self.invariant.0.agree;
        numbered = c.self.invariant.0.numbered;
      },
      known_settled (held_at (filed c.self.inside.queues)) c.self.inside.waiting c.forget_home.new.waiting _ _
          (settled_put (held_at (filed c.self.inside.queues)) c.self.inside.waiting c.forget_home.new.waiting
          c.self.inside.rules c.self.inside.files.0
          c.self.inside.opens c.args.key (lease_of c.args.lease) _ _
          (c.in-Ok.ensures.leases c.self.inside.opens there c.self.invariant.0.agree)
          (c.forget_home.ensures c.self.inside.opens c.self.invariant.0.agree)) c.self.invariant.1,
      put_settled c.self.inside.settled c.keeps_settled-settled.result c.self.inside.opens c.args.key (lease_of c.args.lease)
          (lease_in c.self.inside.summaries) (lease_in c.put.new.self)
          (c.in-Ok.ensures.leases c.self.inside.opens there c.self.invariant.0.agree)
          (λ yes. (c.keeps_settled-settled.ensures.known yes, c.keeps_settled-settled.ensures.none yes)) c.self.invariant.2,
    )

pub invariant_of-self-in-Err : goal.invariant_of-self-in-Err
invariant_of-self-in-Err c = (
  kept_empty _ _ _ c.forget_opens.ensures.opens c.forget_opens.ensures.agrees,
  λ file. none_counted _ _ _ _ (c.clear.ensures file),
  empty_settled c.self.inside.settled _ (lease_in c.forget_opens.new.summaries) c.forget_opens.ensures.opens,
)
