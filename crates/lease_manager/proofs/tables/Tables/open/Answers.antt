use Rattle.lease_laws.proofs.Words.{Open, ap, refl, subst, sym}
use Rattle.lease_manager.specs.Kept.{AreKept}
use Rattle.lease_manager.specs.Leases.{lease_of}
use Rattle.lease_manager.specs.contracts.tables.Tables.{the_view}
use Rattle.lease_manager.specs.Summaries.{lease_in}
use Rattle.lease_manager.proofs.waits.Awaiting.{empty_settled, opened_settled}
use Rattle.lease_manager.proofs.waits.Counted.{kept_empty}
use Rattle.lease_manager.proofs.waits.Settled.{known_settled, settled_opened}
use Rattle.lease_manager.proofs.waits.StillWaiting.{none_counted}
use Rattle.lease_manager.proofs.opens.Tabling.{table_opened, below_new, opened_now}
use Rattle.lease_manager.specs.Queues.{filed}
use Rattle.lease_manager.specs.Table.{held_at}
use Rattle.lease_manager.proofs.tables.Tables.open.Goals as goal

pub add-requires : goal.add-requires
add-requires c = record {
  here = c.requires.here;
  last = below_new c.self.inside.opens c.self.inside.summaries c.self.inside.last_id c.args.one.file_id c.self.invariant.0
      (rw (← c.self.view_is) at c.requires.next);
}

pub invariant_of-self : goal.invariant_of-self
invariant_of-self c = (
  subst (λ n. AreKept c.add.new.opens c.add.new.summaries n) (ap (λ (o : Open). o.file_id) (sym c.one.view_is))
      (opened_now c.self.inside.opens c.add.new.opens c.args.one c.self.inside.summaries c.add.new.summaries
      c.self.inside.last_id c.self.invariant.0 (rw (← c.self.view_is) at c.requires.next) c.in-Ok.ensures.opens
      (c.in-Ok.ensures.agrees (rw (← c.self.view_is) at c.requires.home) c.self.invariant.0.agree)),
  known_settled (held_at (filed c.self.inside.queues)) c.self.inside.waiting c.forget_for.new.waiting _ _
      (settled_opened (held_at (filed c.self.inside.queues)) c.self.inside.waiting c.forget_for.new.waiting
      c.self.inside.rules c.self.inside.files.0
      c.self.inside.opens c.add.new.opens c.args.one (lease_of c.args.lease) _ _ c.in-Ok.ensures.opens
      c.in-Ok.ensures.leases (rw (← c.self.view_is) at c.requires.home)
      c.forget_for.ensures) c.self.invariant.1,
  opened_settled c.self.inside.settled c.opens_settled-settled.result c.self.inside.opens c.add.new.opens c.args.one
      (lease_of c.args.lease) (lease_in c.self.inside.summaries) (lease_in c.add.new.summaries) c.in-Ok.ensures.opens
      c.requires.here c.in-Ok.ensures.leases
      (λ yes. (c.opens_settled-settled.ensures.known yes, c.opens_settled-settled.ensures.none yes)) c.self.invariant.2,
)

pub returns-in-Ok-clause-changed : goal.returns-in-Ok-clause-changed
returns-in-Ok-clause-changed c =
    let table = the_view c.self.inside in
    rw (← c.self.view_is, c.in-Ok.ensures.opens, ap (λ (o : Open). o.file_id) c.one.view_is)
    (table_opened table c.args.one (lease_of c.args.lease) c.self.inside.summaries c.add.new.summaries refl
    c.in-Ok.ensures.leases)

pub invariant_of-self-in-Err : goal.invariant_of-self-in-Err
invariant_of-self-in-Err c = (
  kept_empty _ _ _ c.forget_opens.ensures.opens c.forget_opens.ensures.agrees,
  λ file. none_counted _ _ _ _ (c.clear.ensures file),
  empty_settled c.self.inside.settled _ (lease_in c.forget_opens.new.summaries) c.forget_opens.ensures.opens,
)
