use Rattle.lease_laws.proofs.Words.{inl}
use Rattle.lease_manager.specs.Queues.{filed}
use Rattle.lease_manager.specs.Table.{held_at}
use Rattle.lease_manager.specs.contracts.values.open.OpenEntry.{the_view}
use Rattle.lease_manager.proofs.waits.Counted.{forgotten_for}
use Rattle.lease_manager.proofs.tables.still.forget_for.Goals as goal

pub returns-then-is_empty : goal.returns-then-is_empty
returns-then-is_empty c = λ file. inl (c.is_empty.ensures c.if-is_empty.true file)

pub returns-else-ask_with : goal.returns-else-ask_with
returns-else-ask_with c = rw (← c.one.view_is)
    (forgotten_for (the_view c.one.inside) (held_at (filed c.args.queues.now)) c.args.waiting.now
    c.forget.new.self c.forget.ensures (rw (← c.one.view_is) at (c.ask_with.ensures c.if-ask_with.false)))
