use Rattle.lease_laws.proofs.Words.{◌∙◌, sym}
use Rattle.lease_client.proofs.Queued.{all_buffered, none_through}
use Rattle.lease_client.proofs.writes.queue.Writes.split_buffered.Goals as goal

pub returns-then-writes-clause-buffered : goal.returns-then-writes-clause-buffered
returns-then-writes-clause-buffered c = rw (← c.writes.view_is)
    (sym (all_buffered c.writes.inside.items.items (c.writes.invariant.buffered c.if-writes.true)))

pub returns-then-writes-clause-others : goal.returns-then-writes-clause-others
returns-then-writes-clause-others c = rw (← c.writes.view_is)
    (c.new.ensures ∙ sym (none_through c.writes.inside.items.items (c.writes.invariant.buffered c.if-writes.true)))
