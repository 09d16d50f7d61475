use Rattle.lease_laws.proofs.Words.{◌∙◌, sym}
use Rattle.lease_manager.specs.Closing.{closes}
use Rattle.lease_manager.proofs.opens.Tabling.{ids_picked, ids_unpicked, ids_none}
use Rattle.lease_manager.proofs.tables.opens.Opens.closed_at.Goals as goal

pub returns-then-not-closes-clause-ids : goal.returns-then-not-closes-clause-ids
returns-then-not-closes-clause-ids c = rw c.new-ids.ensures.items
    (ids_unpicked c.args.fid.0 (closes c.args.closing.now) c.args.self.now c.in-Some.one.now
    c.requires c.find.ensures.in_order c.in-Some.ensures.found (sym c.closes.ensures ∙ c.if-not-closes.true))

pub returns-in_ok-push-in-Some-clause-ids : goal.returns-in_ok-push-in-Some-clause-ids
returns-in_ok-push-in-Some-clause-ids c = rw (c.in_ok-push-in-Some.ensures.items, c.new-ids.ensures.items)
    (ids_picked c.args.fid.0 (closes c.args.closing.now) c.args.self.now c.in-Some.one.now
    c.requires c.find.ensures.in_order c.in-Some.ensures.found (sym c.closes.ensures ∙ c.if-not-closes.false))

pub returns-in-None-clause-ids : goal.returns-in-None-clause-ids
returns-in-None-clause-ids c = rw c.new-ids.ensures.items
    (ids_none c.args.fid.0 (closes c.args.closing.now) c.args.self.now
    c.requires c.find.ensures.in_order c.in-None.ensures.found)
