use Rattle.lease_laws.proofs.Words.{rules, sym}
use Rattle.lease_manager.proofs.opens.Sets.{refused_at, first_at}
use Rattle.lease_manager.proofs.tables.sets.Sets.insert.Goals as goal

pub returns-in-Err-clause-refused : goal.returns-in-Err-clause-refused
returns-in-Err-clause-refused g c =
    refused_at g.met.K.Ord.total c.args.self.now.by_key (c.get_mut.follows.lender c.insert.new.self) c.args.key
    c.in-Some.values.now c.insert.new.self (sym c.in-Some.ensures.value)
    ((c.get_mut.follows.holds c.insert.new.self).3 (search rules)) c.in-Err.ensures.err

pub returns-in_ok-insert-in-None-2-clause-one_more : goal.returns-in_ok-insert-in-None-2-clause-one_more
returns-in_ok-insert-in-None-2-clause-one_more g c =
    first_at g.met.K.Ord.total g.V.Ord.cmp c.args.self.now.by_key c.insert-in-None-2.new.self c.args.key c.args.value
    c.insert-in-None.new.self (sym c.in-None.ensures.value)
    (rw c.get_mut.follows.holds-at-none at c.in_ok-insert-in-None-2.ensures.updates)
    (rw c.new-values.ensures.empty at c.in_ok-insert-in-None.ensures.keys)
