use Rattle.lease_laws.proofs.Words.{None, Some, ap, rules, sym}
use Rattle.std.specs.BTreeMap.{is_at}
use Rattle.lease_manager.specs.Sets.{values_at}
use Rattle.lease_manager.proofs.opens.Sets.{first_gone_at, other_gone_at, removed_at, values_same}
use Rattle.lease_manager.proofs.tables.multimap.Multimap.remove.Goals as goal

pub returns-in-Some-take_first : goal.returns-in-Some-take_first
returns-in-Some-take_first g c =
    first_gone_at g.met.K.Ord.total (is_at (g.V.Ord.cmp c.args.value)) c.args.self.now.firsts
    (c.get_mut.follows.lender c.in-Some-take_first.next) (values_at g.K.Ord.cmp c.args.self.now.others)
    (values_at g.K.Ord.cmp c.take_first.new.self) c.args.key c.in-Some.first.now (Some c.in-Some-take_first.next)
    (sym c.in-Some.ensures.value) (search rules) ((c.get_mut.follows.holds c.in-Some-take_first.next).3 (search rules)).0
    (λ other. values_same g.met.K.Ord.total c.args.self.now.others c.args.key other) c.in-Some-take_first.ensures.first
    c.take_first.ensures.left

pub returns-in-None-take_first : goal.returns-in-None-take_first
returns-in-None-take_first g c =
    first_gone_at g.met.K.Ord.total (is_at (g.V.Ord.cmp c.args.value)) c.args.self.now.firsts c.remove.new.self
    (values_at g.K.Ord.cmp c.args.self.now.others) (values_at g.K.Ord.cmp c.take_first.new.self) c.args.key
    c.in-Some.first.now None (sym c.in-Some.ensures.value) (search rules)
    (removed_at g.K.Ord.cmp c.args.self.now.firsts (c.get_mut.follows.lender c.in-Some.first.now) c.remove.new.self c.args.key
    c.in-Some.first.now ((c.get_mut.follows.holds c.in-Some.first.now).3 (search rules)) c.remove.ensures.updates)
    (λ other. values_same g.met.K.Ord.total c.args.self.now.others c.args.key other) c.in-None-take_first.ensures.first
    c.take_first.ensures.left

pub returns-in_default : goal.returns-in_default
returns-in_default g c =
    other_gone_at g.met.K.Ord.total (is_at (g.V.Ord.cmp c.args.value)) c.args.self.now.firsts
    (c.get_mut.follows.lender c.in-Some.first.now) (values_at g.K.Ord.cmp c.args.self.now.others)
    (values_at g.K.Ord.cmp c.remove-in_default.new.self) c.args.key c.in-Some.first.now (sym c.in-Some.ensures.value)
    (search rules) ((c.get_mut.follows.holds c.in-Some.first.now).3 (search rules)) c.remove-in_default.ensures
