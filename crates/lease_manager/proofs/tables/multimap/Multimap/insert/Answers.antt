use Rattle.lease_laws.proofs.Words.{sym}
use Rattle.std.proofs.lemmas.Result.{on_ok_weaker}
use Rattle.lease_manager.specs.Sets.{values_at}
use Rattle.lease_manager.proofs.opens.Sets.{above_at}
use Rattle.lease_manager.proofs.tables.multimap.Multimap.insert.Goals as goal

pub returns-in-Some : goal.returns-in-Some
returns-in-Some g c = on_ok_weaker c.insert.result (λ changed above other.
    above_at g.met.K.Ord.total g.V.Ord.cmp c.args.self.now.firsts (values_at g.K.Ord.cmp c.args.self.now.others)
    (values_at g.K.Ord.cmp c.insert.new.self) c.args.key c.args.value c.in-Some.field-0.now (sym c.in-Some.ensures.value)
    (above c.in-Some.field-0.now (sym c.in-Some.ensures.value)) changed other) c.insert.ensures.one_more
