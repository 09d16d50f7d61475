use Rattle.lease_laws.proofs.Words.{Open, ap, has_key, sym}
use Rattle.lease_manager.specs.KeyOrder.{key_order}
use Rattle.lease_manager.specs.Multimaps.{listed_at}
use Rattle.lease_manager.proofs.opens.Indexing.{lost, lost_nowhere, no_key, not_key}
use Rattle.lease_manager.proofs.tables.open_index.lose_key.Goals as goal

pub returns-in-Some : goal.returns-in-Some
returns-in-Some c = λ opens rises found indexed.
    lost key_order has_key (listed_at key_order c.args.leased.now) (listed_at key_order c.remove.new.self) c.in-Some.key
    c.one.inside.file_id opens c.args.one.now
    (ap (λ (o : Open). o.file_id) c.one.view_is) rises found
    (λ other apart. not_key c.in-Some.key other c.args.one.now (sym c.in-Some.ensures) apart) c.remove.ensures indexed

pub returns-in-None : goal.returns-in-None
returns-in-None c = λ opens rises found indexed.
    lost_nowhere has_key (listed_at key_order c.args.leased.now) c.args.one.now.file_id opens c.args.one.now rises found
    (λ other. no_key other c.args.one.now (sym c.in-None.ensures)) indexed
