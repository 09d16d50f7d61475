use Rattle.lease_laws.proofs.Words.{◌∙◌, Open, ap, has_key, sym}
use Rattle.std.proofs.lemmas.Result.{on_ok_weaker}
use Rattle.lease_manager.specs.KeyOrder.{key_order}
use Rattle.lease_manager.specs.LeftOpens.{numbers}
use Rattle.lease_manager.specs.Multimaps.{listed_at, with_first}
use Rattle.lease_manager.specs.Sets.{values_at}
use Rattle.lease_manager.proofs.opens.Indexing.{above_first, at_key, gained}
use Rattle.lease_manager.proofs.tables.open_index.gain_key.Goals as goal

pub returns-in-Some : goal.returns-in-Some
returns-in-Some c = on_ok_weaker c.insert.result (λ changed opens last indexed.
    let key = c.in-Some.key in
    let one = c.args.one.now in
    let fid = c.one.inside.file_id in
    let is = ap (λ (o : Open). o.file_id) c.one.view_is in
    gained key_order has_key (listed_at key_order c.args.leased.now) (listed_at key_order c.insert.new.self) key fid opens one
    last
    is (λ other. at_key key other one (sym c.in-Some.ensures))
    (changed (λ first there. above_first (has_key key) first (values_at key_order c.args.leased.now.others key) fid opens one
    last is (ap (λ o. numbers (with_first o (values_at key_order c.args.leased.now.others key))) (sym there) ∙ indexed key)))
    indexed) c.insert.ensures
