use Rattle.lease_laws.proofs.Words.{Open, ap, false, has_key, refl}
use Rattle.lease_manager.specs.KeyOrder.{key_order}
use Rattle.lease_manager.specs.OpenIndex.{client_order, is_connected, is_left, owner_order}
use Rattle.lease_manager.specs.Sets.{values_at}
use Rattle.lease_manager.specs.Multimaps.{listed_at}
use Rattle.lease_manager.proofs.opens.Indexing.{client_alike, client_gone, owner_alike, owner_left, turned_nowhere}
use Rattle.lease_manager.proofs.opens.Indexing.{turned_off, turned_on, unchanged, refused_so}
use Rattle.lease_manager.proofs.tables.open_index.OpenIndex.leave.Goals as goal

pub returns-in_err-insert-clause-refused : goal.returns-in_err-insert-clause-refused
returns-in_err-insert-clause-refused c = refused_so c.from_residual.result (λ opens index. record {
  connected = index.connected;
  left = unchanged is_left (values_at owner_order c.args.self.now.left) (values_at owner_order c.insert.new.self) opens
      c.in_err-insert.ensures.refused index.left;
  leased = index.leased;
})

pub returns-clause-left : goal.returns-clause-left
returns-clause-left c = λ opens rises found index.
    let one = c.args.one.now in
    let client = c.one.inside.client in
    let its = ap (λ (o : Open). o.client) c.one.view_is in
    let owner = c.owner.result in
    let is = ap (λ (o : Open). o.file_id) c.one.view_is in
    record {
      connected = turned_off client_order is_connected (values_at client_order c.args.self.now.connected) (values_at
          client_order c.remove.new.self) client c.one.inside.file_id
          false opens one is rises found (λ other at. client_gone other one)
          (λ other apart. client_alike client other false one its apart) c.remove.ensures index.connected;
      left = turned_on owner_order is_left (values_at owner_order c.args.self.now.left) (values_at owner_order
          c.insert.new.self) owner c.one.inside.file_id false opens one is
          rises found (λ other at. owner_left owner other one c.owner.ensures.client c.owner.ensures.file at)
          (λ other apart. owner_alike owner other false one c.owner.ensures.client c.owner.ensures.file apart)
          c.in_ok-insert.ensures.one_more index.left;
      leased = turned_nowhere has_key (listed_at key_order c.args.self.now.leased) one.file_id false opens one rises found (λ
          other. refl)
          index.leased;
    }
