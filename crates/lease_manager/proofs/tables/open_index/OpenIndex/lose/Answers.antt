use Rattle.lease_laws.proofs.Words.{Open, ap}
use Rattle.lease_manager.specs.OpenIndex.{client_order, is_connected, is_left, owner_order}
use Rattle.lease_manager.specs.Sets.{values_at}
use Rattle.lease_manager.proofs.opens.Indexing.{lost, not_client, not_owner}
use Rattle.lease_manager.proofs.tables.open_index.OpenIndex.lose.Goals as goal

pub returns : goal.returns
returns c = λ opens rises found index.
    let one = c.args.one.now in
    let client = c.one.inside.client in
    let owner = c.owner.result in
    let is = ap (λ (o : Open). o.file_id) c.one.view_is in
    record {
      connected = lost client_order is_connected (values_at client_order c.args.self.now.connected) (values_at client_order
          c.remove.new.self) client c.one.inside.file_id opens
          one is rises found (λ other apart. not_client client other one (ap (λ (o : Open). o.client) c.one.view_is) apart)
          c.remove.ensures index.connected;
      left = lost owner_order is_left (values_at owner_order c.args.self.now.left) (values_at owner_order c.remove-2.new.self)
          owner c.one.inside.file_id opens one is rises
          found (λ other apart. not_owner owner other one c.owner.ensures.client c.owner.ensures.file apart)
          c.remove-2.ensures index.left;
      leased = c.lose_key.ensures opens rises found index.leased;
    }
