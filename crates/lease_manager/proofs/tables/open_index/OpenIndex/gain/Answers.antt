use Rattle.lease_laws.proofs.Words.{Open, ap}
use Rattle.std.proofs.lemmas.Result.{on_ok_weaker}
use Rattle.lease_manager.specs.OpenIndex.{client_order, is_connected, is_left, owner_order}
use Rattle.lease_manager.specs.Sets.{values_at}
use Rattle.lease_manager.proofs.opens.Indexing.{at_client, gained, gained_nowhere, none_left}
use Rattle.lease_manager.proofs.tables.open_index.OpenIndex.gain.Goals as goal

pub returns : goal.returns
returns c =
    let one = c.args.one.now in
    let client = c.one.inside.client in
    on_ok_weaker c.gain_key.result (λ key_gained opens last index. record {
      connected = gained client_order is_connected (values_at client_order c.args.self.now.connected) (values_at client_order
          c.insert.new.self) client c.one.inside.file_id opens
          one last (ap (λ (o : Open). o.file_id) c.one.view_is)
          (λ other. at_client client other one (ap (λ (o : Open). o.client) c.one.view_is) c.requires)
          c.in_ok-insert.ensures.one_more index.connected;
      left = gained_nowhere is_left (values_at owner_order c.args.self.now.left) opens one (λ other. none_left other one
          c.requires)
          index.left;
      leased = key_gained opens last index.leased;
    }) c.gain_key.ensures
