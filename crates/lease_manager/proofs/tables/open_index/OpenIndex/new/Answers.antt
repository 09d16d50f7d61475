use Rattle.lease_laws.proofs.Words.{has_key}
use Rattle.lease_manager.specs.KeyOrder.{key_order}
use Rattle.lease_manager.specs.OpenIndex.{client_order, is_connected, is_left, owner_order}
use Rattle.lease_manager.specs.Sets.{values_at}
use Rattle.lease_manager.specs.Multimaps.{listed_at}
use Rattle.lease_manager.proofs.opens.Indexing.{none_indexed}
use Rattle.lease_manager.proofs.tables.open_index.OpenIndex.new.Goals as goal

pub returns : goal.returns
returns c = record {
  connected = none_indexed is_connected (values_at client_order c.new.result) c.new.ensures.none;
  left = none_indexed is_left (values_at owner_order c.new-2.result) c.new-2.ensures.none;
  leased = none_indexed has_key (listed_at key_order c.new-3.result) c.new-3.ensures;
}
