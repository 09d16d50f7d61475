-- Opens as a host lists them.
use Rattle.std.specs.Option.{option_map}
use Rattle.lease_model.specs.server.State.{Open}
use Rattle.lease_manager.specs.declared.values.open.ListedOpen.{ListedOpen}

abbrev pub open_of : ListedOpen → Open
open_of one = record {
  file_id = one.file_id.0;
  client = one.client.0;
  file = one.file.0;
  lease_key = option_map (λ key. key.0) one.lease_key;
  access = one.access;
  share = one.share;
  durable = one.durable;
  connected = one.connected;
}
