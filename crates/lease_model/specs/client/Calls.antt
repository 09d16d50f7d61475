-- The calls of a client machine.
use Rattle.lease_model.specs.client.Commanded.{commanded}
use Rattle.lease_model.specs.client.Connection.{noticed, connection_made}
use Rattle.lease_model.specs.client.Taken.{taken}
use Rattle.lease_model.specs.client.State.{Client}
use Rattle.lease_model.specs.client.Step.{Step}
use Rattle.lease_model.specs.client.Commands.{Command}
use Rattle.lease_model.specs.messages.Replies.{Reply}

pub data ClientCall : Type 0 where
  Commanded : (command : Command) → ClientCall
  Taken : (reply : Reply) → ClientCall
  Noticed : ClientCall
  Connected : ClientCall

abbrev pub client_called : Client → ClientCall → Step
client_called client (ClientCall.Commanded command) = commanded client command
client_called client (ClientCall.Taken reply) = taken client reply
client_called client ClientCall.Noticed = noticed client
client_called client ClientCall.Connected = connection_made client
