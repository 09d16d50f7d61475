use Rattle.lease_laws.proofs.Words.{Call, request_of, sym}
use Rattle.share_server.proofs.Calling.{idle_called, receive_idles}
use Rattle.share_server.proofs.calls.receive.Goals as goal

pub returns-else-is_connected-clause-step : goal.returns-else-is_connected-clause-step
returns-else-is_connected-clause-step c = rw (c.requires.given) (idle_called _
    (Call.Receive c.args.client.0 (request_of c.args.request)) c.requires.server
    (receive_idles _ c.args.client.0 _ (sym (rw c.client_no.ensures at c.if-is_connected.ensures))))
