-- What comes to a server: the call of the rules that it is, and whether it applies.
use Rattle.std.specs.Prelude.{Bool, not}
use Rattle.std.specs.List.{list_any}
use Rattle.lease_manager.specs.Table.{Table, server_of}
use Rattle.lease_model.specs.messages.FromBytes.{request_of}
use Rattle.lease_model.specs.server.Calls.{Call, is_left_behind}
use Rattle.lease_model.specs.server.Naming.{key_of}
use Rattle.lease_model.specs.server.State.{is_breaking}
use Rattle.share_server.specs.declared.values.coming.Coming.{Coming}
use Rattle.share_server.specs.declared.values.coming.Coming.TheVariants as coming

abbrev pub call_asked : Coming → Call
call_asked (coming.Joins client) = Call.Join client.0
call_asked (coming.Asks client request) = Call.Receive client.0 (request_of request)
call_asked (coming.IsCut client) = Call.Cut client.0
call_asked (coming.Expires client key) = Call.Expire (key_of client.0 key.0)
call_asked (coming.Scavenges fid) = Call.Scavenge fid.0

abbrev pub applies : Coming → Table → Bool
applies (coming.Joins client) table = not ((server_of table).present client.0)
applies (coming.Asks client request) table = (server_of table).present client.0
applies (coming.IsCut client) table = (server_of table).present client.0
applies (coming.Expires client key) table = is_breaking ((server_of table).leases (key_of client.0 key.0))
applies (coming.Scavenges fid) table = list_any (is_left_behind fid.0) (server_of table).opens
