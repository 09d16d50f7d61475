-- What comes to a manager: the call of the rules that it is, and whether it applies.
use Rattle.std.specs.Prelude.{Bool, true, Some, None}
use Rattle.std.specs.List.{list_any}
use Rattle.lease_state.specs.State.{state_of}
use Rattle.lease_model.specs.server.Calls.{is_left_behind}
use Rattle.lease_model.specs.server.State.{is_breaking}
use Rattle.manager_model.specs.Handling as rules
use Rattle.manager_model.specs.Handling.{Handling, Manager, is_under}
use Rattle.lease_manager.specs.GivingUp.{extent_of}
use Rattle.lease_manager.specs.Requests.{request_like}
use Rattle.lease_manager.specs.Table.{Table, queue_at, server_of}
use Rattle.lease_manager.specs.declared.values.coming.Coming.{Coming}
use Rattle.lease_manager.specs.declared.values.coming.Coming.TheVariants as coming

abbrev pub handled : Coming → Manager → Handling
handled (coming.Asks client tag ask) manager = rules.receive manager client.0 tag.0 (request_like ask)
handled (coming.Acknowledges key state) manager =
    rules.acknowledge manager key.client (Some (record { key = key.bytes; state = state_of state }))
handled (coming.IsMalformed client) manager = rules.acknowledge manager client.0 None
handled (coming.IsCut client) manager = rules.cut manager client.0
handled (coming.Expires key) manager = rules.expire manager key
handled (coming.Scavenges fid) manager = rules.scavenge manager fid.0
handled (coming.Withdraws file client tag) manager = rules.withdraw manager file.0 client.0 tag.0
handled (coming.GivesUp own file extent) manager = rules.give_up manager own file.0 (extent_of extent)

abbrev pub applies : Coming → Table → Bool
applies (coming.Asks client tag ask) table = (server_of table).present client.0
applies (coming.Acknowledges key state) table = (server_of table).present key.client
applies (coming.IsMalformed client) table = (server_of table).present client.0
applies (coming.IsCut client) table = (server_of table).present client.0
applies (coming.Expires key) table = is_breaking ((server_of table).leases key)
applies (coming.Scavenges fid) table = list_any (is_left_behind fid.0) (server_of table).opens
applies (coming.Withdraws file client tag) table = list_any (is_under client.0 tag.0) (queue_at table.queues file.0)
applies (coming.GivesUp own file extent) table = true
