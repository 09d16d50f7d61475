-- The code's machines, and those that they stand for.
use Rattle.lease_lines.specs.declared.{client_table.ClientTable.ClientTable, server_stage.Stage.Stage, machines.Machines.Machines}
use Rattle.std.specs.Prelude.{map}
use Rattle.{lease_lines.specs.ClientTables.Clients, share_server.specs.Table.server_of, lease_client.specs.Known.client_of}
use Rattle.lease_lines.specs.Machines as rules
use Rattle.lease_lines.specs.ServerTables as rules_stage

abbrev pub clients_of : ClientTable → Clients
clients_of table = record { files = table.files; guids = table.guids.items; clients = map client_of table.clients.items }

abbrev pub stage_of : Stage → rules_stage.Stage
stage_of Stage.Fresh = rules_stage.Stage.Fresh
stage_of (Stage.Filling rules files) = rules_stage.Stage.Filling rules files.items
stage_of (Stage.Serving server) = rules_stage.Stage.Serving (server_of server)

abbrev pub machines_of : Machines → rules.Machines
machines_of (Machines.Clients table) = rules.Machines.AreClients (clients_of table)
machines_of (Machines.Server stage) = rules.Machines.IsServer (stage_of stage)
