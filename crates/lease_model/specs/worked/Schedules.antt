-- Words for worked runs.
use Rattle.std.specs.Prelude.{ℕ, Bool, false, Some, List, [], ◌∷◌}
use Rattle.lease_state.specs.State.{State}
use Rattle.lease_state.specs.declared.access.Access.{Access}
use Rattle.lease_state.specs.declared.access.Share.{Share}
use Rattle.lease_model.specs.client.Commands.{Command}
use Rattle.lease_model.specs.world.Events.{Event}
use Rattle.lease_model.specs.messages.Replies.{Reply}
use Rattle.lease_model.specs.worked.ValueWords.{first_guid, second_guid, third_guid, first_key, at}
use Rattle.lease_model.specs.world.World.{Setup}

-- two clients, and one file `abc`
abbrev pub two_clients : Setup
two_clients = record {
  files = (0x61 ∷ 0x62 ∷ 0x63 ∷ []) ∷ [];
  clients = first_guid ∷ second_guid ∷ [];
}

-- the same with a third client
abbrev pub three_clients : Setup
three_clients = record {
  files = (0x61 ∷ 0x62 ∷ 0x63 ∷ []) ∷ [];
  clients = first_guid ∷ second_guid ∷ third_guid ∷ [];
}

-- two clients, and a second file `x`
abbrev pub two_clients_two_files : Setup
two_clients_two_files = record {
  files = (0x61 ∷ 0x62 ∷ 0x63 ∷ []) ∷ (0x78 ∷ []) ∷ [];
  clients = first_guid ∷ second_guid ∷ [];
}

-- a reply that gives the first client a new open of file 1, with this state for its key
abbrev pub created_reply : ℕ → State → Reply
created_reply file_id state = Reply.Created 1 file_id (Some (record {
  lease = Some (record { key = first_key; state = state; in_progress = false });
  durable = false;
}))

-- the commands of an application, each as an event: client, file, and the rest
abbrev pub opening : ℕ → ℕ → Access → Share → State → Bool → Event
opening client file access share want durable = Event.App client (Command.Open file
    (record { access = access; share = share; want = want; durable = durable }))

abbrev pub closing : ℕ → ℕ → Event
closing client file = Event.App client (Command.Close file)

abbrev pub reading : ℕ → ℕ → Event
reading client file = Event.App client (Command.Read file)

abbrev pub writing : ℕ → ℕ → ℕ → List ℕ → Event
writing client file offset bytes = Event.App client (Command.Write file (at offset bytes))

abbrev pub flushing : ℕ → ℕ → Event
flushing client file = Event.App client (Command.Flush file)
