-- What numbers and structs from C ask of a manager.
use Rattle.std.specs.Prelude.{ℕ, Bool, true, not, List, Option, Some, None, if◌then◌else◌}
use Rattle.std.specs.List.{list_any}
use Rattle.break_timers.specs.Timers.{Timers}
use Rattle.lease_model.specs.values.Keys.{Key}
use Rattle.lease_state.specs.State.{state_of_bits}
use Rattle.lease_state.specs.declared.access.Access.{Access}
use Rattle.lease_state.specs.declared.access.Share.{Share}
use Rattle.lease_model.specs.messages.Requests.{CreateAsk, FileRequest, LeaseOf}
use Rattle.lease_model.specs.server.Calls.{is_left_behind}
use Rattle.lease_model.specs.server.Naming.{key_of}
use Rattle.lease_model.specs.server.Queries as queries
use Rattle.lease_manager.specs.Requests.{patch_like}
use Rattle.machines_c.specs.handles.Codes.{access_of, share_of, is_set}
use Rattle.manager_model.specs.Handling.{Manager, is_under}
use Rattle.machines_c.specs.declared.manager.values.AckFields.{AckFields}
use Rattle.machines_c.specs.declared.manager.values.CreateFields.{CreateFields}

-- what a struct asks for, whatever its bytes are
abbrev pub ask_given : CreateFields → CreateAsk
ask_given ask = record {
  lease = if is_set ask.has_lease then Some (record { key = ask.key; state = state_of_bits ask.state }) else None;
  durable = is_set ask.durable;
  reconnect = if is_set ask.has_reconnect then Some ask.file_id else None;
}

-- a create with this access and this share, where the numbers stand for them
abbrev pub create_with : ℕ → CreateFields → Option Access → Option Share → Option FileRequest
create_with file ask (Some access) (Some share) = Some (FileRequest.Create file access share (Some (ask_given ask)))
create_with file ask (Some access) None = None
create_with file ask None share = None

abbrev pub create_asked : ℕ → ℕ → ℕ → CreateFields → Option FileRequest
create_asked file access share ask = create_with file ask (access_of access) (share_of share)

-- a write without bytes, which ends within what a file may have, or doesn't
abbrev pub write_asked : ℕ → ℕ → FileRequest
write_asked file_id fits = FileRequest.Write file_id 0 (patch_like (is_set fits))

-- the state that a client keeps
abbrev pub kept_by : AckFields → LeaseOf
kept_by given = record { key = given.key; state = state_of_bits given.state }

-- when a call does nothing
abbrev pub is_present : ℕ → Manager → Bool
is_present client manager = manager.server.present client

abbrev pub is_absent : ℕ → Manager → Bool
is_absent client manager = not (manager.server.present client)

abbrev pub is_idle_for : Option Key → Manager → Bool
is_idle_for None manager = true
is_idle_for (Some key) manager = not (queries.breaking manager.server key)

abbrev pub is_settled : ℕ → List ℕ → Manager → Bool
is_settled client key manager = not (queries.breaking manager.server (key_of client key))

-- the timer of this number doesn't run, or its lease isn't breaking
abbrev pub is_over : ℕ → Timers → Manager → Bool
is_over number timers manager = is_idle_for (timers.running number) manager

abbrev pub is_gone : ℕ → Manager → Bool
is_gone file_id manager = not (list_any (is_left_behind file_id) manager.server.opens)

abbrev pub is_answered : ℕ → ℕ → ℕ → Manager → Bool
is_answered client tag file manager = not (list_any (is_under client tag) (manager.queues file))
