-- Worked runs: requests held on two files, and a client that strays.
use Rattle.std.specs.Prelude.{◌≡◌, List, [], ◌∷◌, true, false, Some, None}
use Rattle.lease_state.specs.declared.access.Access.{Access}
use Rattle.lease_state.specs.declared.access.Share.{Share}
use Rattle.lease_state.specs.declared.status.Status.{Status}
use Rattle.lease_model.specs.world.Events.{Event, ServerTakes, ClientTakes, Cut, Connect, Raw, recorded, after}
use Rattle.lease_model.specs.records.Facts.{Fact, Start, Joined, Dropped, Sent, Took, Opened, Changed, Wrote, Believes, Strayed}
use Rattle.lease_model.specs.messages.Replies.{Reply}
use Rattle.lease_model.specs.messages.Requests.{FileRequest, Request}
use Rattle.lease_model.specs.worked.Schedules.{opening, writing, two_clients, two_clients_two_files}
use Rattle.lease_model.specs.records.Verdict.{Verdict, verdict}
use Rattle.lease_model.specs.worked.ValueWords.{R, RH, RWH, at, first_key}
use Rattle.lease_model.specs.world.World.{first_world}

-- ---- held requests on two files

-- A cut frees both files at once. File 1 goes first, though its request came later.
abbrev pub two_files_held_events : List Event
two_files_held_events =
    Connect 1 ∷ Connect 2 ∷ opening 1 1 Access.ReadWrite Share.ReadWrite RWH false
    ∷ opening 1 2 Access.ReadWrite Share.ReadWrite RWH false ∷ ServerTakes 1 ∷ ServerTakes 1
    ∷ ClientTakes 1 ∷ ClientTakes 1 ∷ opening 2 2 Access.ReadWrite Share.ReadWrite R false
    ∷ opening 2 1 Access.ReadWrite Share.ReadWrite R false ∷ ServerTakes 2 ∷ ServerTakes 2 ∷ Cut 1 ∷ []

abbrev pub two_files_held_record : List Fact
two_files_held_record =
    Start 1 (0x61 ∷ 0x62 ∷ 0x63 ∷ []) ∷ Start 2 (0x78 ∷ []) ∷ Joined 1 ∷ Joined 2 ∷ Opened 1 1 ∷ Sent 1
    ∷ Opened 2 1 ∷ Sent 1 ∷ Took 1 ∷ Believes 1 1 RWH ∷ Took 1 ∷ Believes 1 2 RWH ∷ Sent 1 ∷ Sent 1
    ∷ Dropped 1 ∷ Opened 1 2 ∷ Sent 2 ∷ Opened 2 2 ∷ Sent 2 ∷ []

abbrev pub TwoFilesHeld : Type 0
TwoFilesHeld = (recorded two_clients_two_files two_files_held_events ≡ two_files_held_record)
    × (verdict two_files_held_record ≡ Verdict.Safe)

-- ---- a strayed client

-- Client 2 sends requests that its machine did not make: a create that is held like any other, an
-- acknowledgment with the key of client 1, which is no key of its own, and a close of the open of
-- client 1.
abbrev pub strayed_events : List Event
strayed_events =
    Connect 1 ∷ Connect 2 ∷ opening 1 1 Access.ReadWrite Share.ReadWrite RWH false ∷ ServerTakes 1
    ∷ ClientTakes 1 ∷ writing 1 1 0 (0x58 ∷ [])
    ∷ Raw 2 (Request.OnFile (FileRequest.Create 1 Access.ReadWrite Share.ReadWrite
    (Some (record { lease = None; durable = false; reconnect = None }))))
    ∷ ServerTakes 2 ∷ Raw 2 (Request.Acknowledge (Some (record { key = first_key; state = RH })))
    ∷ ServerTakes 2 ∷ ClientTakes 1 ∷ ServerTakes 1 ∷ ServerTakes 1 ∷ Raw 2 (Request.OnFile (FileRequest.Close 1))
    ∷ ServerTakes 2 ∷ []

abbrev pub strayed_record : List Fact
strayed_record =
    Start 1 (0x61 ∷ 0x62 ∷ 0x63 ∷ []) ∷ Joined 1 ∷ Joined 2 ∷ Opened 1 1 ∷ Sent 1 ∷ Took 1
    ∷ Believes 1 1 RWH ∷ Wrote 1 1 1 (at 0 (0x58 ∷ [])) true ∷ Strayed 2 ∷ Sent 1 ∷ Strayed 2 ∷ Sent 2
    ∷ Took 1 ∷ Believes 1 1 RH ∷ Changed 1 1 1 (at 0 (0x58 ∷ [])) ∷ Sent 1 ∷ Sent 1 ∷ Opened 1 2 ∷ Sent 2
    ∷ Strayed 2 ∷ Sent 2 ∷ []

abbrev pub StrayedClient : Type 0
StrayedClient = (recorded two_clients strayed_events ≡ strayed_record)
    × (verdict strayed_record ≡ Verdict.Safe)
    × ((after (first_world two_clients) strayed_events).replies 2
    ≡ Reply.AckFailed Status.ObjectNameNotFound
    ∷ Reply.Created 1 2 (Some (record { lease = None; durable = false }))
    ∷ Reply.CloseFailed 1 Status.FileClosed ∷ [])
