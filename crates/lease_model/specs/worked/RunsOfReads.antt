-- Worked runs: reads from the cache and from the server.
use Rattle.std.specs.Prelude.{◌≡◌, List, [], ◌∷◌, true, false}
use Rattle.lease_state.specs.State.{nothing_cached}
use Rattle.lease_state.specs.declared.access.Access.{Access}
use Rattle.lease_state.specs.declared.access.Share.{Share}
use Rattle.lease_model.specs.world.Events.{Event, ServerTakes, ClientTakes, Connect, recorded, after}
use Rattle.lease_model.specs.records.Facts.{Fact, Start, Joined, Sent, Took, Opened, Changed, Wrote, Believes, CachedRead}
use Rattle.lease_model.specs.messages.Requests.{FileRequest, Request}
use Rattle.lease_model.specs.worked.Schedules.{opening, reading, writing, two_clients}
use Rattle.lease_model.specs.records.Verdict.{Verdict, verdict}
use Rattle.lease_model.specs.worked.ValueWords.{R, RWH, at}
use Rattle.lease_model.specs.world.World.{first_world}

-- ---- staleness

-- Client 2 changes the file, and until client 1 takes its break it still reads the old bytes from
-- its cache: a change that was sent later is not seen yet. Its last read is sent to the server.
abbrev pub staleness_events : List Event
staleness_events =
    Connect 1 ∷ Connect 2 ∷ opening 1 1 Access.Read Share.ReadWrite R false ∷ ServerTakes 1
    ∷ ClientTakes 1 ∷ reading 1 1 ∷ ServerTakes 1 ∷ ClientTakes 1
    ∷ opening 2 1 Access.ReadWrite Share.ReadWrite nothing_cached false ∷ ServerTakes 2 ∷ ClientTakes 2
    ∷ writing 2 1 0 (0x5a ∷ []) ∷ ServerTakes 2 ∷ reading 1 1 ∷ ClientTakes 1 ∷ reading 1 1 ∷ []

abbrev pub staleness_record : List Fact
staleness_record =
    Start 1 (0x61 ∷ 0x62 ∷ 0x63 ∷ []) ∷ Joined 1 ∷ Joined 2 ∷ Opened 1 1 ∷ Sent 1 ∷ Took 1
    ∷ Believes 1 1 R ∷ Sent 1 ∷ Took 1 ∷ Opened 1 2 ∷ Sent 2 ∷ Took 2
    ∷ Wrote 2 1 1 (at 0 (0x5a ∷ [])) false ∷ Sent 1 ∷ Changed 1 2 1 (at 0 (0x5a ∷ [])) ∷ Sent 2
    ∷ CachedRead 1 1 (0x61 ∷ 0x62 ∷ 0x63 ∷ []) ∷ Took 1 ∷ Believes 1 1 nothing_cached ∷ []

abbrev pub Staleness : Type 0
Staleness = (recorded two_clients staleness_events ≡ staleness_record)
    × (verdict staleness_record ≡ Verdict.Safe)
    × ((after (first_world two_clients) staleness_events).requests 1
    ≡ Request.OnFile (FileRequest.Read 1) ∷ [])

-- ---- own writes

-- A read from the cache shows the client its own unanswered writes, and zeros in the gap before one.
abbrev pub own_writes_events : List Event
own_writes_events =
    Connect 1 ∷ Connect 2 ∷ opening 1 1 Access.ReadWrite Share.ReadWrite RWH false ∷ ServerTakes 1
    ∷ ClientTakes 1 ∷ reading 1 1 ∷ ServerTakes 1 ∷ ClientTakes 1 ∷ writing 1 1 4 (0x59 ∷ [])
    ∷ reading 1 1 ∷ []

abbrev pub own_writes_record : List Fact
own_writes_record =
    Start 1 (0x61 ∷ 0x62 ∷ 0x63 ∷ []) ∷ Joined 1 ∷ Joined 2 ∷ Opened 1 1 ∷ Sent 1 ∷ Took 1
    ∷ Believes 1 1 RWH ∷ Sent 1 ∷ Took 1 ∷ Wrote 1 1 1 (at 4 (0x59 ∷ [])) true
    ∷ CachedRead 1 1 (0x61 ∷ 0x62 ∷ 0x63 ∷ 0x00 ∷ 0x59 ∷ []) ∷ []

abbrev pub OwnWrites : Type 0
OwnWrites = (recorded two_clients own_writes_events ≡ own_writes_record)
    × (verdict own_writes_record ≡ Verdict.Safe)

-- ---- no event

-- A setup in which nothing happens.
abbrev pub no_event_events : List Event
no_event_events =
    []

abbrev pub no_event_record : List Fact
no_event_record =
    Start 1 (0x61 ∷ 0x62 ∷ 0x63 ∷ []) ∷ []

abbrev pub NoEvent : Type 0
NoEvent = (recorded two_clients no_event_events ≡ no_event_record)
    × (verdict no_event_record ≡ Verdict.Safe)
