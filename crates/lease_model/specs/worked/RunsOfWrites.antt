-- Worked runs: writes that meet leases of others, and go on during a break to nothing.
use Rattle.std.specs.Prelude.{◌≡◌, List, [], ◌∷◌, false}
use Rattle.lease_state.specs.State.{nothing_cached}
use Rattle.lease_state.specs.declared.access.Access.{Access}
use Rattle.lease_state.specs.declared.access.Share.{Share}
use Rattle.lease_state.specs.declared.status.Status.{Status}
use Rattle.lease_model.specs.client.Commands.{Settlement}
use Rattle.lease_model.specs.messages.Replies.{Reply}
use Rattle.lease_model.specs.records.Facts.{Fact, Start, Joined, Sent, Took, Opened, Changed, Wrote, Settled, Believes}
use Rattle.lease_model.specs.records.Facts.{CachedRead}
use Rattle.lease_model.specs.records.Verdict.{Verdict, verdict}
use Rattle.lease_model.specs.worked.Schedules.{opening, reading, writing, two_clients, three_clients}
use Rattle.lease_model.specs.worked.ValueWords.{R, RH, at}
use Rattle.lease_model.specs.world.Events.{Event, ServerTakes, ClientTakes, Connect, recorded, after}
use Rattle.lease_model.specs.world.World.{first_world}

-- ---- crossing writes

-- Two clients that cache reads and handles write at once. Each write breaks the other lease to nothing
-- and goes on, in the order in which they come; the acknowledgments are still due.
abbrev pub crossing_writes_events : List Event
crossing_writes_events =
    Connect 1 ∷ Connect 2 ∷ opening 1 1 Access.ReadWrite Share.ReadWrite RH false ∷ ServerTakes 1
    ∷ ClientTakes 1 ∷ opening 2 1 Access.ReadWrite Share.ReadWrite RH false ∷ ServerTakes 2
    ∷ ClientTakes 2 ∷ writing 1 1 0 (0x58 ∷ []) ∷ writing 2 1 0 (0x59 ∷ []) ∷ ServerTakes 1
    ∷ ServerTakes 2 ∷ ClientTakes 1 ∷ ClientTakes 2 ∷ ServerTakes 1 ∷ ServerTakes 2 ∷ []

abbrev pub crossing_writes_record : List Fact
crossing_writes_record =
    Start 1 (0x61 ∷ 0x62 ∷ 0x63 ∷ []) ∷ Joined 1 ∷ Joined 2 ∷ Opened 1 1 ∷ Sent 1 ∷ Took 1
    ∷ Believes 1 1 RH ∷ Opened 1 2 ∷ Sent 2 ∷ Took 2 ∷ Believes 2 1 RH
    ∷ Wrote 1 1 1 (at 0 (0x58 ∷ [])) false ∷ Wrote 2 1 1 (at 0 (0x59 ∷ [])) false ∷ Sent 2
    ∷ Changed 1 1 1 (at 0 (0x58 ∷ [])) ∷ Sent 1 ∷ Sent 1 ∷ Changed 1 2 1 (at 0 (0x59 ∷ [])) ∷ Sent 2
    ∷ Took 1 ∷ Settled 1 1 Settlement.Done ∷ Took 2 ∷ Believes 2 1 nothing_cached ∷ Sent 2 ∷ []

abbrev pub CrossingWrites : Type 0
CrossingWrites = (recorded two_clients crossing_writes_events ≡ crossing_writes_record)
    × (verdict crossing_writes_record ≡ Verdict.Safe)
    × ((after (first_world two_clients) crossing_writes_events).server.contents 1 ≡ 0x59 ∷ 0x62 ∷ 0x63 ∷ [])

-- ---- two writes, one break

-- The first write breaks the lease of client 1 to nothing and goes on; the second finds it breaking and
-- sends no second break. Until client 1 takes the break it reads the old bytes from its cache.
abbrev pub two_writes_events : List Event
two_writes_events =
    Connect 1 ∷ Connect 2 ∷ opening 1 1 Access.Read Share.ReadWrite RH false ∷ ServerTakes 1
    ∷ ClientTakes 1 ∷ reading 1 1 ∷ ServerTakes 1 ∷ ClientTakes 1
    ∷ opening 2 1 Access.ReadWrite Share.ReadWrite nothing_cached false ∷ ServerTakes 2 ∷ ClientTakes 2
    ∷ writing 2 1 0 (0x5a ∷ []) ∷ writing 2 1 1 (0x59 ∷ []) ∷ ServerTakes 2 ∷ ServerTakes 2
    ∷ reading 1 1 ∷ ClientTakes 1 ∷ ServerTakes 1 ∷ []

abbrev pub two_writes_record : List Fact
two_writes_record =
    Start 1 (0x61 ∷ 0x62 ∷ 0x63 ∷ []) ∷ Joined 1 ∷ Joined 2 ∷ Opened 1 1 ∷ Sent 1 ∷ Took 1
    ∷ Believes 1 1 RH ∷ Sent 1 ∷ Took 1 ∷ Opened 1 2 ∷ Sent 2 ∷ Took 2
    ∷ Wrote 2 1 1 (at 0 (0x5a ∷ [])) false ∷ Wrote 2 1 2 (at 1 (0x59 ∷ [])) false ∷ Sent 1
    ∷ Changed 1 2 1 (at 0 (0x5a ∷ [])) ∷ Sent 2 ∷ Changed 1 2 2 (at 1 (0x59 ∷ [])) ∷ Sent 2
    ∷ CachedRead 1 1 (0x61 ∷ 0x62 ∷ 0x63 ∷ []) ∷ Took 1 ∷ Believes 1 1 nothing_cached ∷ Sent 1 ∷ []

abbrev pub TwoWrites : Type 0
TwoWrites = (recorded two_clients two_writes_events ≡ two_writes_record)
    × (verdict two_writes_record ≡ Verdict.Safe)
    × ((after (first_world two_clients) two_writes_events).server.contents 1 ≡ 0x5a ∷ 0x59 ∷ 0x63 ∷ [])

-- ---- a break to reads holds a write

-- The lease of client 1 is breaking from RH to R for the create of client 2, so the write of client 3
-- waits. The acknowledgment lets both go: the create meets a sharing violation, the write breaks what is
-- left of the lease and goes on.
abbrev pub break_to_reads_events : List Event
break_to_reads_events =
    Connect 1 ∷ Connect 2 ∷ Connect 3 ∷ opening 1 1 Access.Read Share.ReadWrite RH false ∷ ServerTakes 1
    ∷ ClientTakes 1 ∷ opening 3 1 Access.ReadWrite Share.ReadWrite nothing_cached false ∷ ServerTakes 3
    ∷ ClientTakes 3 ∷ opening 2 1 Access.Read Share.Nothing R false ∷ ServerTakes 2
    ∷ writing 3 1 0 (0x5a ∷ []) ∷ ServerTakes 3 ∷ ClientTakes 1 ∷ ServerTakes 1 ∷ ClientTakes 1
    ∷ ClientTakes 1 ∷ []

abbrev pub break_to_reads_record : List Fact
break_to_reads_record =
    Start 1 (0x61 ∷ 0x62 ∷ 0x63 ∷ []) ∷ Joined 1 ∷ Joined 2 ∷ Joined 3 ∷ Opened 1 1 ∷ Sent 1 ∷ Took 1
    ∷ Believes 1 1 RH ∷ Opened 1 3 ∷ Sent 3 ∷ Took 3 ∷ Sent 1 ∷ Wrote 3 1 1 (at 0 (0x5a ∷ [])) false
    ∷ Took 1 ∷ Believes 1 1 R ∷ Sent 1 ∷ Sent 2 ∷ Sent 1 ∷ Changed 1 3 1 (at 0 (0x5a ∷ [])) ∷ Sent 3
    ∷ Took 1 ∷ Took 1 ∷ Believes 1 1 nothing_cached ∷ []

abbrev pub BreakToReads : Type 0
BreakToReads = (recorded three_clients break_to_reads_events ≡ break_to_reads_record)
    × (verdict break_to_reads_record ≡ Verdict.Safe)
    × ((after (first_world three_clients) break_to_reads_events).replies 2
    ≡ Reply.CreateFailed 1 Status.SharingViolation ∷ [])
