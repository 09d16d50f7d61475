-- Worked runs: a client asks for more under the key of a file that it has open.
use Rattle.std.specs.Prelude.{◌≡◌, List, [], ◌∷◌, true, false, take}
use Rattle.lease_state.specs.State.{nothing_cached}
use Rattle.lease_state.specs.declared.access.Access.{Access}
use Rattle.lease_state.specs.declared.access.Share.{Share}
use Rattle.lease_state.specs.declared.status.Status.{Status}
use Rattle.lease_model.specs.client.Commands.{Settlement}
use Rattle.lease_model.specs.messages.Replies.{Reply}
use Rattle.lease_model.specs.records.Facts.{Fact, Start, Joined, Expired, Sent, Took, Opened, Changed, Wrote, Settled, Believes}
use Rattle.lease_model.specs.records.Facts.{CachedRead}
use Rattle.lease_model.specs.records.Verdict.{Verdict, verdict}
use Rattle.lease_model.specs.worked.Schedules.{opening, closing, reading, writing, flushing, two_clients}
use Rattle.lease_model.specs.worked.ValueWords.{R, RH, RW, RWH, at}
use Rattle.lease_model.specs.world.Events.{Event, ServerTakes, ClientTakes, Connect, Expire, recorded, after}
use Rattle.lease_model.specs.world.World.{first_world}

-- ---- more is given

-- Client 1 reads a file, and then wants to write it: it has its new open, keeps what it knows of the
-- file, and closes the old open.
abbrev pub promotion_events : List Event
promotion_events =
    Connect 1 ∷ Connect 2 ∷ opening 1 1 Access.Read Share.ReadWrite R false ∷ ServerTakes 1
    ∷ ClientTakes 1 ∷ reading 1 1 ∷ ServerTakes 1 ∷ ClientTakes 1
    ∷ opening 1 1 Access.ReadWrite Share.ReadWrite RWH false ∷ ServerTakes 1 ∷ ClientTakes 1
    ∷ writing 1 1 0 (0x58 ∷ []) ∷ reading 1 1 ∷ ServerTakes 1 ∷ ClientTakes 1 ∷ []

abbrev pub promotion_record : List Fact
promotion_record =
    Start 1 (0x61 ∷ 0x62 ∷ 0x63 ∷ []) ∷ Joined 1 ∷ Joined 2 ∷ Opened 1 1 ∷ Sent 1 ∷ Took 1
    ∷ Believes 1 1 R ∷ Sent 1 ∷ Took 1 ∷ Opened 1 1 ∷ Sent 1 ∷ Took 1 ∷ Believes 1 1 RWH
    ∷ Wrote 1 1 1 (at 0 (0x58 ∷ [])) true ∷ CachedRead 1 1 (0x58 ∷ 0x62 ∷ 0x63 ∷ []) ∷ Sent 1 ∷ Took 1
    ∷ []

abbrev pub Promotion : Type 0
Promotion = (recorded two_clients promotion_events ≡ promotion_record)
    × (verdict promotion_record ≡ Verdict.Safe)
    × ((after (first_world two_clients) (take 14 promotion_events)).replies 1 ≡ Reply.Closed 1 ∷ [])

-- ---- a break is on its way

-- The lease of client 1 is breaking when it asks for more: the reply says that the break is in progress,
-- so the belief stays. The break comes next, and the buffered write goes under the new FileId.
abbrev pub asking_while_broken_events : List Event
asking_while_broken_events =
    Connect 1 ∷ Connect 2 ∷ opening 1 1 Access.ReadWrite Share.ReadWrite RWH false ∷ ServerTakes 1
    ∷ ClientTakes 1 ∷ writing 1 1 0 (0x58 ∷ []) ∷ opening 2 1 Access.ReadWrite Share.ReadWrite RWH false
    ∷ ServerTakes 2 ∷ opening 1 1 Access.Read Share.ReadWrite RWH false ∷ ServerTakes 1 ∷ ClientTakes 1
    ∷ ClientTakes 1 ∷ ServerTakes 1 ∷ ServerTakes 1 ∷ ServerTakes 1 ∷ ClientTakes 2 ∷ []

abbrev pub asking_while_broken_record : List Fact
asking_while_broken_record =
    Start 1 (0x61 ∷ 0x62 ∷ 0x63 ∷ []) ∷ Joined 1 ∷ Joined 2 ∷ Opened 1 1 ∷ Sent 1 ∷ Took 1
    ∷ Believes 1 1 RWH ∷ Wrote 1 1 1 (at 0 (0x58 ∷ [])) true ∷ Sent 1 ∷ Opened 1 1 ∷ Sent 1 ∷ Took 1
    ∷ Believes 1 1 RH ∷ Took 1 ∷ Changed 1 1 1 (at 0 (0x58 ∷ [])) ∷ Sent 1 ∷ Sent 1 ∷ Opened 1 2
    ∷ Sent 2 ∷ Sent 1 ∷ Took 2 ∷ Believes 2 1 RH ∷ []

abbrev pub AskingWhileBroken : Type 0
AskingWhileBroken = (recorded two_clients asking_while_broken_events ≡ asking_while_broken_record)
    × (verdict asking_while_broken_record ≡ Verdict.Safe)

-- ---- a timer runs out while more is asked for

-- The open of client 1 is closed by a timer, and client 2 has had the file. The reply that gives client 1
-- its new open grants nothing: the write that it had buffered has failed, and is not sent under the new
-- FileId.
abbrev pub timer_while_asking_events : List Event
timer_while_asking_events =
    Connect 1 ∷ Connect 2 ∷ opening 1 1 Access.ReadWrite Share.ReadWrite RWH false ∷ ServerTakes 1
    ∷ ClientTakes 1 ∷ opening 2 1 Access.ReadWrite Share.Nothing nothing_cached false ∷ ServerTakes 2
    ∷ ClientTakes 1 ∷ writing 1 1 0 (0x58 ∷ []) ∷ Expire 1 1 ∷ ClientTakes 2 ∷ closing 2 1
    ∷ ServerTakes 2 ∷ opening 1 1 Access.Read Share.ReadWrite RWH false ∷ ServerTakes 1 ∷ ServerTakes 1
    ∷ ClientTakes 1 ∷ ClientTakes 1 ∷ flushing 1 1 ∷ []

abbrev pub timer_while_asking_record : List Fact
timer_while_asking_record =
    Start 1 (0x61 ∷ 0x62 ∷ 0x63 ∷ []) ∷ Joined 1 ∷ Joined 2 ∷ Opened 1 1 ∷ Sent 1 ∷ Took 1
    ∷ Believes 1 1 RWH ∷ Sent 1 ∷ Took 1 ∷ Believes 1 1 RW ∷ Wrote 1 1 1 (at 0 (0x58 ∷ [])) true
    ∷ Expired 1 1 ∷ Opened 1 2 ∷ Sent 2 ∷ Took 2 ∷ Sent 2 ∷ Sent 1 ∷ Opened 1 1 ∷ Sent 1 ∷ Took 1
    ∷ Took 1 ∷ Settled 1 1 Settlement.Failed ∷ Believes 1 1 nothing_cached ∷ []

abbrev pub TimerWhileAsking : Type 0
TimerWhileAsking = (recorded two_clients timer_while_asking_events ≡ timer_while_asking_record)
    × (verdict timer_while_asking_record ≡ Verdict.Safe)

-- ---- and nothing late is accepted

-- The same, and the server looks twice more for a message of client 1: there is only the Close of the old
-- FileId, which it refuses.
abbrev pub timer_while_asking_after_events : List Event
timer_while_asking_after_events =
    Connect 1 ∷ Connect 2 ∷ opening 1 1 Access.ReadWrite Share.ReadWrite RWH false ∷ ServerTakes 1
    ∷ ClientTakes 1 ∷ opening 2 1 Access.ReadWrite Share.Nothing nothing_cached false ∷ ServerTakes 2
    ∷ ClientTakes 1 ∷ writing 1 1 0 (0x58 ∷ []) ∷ Expire 1 1 ∷ ClientTakes 2 ∷ closing 2 1
    ∷ ServerTakes 2 ∷ opening 1 1 Access.Read Share.ReadWrite RWH false ∷ ServerTakes 1 ∷ ServerTakes 1
    ∷ ClientTakes 1 ∷ ClientTakes 1 ∷ flushing 1 1 ∷ ServerTakes 1 ∷ ServerTakes 1 ∷ []

abbrev pub timer_while_asking_after_record : List Fact
timer_while_asking_after_record =
    Start 1 (0x61 ∷ 0x62 ∷ 0x63 ∷ []) ∷ Joined 1 ∷ Joined 2 ∷ Opened 1 1 ∷ Sent 1 ∷ Took 1
    ∷ Believes 1 1 RWH ∷ Sent 1 ∷ Took 1 ∷ Believes 1 1 RW ∷ Wrote 1 1 1 (at 0 (0x58 ∷ [])) true
    ∷ Expired 1 1 ∷ Opened 1 2 ∷ Sent 2 ∷ Took 2 ∷ Sent 2 ∷ Sent 1 ∷ Opened 1 1 ∷ Sent 1 ∷ Took 1
    ∷ Took 1 ∷ Settled 1 1 Settlement.Failed ∷ Believes 1 1 nothing_cached ∷ Sent 1 ∷ []

abbrev pub TimerWhileAskingAfter : Type 0
TimerWhileAskingAfter = (recorded two_clients timer_while_asking_after_events ≡ timer_while_asking_after_record)
    × (verdict timer_while_asking_after_record ≡ Verdict.Safe)
    × ((after (first_world two_clients) timer_while_asking_after_events).server.contents 1 ≡ 0x61 ∷ 0x62 ∷ 0x63 ∷ [])
    × ((after (first_world two_clients) timer_while_asking_after_events).replies 1
    ≡ Reply.CloseFailed 1 Status.FileClosed ∷ [])
