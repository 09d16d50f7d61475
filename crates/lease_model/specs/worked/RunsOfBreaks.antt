-- Worked runs: leases are broken for other clients.
use Rattle.std.specs.Prelude.{◌≡◌, List, [], ◌∷◌, true, false, take}
use Rattle.lease_state.specs.State.{nothing_cached}
use Rattle.lease_state.specs.declared.access.Access.{Access}
use Rattle.lease_state.specs.declared.access.Share.{Share}
use Rattle.lease_state.specs.declared.status.Status.{Status}
use Rattle.lease_model.specs.client.Commands.{Settlement}
use Rattle.lease_model.specs.world.Events.{Event, ServerTakes, ClientTakes, Connect, Expire, recorded, after}
use Rattle.lease_model.specs.records.Facts.{Fact, Start, Joined, Expired, Sent, Took, Opened, Changed, Wrote, Settled, Believes}
use Rattle.lease_model.specs.messages.Replies.{Reply}
use Rattle.lease_model.specs.worked.Schedules.{opening, closing, writing, two_clients, created_reply}
use Rattle.lease_model.specs.records.Verdict.{Verdict, verdict}
use Rattle.lease_model.specs.worked.ValueWords.{RH, RW, RWH, at}
use Rattle.lease_model.specs.world.World.{first_world}

-- ---- the whole break

-- Client 1 has RWH and two buffered writes when client 2 opens the file: its writes come before its
-- acknowledgment, and client 2 is answered after that.
abbrev pub whole_break_events : List Event
whole_break_events =
    Connect 1 ∷ Connect 2 ∷ opening 1 1 Access.ReadWrite Share.ReadWrite RWH false ∷ ServerTakes 1
    ∷ ClientTakes 1 ∷ writing 1 1 0 (0x58 ∷ []) ∷ writing 1 1 3 (0x59 ∷ [])
    ∷ opening 2 1 Access.ReadWrite Share.ReadWrite RWH false ∷ ServerTakes 2 ∷ ClientTakes 1
    ∷ ServerTakes 1 ∷ ServerTakes 1 ∷ ServerTakes 1 ∷ ClientTakes 2 ∷ []

abbrev pub whole_break_record : List Fact
whole_break_record =
    Start 1 (0x61 ∷ 0x62 ∷ 0x63 ∷ []) ∷ Joined 1 ∷ Joined 2 ∷ Opened 1 1 ∷ Sent 1 ∷ Took 1
    ∷ Believes 1 1 RWH ∷ Wrote 1 1 1 (at 0 (0x58 ∷ [])) true ∷ Wrote 1 1 2 (at 3 (0x59 ∷ [])) true
    ∷ Sent 1 ∷ Took 1 ∷ Believes 1 1 RH ∷ Changed 1 1 1 (at 0 (0x58 ∷ [])) ∷ Sent 1
    ∷ Changed 1 1 2 (at 3 (0x59 ∷ [])) ∷ Sent 1 ∷ Sent 1 ∷ Opened 1 2 ∷ Sent 2 ∷ Took 2 ∷ Believes 2 1 RH
    ∷ []

abbrev pub WholeBreak : Type 0
WholeBreak = (recorded two_clients whole_break_events ≡ whole_break_record)
    × (verdict whole_break_record ≡ Verdict.Safe)
    × ((after (first_world two_clients) whole_break_events).server.contents 1 ≡ 0x58 ∷ 0x62 ∷ 0x63 ∷ 0x59 ∷ [])

-- ---- a late break

-- Client 1 has closed its open and asks for a new one when it takes the break of the old one: it
-- does not acknowledge.
abbrev pub late_break_events : List Event
late_break_events =
    Connect 1 ∷ Connect 2 ∷ opening 1 1 Access.ReadWrite Share.ReadWrite RW false ∷ ServerTakes 1
    ∷ ClientTakes 1 ∷ writing 1 1 0 (0x58 ∷ []) ∷ opening 2 1 Access.ReadWrite Share.ReadWrite RWH false
    ∷ ServerTakes 2 ∷ closing 1 1 ∷ opening 1 1 Access.ReadWrite Share.ReadWrite RWH false ∷ ClientTakes 1
    ∷ ServerTakes 1 ∷ ServerTakes 1 ∷ ServerTakes 1 ∷ ClientTakes 1 ∷ ClientTakes 2 ∷ ClientTakes 2
    ∷ ServerTakes 2 ∷ ClientTakes 1 ∷ ClientTakes 1 ∷ []

abbrev pub late_break_record : List Fact
late_break_record =
    Start 1 (0x61 ∷ 0x62 ∷ 0x63 ∷ []) ∷ Joined 1 ∷ Joined 2 ∷ Opened 1 1 ∷ Sent 1 ∷ Took 1
    ∷ Believes 1 1 RW ∷ Wrote 1 1 1 (at 0 (0x58 ∷ [])) true ∷ Sent 1 ∷ Believes 1 1 nothing_cached
    ∷ Took 1 ∷ Changed 1 1 1 (at 0 (0x58 ∷ [])) ∷ Sent 1 ∷ Sent 1 ∷ Opened 1 2 ∷ Sent 2 ∷ Sent 2 ∷ Took 1
    ∷ Settled 1 1 Settlement.Done ∷ Took 2 ∷ Believes 2 1 RWH ∷ Took 2 ∷ Believes 2 1 RH ∷ Sent 2
    ∷ Opened 1 1 ∷ Sent 1 ∷ Took 1 ∷ Took 1 ∷ Believes 1 1 RH ∷ []

abbrev pub LateBreak : Type 0
LateBreak = (recorded two_clients late_break_events ≡ late_break_record)
    × (verdict late_break_record ≡ Verdict.Safe)

-- ---- a late break is not answered

-- The same, and the server looks once more for a message of client 1: there is none.
abbrev pub late_break_after_events : List Event
late_break_after_events =
    Connect 1 ∷ Connect 2 ∷ opening 1 1 Access.ReadWrite Share.ReadWrite RW false ∷ ServerTakes 1
    ∷ ClientTakes 1 ∷ writing 1 1 0 (0x58 ∷ []) ∷ opening 2 1 Access.ReadWrite Share.ReadWrite RWH false
    ∷ ServerTakes 2 ∷ closing 1 1 ∷ opening 1 1 Access.ReadWrite Share.ReadWrite RWH false ∷ ClientTakes 1
    ∷ ServerTakes 1 ∷ ServerTakes 1 ∷ ServerTakes 1 ∷ ClientTakes 1 ∷ ClientTakes 2 ∷ ClientTakes 2
    ∷ ServerTakes 2 ∷ ClientTakes 1 ∷ ClientTakes 1 ∷ ServerTakes 1 ∷ []

abbrev pub late_break_after_record : List Fact
late_break_after_record =
    Start 1 (0x61 ∷ 0x62 ∷ 0x63 ∷ []) ∷ Joined 1 ∷ Joined 2 ∷ Opened 1 1 ∷ Sent 1 ∷ Took 1
    ∷ Believes 1 1 RW ∷ Wrote 1 1 1 (at 0 (0x58 ∷ [])) true ∷ Sent 1 ∷ Believes 1 1 nothing_cached
    ∷ Took 1 ∷ Changed 1 1 1 (at 0 (0x58 ∷ [])) ∷ Sent 1 ∷ Sent 1 ∷ Opened 1 2 ∷ Sent 2 ∷ Sent 2 ∷ Took 1
    ∷ Settled 1 1 Settlement.Done ∷ Took 2 ∷ Believes 2 1 RWH ∷ Took 2 ∷ Believes 2 1 RH ∷ Sent 2
    ∷ Opened 1 1 ∷ Sent 1 ∷ Took 1 ∷ Took 1 ∷ Believes 1 1 RH ∷ []

abbrev pub LateBreakAfter : Type 0
LateBreakAfter = (recorded two_clients late_break_after_events ≡ late_break_after_record)
    × (verdict late_break_after_record ≡ Verdict.Safe)

-- ---- a handle break of a parked open

-- Client 1 shares nothing and has closed its last handle: its open is parked. Broken for client 2,
-- it writes and closes, and sends no acknowledgment.
abbrev pub parked_handle_break_events : List Event
parked_handle_break_events =
    Connect 1 ∷ Connect 2 ∷ opening 1 1 Access.ReadWrite Share.Nothing RWH false ∷ ServerTakes 1
    ∷ ClientTakes 1 ∷ writing 1 1 0 (0x58 ∷ []) ∷ closing 1 1
    ∷ opening 2 1 Access.ReadWrite Share.ReadWrite RWH false ∷ ServerTakes 2 ∷ ClientTakes 1
    ∷ ServerTakes 1 ∷ ServerTakes 1 ∷ ClientTakes 2 ∷ []

abbrev pub parked_handle_break_record : List Fact
parked_handle_break_record =
    Start 1 (0x61 ∷ 0x62 ∷ 0x63 ∷ []) ∷ Joined 1 ∷ Joined 2 ∷ Opened 1 1 ∷ Sent 1 ∷ Took 1
    ∷ Believes 1 1 RWH ∷ Wrote 1 1 1 (at 0 (0x58 ∷ [])) true ∷ Sent 1 ∷ Took 1
    ∷ Believes 1 1 nothing_cached ∷ Changed 1 1 1 (at 0 (0x58 ∷ [])) ∷ Sent 1 ∷ Sent 1 ∷ Opened 1 2
    ∷ Sent 2 ∷ Took 2 ∷ Believes 2 1 RWH ∷ []

abbrev pub ParkedHandleBreak : Type 0
ParkedHandleBreak = (recorded two_clients parked_handle_break_events ≡ parked_handle_break_record)
    × (verdict parked_handle_break_record ≡ Verdict.Safe)

-- ---- a handle break of an open in use

-- The same with the handle still in use: client 1 gives up H and keeps its open, so client 2 meets a
-- sharing violation.
abbrev pub used_handle_break_events : List Event
used_handle_break_events =
    Connect 1 ∷ Connect 2 ∷ opening 1 1 Access.ReadWrite Share.Nothing RWH false ∷ ServerTakes 1
    ∷ ClientTakes 1 ∷ writing 1 1 0 (0x58 ∷ []) ∷ opening 2 1 Access.ReadWrite Share.ReadWrite RWH false
    ∷ ServerTakes 2 ∷ ClientTakes 1 ∷ ServerTakes 1 ∷ ServerTakes 1 ∷ ClientTakes 2 ∷ []

abbrev pub used_handle_break_record : List Fact
used_handle_break_record =
    Start 1 (0x61 ∷ 0x62 ∷ 0x63 ∷ []) ∷ Joined 1 ∷ Joined 2 ∷ Opened 1 1 ∷ Sent 1 ∷ Took 1
    ∷ Believes 1 1 RWH ∷ Wrote 1 1 1 (at 0 (0x58 ∷ [])) true ∷ Sent 1 ∷ Took 1 ∷ Believes 1 1 RW
    ∷ Changed 1 1 1 (at 0 (0x58 ∷ [])) ∷ Sent 1 ∷ Sent 1 ∷ Sent 2 ∷ Took 2 ∷ []

abbrev pub UsedHandleBreak : Type 0
UsedHandleBreak = (recorded two_clients used_handle_break_events ≡ used_handle_break_record)
    × (verdict used_handle_break_record ≡ Verdict.Safe)
    × ((after (first_world two_clients) (take 11 used_handle_break_events)).replies 2
    ≡ Reply.CreateFailed 1 Status.SharingViolation ∷ [])

-- ---- a timer runs out

-- Client 1 is slow to acknowledge, and its opens are closed. Its write meets FILE_CLOSED, its
-- acknowledgment no lease, and its next open is given nothing.
abbrev pub timer_events : List Event
timer_events =
    Connect 1 ∷ Connect 2 ∷ opening 1 1 Access.ReadWrite Share.ReadWrite RWH false ∷ ServerTakes 1
    ∷ ClientTakes 1 ∷ writing 1 1 0 (0x58 ∷ []) ∷ opening 2 1 Access.ReadWrite Share.ReadWrite RWH false
    ∷ ServerTakes 2 ∷ ClientTakes 1 ∷ Expire 1 1 ∷ ServerTakes 1 ∷ ServerTakes 1 ∷ ClientTakes 2
    ∷ ClientTakes 1 ∷ ClientTakes 1 ∷ opening 1 1 Access.ReadWrite Share.ReadWrite RWH false
    ∷ ServerTakes 1 ∷ ClientTakes 2 ∷ ServerTakes 2 ∷ ClientTakes 1 ∷ []

abbrev pub timer_record : List Fact
timer_record =
    Start 1 (0x61 ∷ 0x62 ∷ 0x63 ∷ []) ∷ Joined 1 ∷ Joined 2 ∷ Opened 1 1 ∷ Sent 1 ∷ Took 1
    ∷ Believes 1 1 RWH ∷ Wrote 1 1 1 (at 0 (0x58 ∷ [])) true ∷ Sent 1 ∷ Took 1 ∷ Believes 1 1 RH
    ∷ Expired 1 1 ∷ Opened 1 2 ∷ Sent 2 ∷ Sent 1 ∷ Sent 1 ∷ Took 2 ∷ Believes 2 1 RWH ∷ Took 1
    ∷ Settled 1 1 Settlement.Failed ∷ Believes 1 1 nothing_cached ∷ Took 1 ∷ Sent 2 ∷ Took 2
    ∷ Believes 2 1 RH ∷ Sent 2 ∷ Opened 1 1 ∷ Sent 1 ∷ Took 1 ∷ []

abbrev pub Timer : Type 0
Timer = (recorded two_clients timer_events ≡ timer_record)
    × (verdict timer_record ≡ Verdict.Safe)
    × ((after (first_world two_clients) (take 12 timer_events)).replies 1
    ≡ Reply.WriteFailed 1 1 Status.FileClosed ∷ Reply.AckFailed Status.ObjectNameNotFound ∷ [])
    × ((after (first_world two_clients) (take 19 timer_events)).replies 1
    ≡ created_reply 3 nothing_cached ∷ [])
