-- Worked runs: connections are lost, and durable opens outlive them.
use Rattle.std.specs.Prelude.{◌≡◌, List, [], ◌∷◌, true, false, take}
use Rattle.lease_state.specs.State.{nothing_cached}
use Rattle.lease_state.specs.declared.access.Access.{Access}
use Rattle.lease_state.specs.declared.access.Share.{Share}
use Rattle.lease_state.specs.declared.status.Status.{Status}
use Rattle.lease_model.specs.client.Commands.{Settlement}
use Rattle.lease_model.specs.world.Events.{Event, ServerTakes, ClientTakes, Cut, Notice, Connect, Scavenge, recorded, after}
use Rattle.lease_model.specs.records.Facts.{Fact, Start, Joined, Dropped, Sent, Took, Opened, Changed, Wrote, Settled, Believes}
use Rattle.lease_model.specs.records.Facts.{CachedRead}
use Rattle.lease_model.specs.messages.Replies.{Reply}
use Rattle.lease_model.specs.worked.Schedules.{opening, reading, writing, flushing, two_clients}
use Rattle.lease_model.specs.records.Verdict.{Verdict, verdict}
use Rattle.lease_model.specs.worked.ValueWords.{RH, RWH, at}
use Rattle.lease_model.specs.world.World.{first_world}

-- ---- a cut without a durable open

-- The open is gone with the connection. Of the buffered write nobody knows.
abbrev pub plain_cut_events : List Event
plain_cut_events =
    Connect 1 ∷ Connect 2 ∷ opening 1 1 Access.ReadWrite Share.ReadWrite RWH false ∷ ServerTakes 1
    ∷ ClientTakes 1 ∷ writing 1 1 0 (0x58 ∷ []) ∷ Cut 1 ∷ Notice 1 ∷ Connect 1 ∷ []

abbrev pub plain_cut_record : List Fact
plain_cut_record =
    Start 1 (0x61 ∷ 0x62 ∷ 0x63 ∷ []) ∷ Joined 1 ∷ Joined 2 ∷ Opened 1 1 ∷ Sent 1 ∷ Took 1
    ∷ Believes 1 1 RWH ∷ Wrote 1 1 1 (at 0 (0x58 ∷ [])) true ∷ Dropped 1 ∷ Settled 1 1 Settlement.Unknown
    ∷ Believes 1 1 nothing_cached ∷ Joined 1 ∷ []

abbrev pub PlainCut : Type 0
PlainCut = (recorded two_clients plain_cut_events ≡ plain_cut_record)
    × (verdict plain_cut_record ≡ Verdict.Safe)

-- ---- a cut in a flush

-- One of three buffered writes has reached the server when the connection is lost. The open is
-- durable, so all three are sent again after the reconnect, and give what they would have given
-- once.
abbrev pub cut_in_flush_events : List Event
cut_in_flush_events =
    Connect 1 ∷ Connect 2 ∷ opening 1 1 Access.ReadWrite Share.ReadWrite RWH true ∷ ServerTakes 1
    ∷ ClientTakes 1 ∷ writing 1 1 0 (0x58 ∷ []) ∷ writing 1 1 1 (0x59 ∷ []) ∷ writing 1 1 2 (0x5a ∷ [])
    ∷ flushing 1 1 ∷ ServerTakes 1 ∷ Cut 1 ∷ Notice 1 ∷ Connect 1 ∷ ServerTakes 1 ∷ ClientTakes 1
    ∷ flushing 1 1 ∷ ServerTakes 1 ∷ ServerTakes 1 ∷ ServerTakes 1 ∷ ClientTakes 1 ∷ ClientTakes 1
    ∷ ClientTakes 1 ∷ []

abbrev pub cut_in_flush_record : List Fact
cut_in_flush_record =
    Start 1 (0x61 ∷ 0x62 ∷ 0x63 ∷ []) ∷ Joined 1 ∷ Joined 2 ∷ Opened 1 1 ∷ Sent 1 ∷ Took 1
    ∷ Believes 1 1 RWH ∷ Wrote 1 1 1 (at 0 (0x58 ∷ [])) true ∷ Wrote 1 1 2 (at 1 (0x59 ∷ [])) true
    ∷ Wrote 1 1 3 (at 2 (0x5a ∷ [])) true ∷ Changed 1 1 1 (at 0 (0x58 ∷ [])) ∷ Sent 1 ∷ Dropped 1
    ∷ Believes 1 1 nothing_cached ∷ Joined 1 ∷ Sent 1 ∷ Took 1 ∷ Believes 1 1 RWH
    ∷ Changed 1 1 1 (at 0 (0x58 ∷ [])) ∷ Sent 1 ∷ Changed 1 1 2 (at 1 (0x59 ∷ [])) ∷ Sent 1
    ∷ Changed 1 1 3 (at 2 (0x5a ∷ [])) ∷ Sent 1 ∷ Took 1 ∷ Settled 1 1 Settlement.Done ∷ Took 1
    ∷ Settled 1 2 Settlement.Done ∷ Took 1 ∷ Settled 1 3 Settlement.Done ∷ []

abbrev pub CutInFlush : Type 0
CutInFlush = (recorded two_clients cut_in_flush_events ≡ cut_in_flush_record)
    × (verdict cut_in_flush_record ≡ Verdict.Safe)
    × ((after (first_world two_clients) cut_in_flush_events).server.contents 1 ≡ 0x58 ∷ 0x59 ∷ 0x5a ∷ [])

-- ---- replies lost

-- The acknowledgment was served, and its reply and that of the write are lost. The belief no longer
-- holds W, so the write is not sent again.
abbrev pub replies_lost_events : List Event
replies_lost_events =
    Connect 1 ∷ Connect 2 ∷ opening 1 1 Access.ReadWrite Share.ReadWrite RWH true ∷ ServerTakes 1
    ∷ ClientTakes 1 ∷ writing 1 1 0 (0x58 ∷ []) ∷ opening 2 1 Access.ReadWrite Share.ReadWrite RWH false
    ∷ ServerTakes 2 ∷ ClientTakes 1 ∷ ServerTakes 1 ∷ ServerTakes 1 ∷ Cut 1 ∷ ClientTakes 2 ∷ Notice 1
    ∷ Connect 1 ∷ ServerTakes 1 ∷ ClientTakes 1 ∷ []

abbrev pub replies_lost_record : List Fact
replies_lost_record =
    Start 1 (0x61 ∷ 0x62 ∷ 0x63 ∷ []) ∷ Joined 1 ∷ Joined 2 ∷ Opened 1 1 ∷ Sent 1 ∷ Took 1
    ∷ Believes 1 1 RWH ∷ Wrote 1 1 1 (at 0 (0x58 ∷ [])) true ∷ Sent 1 ∷ Took 1 ∷ Believes 1 1 RH
    ∷ Changed 1 1 1 (at 0 (0x58 ∷ [])) ∷ Sent 1 ∷ Sent 1 ∷ Opened 1 2 ∷ Sent 2 ∷ Dropped 1 ∷ Took 2
    ∷ Believes 2 1 RH ∷ Settled 1 1 Settlement.Unknown ∷ Believes 1 1 nothing_cached ∷ Joined 1 ∷ Sent 1
    ∷ Took 1 ∷ Believes 1 1 RH ∷ []

abbrev pub RepliesLost : Type 0
RepliesLost = (recorded two_clients replies_lost_events ≡ replies_lost_record)
    × (verdict replies_lost_record ≡ Verdict.Safe)

-- ---- replies lost, and nothing is sent late

-- The same, and both ends look once more for messages: there is none, so the write of client 1 is
-- not sent late.
abbrev pub replies_lost_after_events : List Event
replies_lost_after_events =
    Connect 1 ∷ Connect 2 ∷ opening 1 1 Access.ReadWrite Share.ReadWrite RWH true ∷ ServerTakes 1
    ∷ ClientTakes 1 ∷ writing 1 1 0 (0x58 ∷ []) ∷ opening 2 1 Access.ReadWrite Share.ReadWrite RWH false
    ∷ ServerTakes 2 ∷ ClientTakes 1 ∷ ServerTakes 1 ∷ ServerTakes 1 ∷ Cut 1 ∷ ClientTakes 2 ∷ Notice 1
    ∷ Connect 1 ∷ ServerTakes 1 ∷ ClientTakes 1 ∷ ServerTakes 1 ∷ ClientTakes 2 ∷ ServerTakes 2 ∷ []

abbrev pub replies_lost_after_record : List Fact
replies_lost_after_record =
    Start 1 (0x61 ∷ 0x62 ∷ 0x63 ∷ []) ∷ Joined 1 ∷ Joined 2 ∷ Opened 1 1 ∷ Sent 1 ∷ Took 1
    ∷ Believes 1 1 RWH ∷ Wrote 1 1 1 (at 0 (0x58 ∷ [])) true ∷ Sent 1 ∷ Took 1 ∷ Believes 1 1 RH
    ∷ Changed 1 1 1 (at 0 (0x58 ∷ [])) ∷ Sent 1 ∷ Sent 1 ∷ Opened 1 2 ∷ Sent 2 ∷ Dropped 1 ∷ Took 2
    ∷ Believes 2 1 RH ∷ Settled 1 1 Settlement.Unknown ∷ Believes 1 1 nothing_cached ∷ Joined 1 ∷ Sent 1
    ∷ Took 1 ∷ Believes 1 1 RH ∷ []

abbrev pub RepliesLostAfter : Type 0
RepliesLostAfter = (recorded two_clients replies_lost_after_events ≡ replies_lost_after_record)
    × (verdict replies_lost_after_record ≡ Verdict.Safe)

-- ---- a kept open is broken

-- While client 1 is away client 2 opens the file, and the kept open is closed for it. The reconnect
-- fails, and the buffered write is lost.
abbrev pub kept_open_broken_events : List Event
kept_open_broken_events =
    Connect 1 ∷ Connect 2 ∷ opening 1 1 Access.ReadWrite Share.ReadWrite RWH true ∷ ServerTakes 1
    ∷ ClientTakes 1 ∷ writing 1 1 0 (0x58 ∷ []) ∷ Cut 1
    ∷ opening 2 1 Access.ReadWrite Share.ReadWrite RWH false ∷ ServerTakes 2 ∷ ClientTakes 2 ∷ Notice 1
    ∷ Connect 1 ∷ ServerTakes 1 ∷ ClientTakes 1 ∷ []

abbrev pub kept_open_broken_record : List Fact
kept_open_broken_record =
    Start 1 (0x61 ∷ 0x62 ∷ 0x63 ∷ []) ∷ Joined 1 ∷ Joined 2 ∷ Opened 1 1 ∷ Sent 1 ∷ Took 1
    ∷ Believes 1 1 RWH ∷ Wrote 1 1 1 (at 0 (0x58 ∷ [])) true ∷ Dropped 1 ∷ Opened 1 2 ∷ Sent 2 ∷ Took 2
    ∷ Believes 2 1 RWH ∷ Believes 1 1 nothing_cached ∷ Joined 1 ∷ Sent 1 ∷ Took 1
    ∷ Settled 1 1 Settlement.Lost ∷ []

abbrev pub KeptOpenBroken : Type 0
KeptOpenBroken = (recorded two_clients kept_open_broken_events ≡ kept_open_broken_record)
    × (verdict kept_open_broken_record ≡ Verdict.Safe)

-- ---- a breaking lease is cut

-- The lease of client 1 is breaking when its connection is lost, so its open is not kept, though it
-- is durable: client 2 is answered at once, and the reconnect fails.
abbrev pub breaking_cut_events : List Event
breaking_cut_events =
    Connect 1 ∷ Connect 2 ∷ opening 1 1 Access.ReadWrite Share.ReadWrite RWH true ∷ ServerTakes 1
    ∷ ClientTakes 1 ∷ writing 1 1 0 (0x58 ∷ []) ∷ opening 2 1 Access.ReadWrite Share.ReadWrite RWH false
    ∷ ServerTakes 2 ∷ Cut 1 ∷ ClientTakes 2 ∷ Notice 1 ∷ Connect 1 ∷ ServerTakes 1 ∷ ClientTakes 1 ∷ []

abbrev pub breaking_cut_record : List Fact
breaking_cut_record =
    Start 1 (0x61 ∷ 0x62 ∷ 0x63 ∷ []) ∷ Joined 1 ∷ Joined 2 ∷ Opened 1 1 ∷ Sent 1 ∷ Took 1
    ∷ Believes 1 1 RWH ∷ Wrote 1 1 1 (at 0 (0x58 ∷ [])) true ∷ Sent 1 ∷ Dropped 1 ∷ Opened 1 2 ∷ Sent 2
    ∷ Took 2 ∷ Believes 2 1 RWH ∷ Believes 1 1 nothing_cached ∷ Joined 1 ∷ Sent 1 ∷ Took 1
    ∷ Settled 1 1 Settlement.Lost ∷ []

abbrev pub BreakingCut : Type 0
BreakingCut = (recorded two_clients breaking_cut_events ≡ breaking_cut_record)
    × (verdict breaking_cut_record ≡ Verdict.Safe)

-- ---- a breaking lease is cut and nobody waits

-- The same, and client 2 is cut first, so nothing waits for the break. The open of client 1 is not
-- kept either way, and a read after the failed reconnect is not sent.
abbrev pub breaking_cut_alone_events : List Event
breaking_cut_alone_events =
    Connect 1 ∷ Connect 2 ∷ opening 1 1 Access.ReadWrite Share.ReadWrite RWH true ∷ ServerTakes 1
    ∷ ClientTakes 1 ∷ opening 2 1 Access.ReadWrite Share.ReadWrite RWH false ∷ ServerTakes 2 ∷ Cut 2
    ∷ Cut 1 ∷ Notice 1 ∷ Connect 1 ∷ ServerTakes 1 ∷ ClientTakes 1 ∷ reading 1 1 ∷ ServerTakes 1 ∷ []

abbrev pub breaking_cut_alone_record : List Fact
breaking_cut_alone_record =
    Start 1 (0x61 ∷ 0x62 ∷ 0x63 ∷ []) ∷ Joined 1 ∷ Joined 2 ∷ Opened 1 1 ∷ Sent 1 ∷ Took 1
    ∷ Believes 1 1 RWH ∷ Sent 1 ∷ Dropped 2 ∷ Dropped 1 ∷ Believes 1 1 nothing_cached ∷ Joined 1 ∷ Sent 1
    ∷ Took 1 ∷ []

abbrev pub BreakingCutAlone : Type 0
BreakingCutAlone = (recorded two_clients breaking_cut_alone_events ≡ breaking_cut_alone_record)
    × (verdict breaking_cut_alone_record ≡ Verdict.Safe)

-- ---- scavenged

-- The timer of the kept open runs out, and the reconnect fails.
abbrev pub scavenged_open_events : List Event
scavenged_open_events =
    Connect 1 ∷ Connect 2 ∷ opening 1 1 Access.ReadWrite Share.ReadWrite RWH true ∷ ServerTakes 1
    ∷ ClientTakes 1 ∷ Cut 1 ∷ Scavenge 1 1 ∷ Notice 1 ∷ Connect 1 ∷ ServerTakes 1 ∷ ClientTakes 1 ∷ []

abbrev pub scavenged_open_record : List Fact
scavenged_open_record =
    Start 1 (0x61 ∷ 0x62 ∷ 0x63 ∷ []) ∷ Joined 1 ∷ Joined 2 ∷ Opened 1 1 ∷ Sent 1 ∷ Took 1
    ∷ Believes 1 1 RWH ∷ Dropped 1 ∷ Believes 1 1 nothing_cached ∷ Joined 1 ∷ Sent 1 ∷ Took 1 ∷ []

abbrev pub ScavengedOpen : Type 0
ScavengedOpen = (recorded two_clients scavenged_open_events ≡ scavenged_open_record)
    × (verdict scavenged_open_record ≡ Verdict.Safe)
    × ((after (first_world two_clients) (take 10 scavenged_open_events)).replies 1
    ≡ Reply.CreateFailed 1 Status.ObjectNameNotFound ∷ [])

-- ---- a created reply is lost

-- The reply to a durable create is lost: the open stays, unknown to its client, and refuses the next
-- create until it is scavenged.
abbrev pub created_lost_events : List Event
created_lost_events =
    Connect 1 ∷ Connect 2 ∷ opening 1 1 Access.ReadWrite Share.Nothing RWH true ∷ ServerTakes 1 ∷ Cut 1
    ∷ Notice 1 ∷ Connect 1 ∷ opening 1 1 Access.ReadWrite Share.Nothing RWH false ∷ ServerTakes 1
    ∷ ClientTakes 1 ∷ Scavenge 1 1 ∷ opening 1 1 Access.ReadWrite Share.Nothing RWH false ∷ ServerTakes 1
    ∷ ClientTakes 1 ∷ []

abbrev pub created_lost_record : List Fact
created_lost_record =
    Start 1 (0x61 ∷ 0x62 ∷ 0x63 ∷ []) ∷ Joined 1 ∷ Joined 2 ∷ Opened 1 1 ∷ Sent 1 ∷ Dropped 1 ∷ Joined 1
    ∷ Sent 1 ∷ Took 1 ∷ Opened 1 1 ∷ Sent 1 ∷ Took 1 ∷ Believes 1 1 RWH ∷ []

abbrev pub CreatedLost : Type 0
CreatedLost = (recorded two_clients created_lost_events ≡ created_lost_record)
    × (verdict created_lost_record ≡ Verdict.Safe)
    × ((after (first_world two_clients) (take 9 created_lost_events)).replies 1
    ≡ Reply.CreateFailed 1 Status.SharingViolation ∷ [])

-- ---- no base is kept

-- A write went through before the cut and its reply was lost. The client keeps no base over the
-- reconnect, so its next read is sent.
abbrev pub no_base_kept_events : List Event
no_base_kept_events =
    Connect 1 ∷ Connect 2 ∷ opening 1 1 Access.ReadWrite Share.ReadWrite RH true ∷ ServerTakes 1
    ∷ ClientTakes 1 ∷ reading 1 1 ∷ ServerTakes 1 ∷ ClientTakes 1 ∷ writing 1 1 0 (0x58 ∷ [])
    ∷ ServerTakes 1 ∷ Cut 1 ∷ Notice 1 ∷ Connect 1 ∷ ServerTakes 1 ∷ ClientTakes 1 ∷ reading 1 1
    ∷ ServerTakes 1 ∷ ClientTakes 1 ∷ reading 1 1 ∷ []

abbrev pub no_base_kept_record : List Fact
no_base_kept_record =
    Start 1 (0x61 ∷ 0x62 ∷ 0x63 ∷ []) ∷ Joined 1 ∷ Joined 2 ∷ Opened 1 1 ∷ Sent 1 ∷ Took 1
    ∷ Believes 1 1 RH ∷ Sent 1 ∷ Took 1 ∷ Wrote 1 1 1 (at 0 (0x58 ∷ [])) false
    ∷ Changed 1 1 1 (at 0 (0x58 ∷ [])) ∷ Sent 1 ∷ Dropped 1 ∷ Settled 1 1 Settlement.Unknown
    ∷ Believes 1 1 nothing_cached ∷ Joined 1 ∷ Sent 1 ∷ Took 1 ∷ Believes 1 1 RH ∷ Sent 1 ∷ Took 1
    ∷ CachedRead 1 1 (0x58 ∷ 0x62 ∷ 0x63 ∷ []) ∷ []

abbrev pub NoBaseKept : Type 0
NoBaseKept = (recorded two_clients no_base_kept_events ≡ no_base_kept_record)
    × (verdict no_base_kept_record ≡ Verdict.Safe)
