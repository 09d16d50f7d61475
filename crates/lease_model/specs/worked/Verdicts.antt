-- Worked verdicts on records, also on records that no run gives.
use Rattle.std.specs.Prelude.{◌≡◌, ◌-◌, true, false, [], ◌∷◌}
use Rattle.lease_model.specs.client.Commands.{Settlement}
use Rattle.lease_state.specs.declared.patch.Patch.{Patch}
use Rattle.lease_model.specs.records.Facts.{Fact}
use Rattle.lease_state.specs.declared.content.TheConstants.{FILE_LIMIT}
use Rattle.lease_model.specs.records.Verdict.{Verdict, verdict}
use Rattle.lease_model.specs.worked.ValueWords.{R, RW, at}

abbrev pub x_at_0 : Patch
x_at_0 = record { offset = 0; bytes = 0x58 ∷ [] }

-- the verdicts on five records, each with one thing wrong
abbrev pub OneFlaw : Type 0
OneFlaw =
    (verdict (Fact.Start 1 [] ∷ Fact.Joined 1 ∷ Fact.Joined 2 ∷ Fact.Believes 1 1 RW ∷ Fact.Believes 2 1 R ∷ [])
    ∷ verdict (Fact.Start 1 (0x61 ∷ []) ∷ Fact.Joined 1 ∷ Fact.Sent 1 ∷ Fact.Took 1
    ∷ Fact.CachedRead 1 1 (0x62 ∷ []) ∷ [])
    ∷ verdict (Fact.Start 1 [] ∷ Fact.Joined 1 ∷ Fact.Wrote 1 1 1 x_at_0 true ∷ Fact.Opened 1 2
    ∷ Fact.Changed 1 1 1 x_at_0 ∷ [])
    ∷ verdict (Fact.Start 1 [] ∷ Fact.Joined 1 ∷ Fact.Wrote 1 1 1 x_at_0 false
    ∷ Fact.Settled 1 1 Settlement.Done ∷ [])
    ∷ verdict (Fact.Joined 1 ∷ Fact.Took 1 ∷ []) ∷ [])
    ≡ Verdict.Unsafe 5 1 ∷ Verdict.Unsafe 5 2 ∷ Verdict.Unsafe 5 3 ∷ Verdict.Unsafe 4 4
    ∷ Verdict.Malformed 2 ∷ []

-- Of a client that has strayed nothing is promised; straying later excuses nothing.
abbrev pub StrayedVerdicts : Type 0
StrayedVerdicts =
    (verdict (Fact.Start 1 [] ∷ Fact.Joined 1 ∷ Fact.Strayed 1 ∷ Fact.Wrote 1 1 1 x_at_0 true
    ∷ Fact.Opened 1 2 ∷ Fact.Changed 1 1 1 x_at_0 ∷ [])
    ∷ verdict (Fact.Start 1 [] ∷ Fact.Joined 1 ∷ Fact.Wrote 1 1 1 x_at_0 true
    ∷ Fact.Opened 1 2 ∷ Fact.Changed 1 1 1 x_at_0 ∷ Fact.Strayed 1 ∷ [])
    ∷ verdict (Fact.Start 1 [] ∷ Fact.Joined 1 ∷ Fact.Joined 2 ∷ Fact.Strayed 1 ∷ Fact.Believes 1 1 RW
    ∷ Fact.Believes 2 1 R ∷ []) ∷ [])
    ≡ Verdict.Safe ∷ Verdict.Unsafe 5 3 ∷ Verdict.Safe ∷ []

-- A file may be started after the place whose content counts, and a write may be settled before it
-- was given: such records are safe, though no run gives them.
abbrev pub StrangeOrder : Type 0
StrangeOrder =
    (verdict (Fact.Joined 1 ∷ Fact.Sent 1 ∷ Fact.Start 1 (0x61 ∷ []) ∷ Fact.Took 1
    ∷ Fact.CachedRead 1 1 (0x61 ∷ []) ∷ [])
    ∷ verdict (Fact.Start 1 (0x61 ∷ []) ∷ Fact.Joined 1 ∷ Fact.Settled 1 1 Settlement.Lost ∷ Fact.Sent 1
    ∷ Fact.Took 1 ∷ Fact.Wrote 1 1 1 x_at_0 true ∷ Fact.CachedRead 1 1 (0x61 ∷ []) ∷ []) ∷ [])
    ≡ Verdict.Safe ∷ Verdict.Safe ∷ []

-- The limit: a write that ends at it, and one that ends past it.
abbrev pub LimitVerdicts : Type 0
LimitVerdicts =
    (verdict (Fact.Start 1 [] ∷ Fact.Joined 1
    ∷ Fact.Wrote 1 1 1 (record { offset = FILE_LIMIT - 1; bytes = 0x58 ∷ [] }) false ∷ [])
    ∷ verdict (Fact.Start 1 [] ∷ Fact.Joined 1
    ∷ Fact.Wrote 1 1 1 (record { offset = FILE_LIMIT; bytes = 0x58 ∷ [] }) false ∷ []) ∷ [])
    ≡ Verdict.Safe ∷ Verdict.Malformed 3 ∷ []

-- A belief outlives a lost connection and counts again with the next one. A cached read needs a message
-- that was taken since the client joined.
abbrev pub BeliefsAndReads : Type 0
BeliefsAndReads =
    (verdict (Fact.Start 1 [] ∷ Fact.Joined 1 ∷ Fact.Joined 2 ∷ Fact.Believes 1 1 RW ∷ Fact.Dropped 1
    ∷ Fact.Believes 2 1 R ∷ Fact.Joined 1 ∷ [])
    ∷ verdict (Fact.Start 1 (0x61 ∷ []) ∷ Fact.Joined 1 ∷ Fact.CachedRead 1 1 (0x61 ∷ []) ∷ [])
    ∷ verdict (Fact.Start 1 (0x61 ∷ []) ∷ Fact.Joined 1 ∷ Fact.Sent 1 ∷ Fact.Took 1 ∷ Fact.Dropped 1
    ∷ Fact.Joined 1 ∷ Fact.CachedRead 1 1 (0x61 ∷ []) ∷ []) ∷ [])
    ≡ Verdict.Unsafe 7 1 ∷ Verdict.Unsafe 3 2 ∷ Verdict.Unsafe 7 2 ∷ []

-- A message is taken by a client that joined; a number is used once, on whichever file; a file is started
-- before it is named, and changed within the limit.
abbrev pub UnfitFacts : Type 0
UnfitFacts =
    (verdict (Fact.Start 1 [] ∷ Fact.Sent 1 ∷ Fact.Took 1 ∷ [])
    ∷ verdict (Fact.Start 1 [] ∷ Fact.Start 2 [] ∷ Fact.Wrote 1 1 1 (at 0 (0x58 ∷ [])) false
    ∷ Fact.Wrote 1 2 1 (at 0 (0x58 ∷ [])) false ∷ [])
    ∷ verdict (Fact.Expired 1 1 ∷ [])
    ∷ verdict (Fact.Start 1 [] ∷ Fact.Changed 1 1 1 (at 1048577 []) ∷ []) ∷ [])
    ≡ Verdict.Malformed 3 ∷ Verdict.Malformed 4 ∷ Verdict.Malformed 1 ∷ Verdict.Malformed 2 ∷ []

-- A write is accepted on its own file and with its own patch, or it isn't done.
abbrev pub SettledAsDone : Type 0
SettledAsDone =
    (verdict (Fact.Start 1 [] ∷ Fact.Start 2 [] ∷ Fact.Wrote 1 1 1 (at 0 (0x58 ∷ [])) false
    ∷ Fact.Changed 2 1 1 (at 0 (0x58 ∷ [])) ∷ Fact.Settled 1 1 Settlement.Done ∷ [])
    ∷ verdict (Fact.Start 1 [] ∷ Fact.Start 2 [] ∷ Fact.Wrote 1 1 1 (at 0 (0x58 ∷ [])) false
    ∷ Fact.Changed 1 1 1 (at 0 (0x59 ∷ [])) ∷ Fact.Settled 1 1 Settlement.Done ∷ [])
    ∷ verdict (Fact.Start 1 [] ∷ Fact.Start 2 [] ∷ Fact.Wrote 1 1 1 (at 0 (0x58 ∷ [])) false
    ∷ Fact.Changed 1 1 1 (at 0 (0x58 ∷ [])) ∷ Fact.Settled 1 1 Settlement.Done ∷ []) ∷ [])
    ≡ Verdict.Unsafe 5 4 ∷ Verdict.Unsafe 5 4 ∷ Verdict.Safe ∷ []

-- What a client is told of a write is told of its own write of that number, whoever else used the number:
-- client 2 is told what became of write 1, which client 1 alone was given, or whose change is client 1's, or
-- which was changed without being given to client 2. Nor does it answer a write of client 1.
abbrev pub SettledForAnother : Type 0
SettledForAnother =
    (verdict (Fact.Start 1 [] ∷ Fact.Wrote 1 1 1 x_at_0 false ∷ Fact.Changed 1 1 1 x_at_0
    ∷ Fact.Settled 2 1 Settlement.Done ∷ [])
    ∷ verdict (Fact.Start 1 [] ∷ Fact.Wrote 1 1 1 x_at_0 false ∷ Fact.Wrote 2 1 1 x_at_0 false
    ∷ Fact.Changed 1 1 1 x_at_0 ∷ Fact.Settled 2 1 Settlement.Done ∷ [])
    ∷ verdict (Fact.Start 1 [] ∷ Fact.Wrote 1 1 1 x_at_0 false ∷ Fact.Changed 1 2 1 x_at_0
    ∷ Fact.Settled 2 1 Settlement.Done ∷ [])
    ∷ verdict (Fact.Start 1 (0x61 ∷ []) ∷ Fact.Joined 1 ∷ Fact.Sent 1 ∷ Fact.Took 1
    ∷ Fact.Wrote 1 1 1 x_at_0 true ∷ Fact.Settled 2 1 Settlement.Lost ∷ Fact.CachedRead 1 1 (0x58 ∷ []) ∷ [])
    ∷ verdict (Fact.Start 1 (0x61 ∷ []) ∷ Fact.Joined 1 ∷ Fact.Sent 1 ∷ Fact.Took 1
    ∷ Fact.Wrote 1 1 1 x_at_0 true ∷ Fact.Settled 2 1 Settlement.Lost ∷ Fact.CachedRead 1 1 (0x61 ∷ []) ∷ []) ∷ [])
    ≡ Verdict.Unsafe 4 4 ∷ Verdict.Unsafe 5 4 ∷ Verdict.Unsafe 4 4 ∷ Verdict.Safe ∷ Verdict.Unsafe 7 2 ∷ []

-- A client may open a file that it has buffered writes of; of no fact nothing is wrong.
abbrev pub NothingWrong : Type 0
NothingWrong =
    (verdict (Fact.Start 1 [] ∷ Fact.Wrote 1 1 1 (at 0 (0x58 ∷ [])) true ∷ Fact.Opened 1 1
    ∷ Fact.Changed 1 1 1 (at 0 (0x58 ∷ [])) ∷ [])
    ∷ verdict [] ∷ [])
    ≡ Verdict.Safe ∷ Verdict.Safe ∷ []

-- A write that begins at 65,536 is within the limit, one that begins at 1,048,576 isn't.
abbrev pub LargeWrites : Type 0
LargeWrites =
    (verdict (Fact.Start 1 [] ∷ Fact.Joined 1 ∷ Fact.Wrote 1 1 1 (at 65536 (0x58 ∷ [])) false ∷ [])
    ∷ verdict (Fact.Start 1 [] ∷ Fact.Joined 1 ∷ Fact.Wrote 1 1 1 (at 1048576 (0x58 ∷ [])) false ∷ []) ∷ [])
    ≡ Verdict.Safe ∷ Verdict.Malformed 3 ∷ []
