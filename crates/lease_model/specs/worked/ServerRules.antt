-- Worked calls of servers of other rules than the profile's, each beside one of the profile's.
use Rattle.std.specs.Prelude.{◌≡◌, true, false, List, [], ◌∷◌}
use Rattle.lease_state.specs.Rules.{profile_rules}
use Rattle.lease_state.specs.declared.access.Access.{Access}
use Rattle.lease_state.specs.declared.access.Share.{Share}
use Rattle.lease_state.specs.declared.rules.Order.{Order}
use Rattle.lease_state.specs.declared.rules.Rise.{Rise}
use Rattle.lease_state.specs.declared.rules.Rules.{Rules}
use Rattle.lease_state.specs.declared.status.Status.{Status}
use Rattle.lease_model.specs.messages.Replies.{Reply, Out}
use Rattle.lease_model.specs.server.Calls.{Call}
use Rattle.lease_model.specs.worked.MessageWords.{keyed, plain, read_of, write_of, acknowledging, done_acknowledging, created}
use Rattle.lease_model.specs.worked.MessageWords.{created_plain, break_of}
use Rattle.lease_model.specs.worked.ServerWords.{outs_along, three_joined_under}
use Rattle.lease_model.specs.worked.ValueWords.{R, RH, RWH, at, sample_key, later_key}

abbrev pub by_key : Rules
by_key = record { order = Order.ByKey; rise = Rise.AsFree }

abbrev pub whole : Rules
whole = record { order = Order.ByClient; rise = Rise.Whole }

-- ---- order

abbrev pub own_flush_calls : List Call
own_flush_calls =
    Call.Receive 1 (keyed 1 Access.ReadWrite Share.ReadWrite sample_key RWH)
    ∷ Call.Receive 1 (plain 1 Access.ReadWrite Share.ReadWrite)
    ∷ Call.Receive 1 (write_of 1 1 (at 0 (0x58 ∷ [])))
    ∷ Call.Receive 1 (acknowledging sample_key RH)
    ∷ []

-- A create without a key waits for the break of its own client's lease. By key the client can flush under the lease
-- before it acknowledges; then the create is answered.
abbrev pub FlushGoesOn : Type 0
FlushGoesOn = outs_along (three_joined_under by_key) own_flush_calls ≡
    (Out.Opened 1 1 ∷ Out.Sent 1 (created 1 1 sample_key RWH false false) ∷ [])
    ∷ (Out.Sent 1 (break_of sample_key RWH RH true) ∷ [])
    ∷ (Out.Changed 1 1 1 (at 0 (0x58 ∷ [])) ∷ Out.Sent 1 (Reply.WriteDone 1 1) ∷ [])
    ∷ (Out.Sent 1 (done_acknowledging sample_key RH) ∷ Out.Opened 1 1 ∷ Out.Sent 1 (created_plain 1 2) ∷ [])
    ∷ []

-- By client the write waits behind the create, and is done after it.
abbrev pub FlushWaits : Type 0
FlushWaits = outs_along (three_joined_under profile_rules) own_flush_calls ≡
    (Out.Opened 1 1 ∷ Out.Sent 1 (created 1 1 sample_key RWH false false) ∷ [])
    ∷ (Out.Sent 1 (break_of sample_key RWH RH true) ∷ [])
    ∷ []
    ∷ (Out.Sent 1 (done_acknowledging sample_key RH) ∷ Out.Opened 1 1 ∷ Out.Sent 1 (created_plain 1 2)
    ∷ Out.Changed 1 1 1 (at 0 (0x58 ∷ [])) ∷ Out.Sent 1 (Reply.WriteDone 1 1) ∷ [])
    ∷ []

abbrev pub one_lane_calls : List Call
one_lane_calls =
    Call.Receive 1 (keyed 1 Access.Read Share.ReadWrite sample_key R)
    ∷ Call.Receive 2 (keyed 1 Access.Read Share.ReadWrite later_key RH)
    ∷ Call.Receive 1 (keyed 1 Access.Read Share.Nothing sample_key R)
    ∷ Call.Receive 1 (read_of 1)
    ∷ Call.Receive 2 (acknowledging later_key R)
    ∷ []

-- By key, too, requests under one key are answered in the order in which they came: a read, which waits for no break,
-- waits behind a create under its open's key.
abbrev pub OneKeyInOrder : Type 0
OneKeyInOrder = outs_along (three_joined_under by_key) one_lane_calls ≡
    (Out.Opened 1 1 ∷ Out.Sent 1 (created 1 1 sample_key R false false) ∷ [])
    ∷ (Out.Opened 1 2 ∷ Out.Sent 2 (created 1 2 later_key RH false false) ∷ [])
    ∷ (Out.Sent 2 (break_of later_key RH R true) ∷ [])
    ∷ []
    ∷ (Out.Sent 2 (done_acknowledging later_key R) ∷ Out.Sent 1 (Reply.CreateFailed 1 Status.SharingViolation)
    ∷ Out.Sent 1 (Reply.ReadDone 1 (0x61 ∷ 0x62 ∷ 0x63 ∷ [])) ∷ [])
    ∷ []

-- ---- rise

abbrev pub asks_for_all_calls : List Call
asks_for_all_calls =
    Call.Receive 1 (keyed 1 Access.Read Share.ReadWrite sample_key R)
    ∷ Call.Receive 2 (keyed 1 Access.Read Share.ReadWrite later_key RWH)
    ∷ Call.Receive 1 (keyed 1 Access.Read Share.ReadWrite sample_key RWH)
    ∷ []

-- Beside another's lease a lease of R that asks for RWH stays R, where it rises whole or not at all. The first create
-- under a key is granted what is free.
abbrev pub StaysBesideAnother : Type 0
StaysBesideAnother = outs_along (three_joined_under whole) asks_for_all_calls ≡
    (Out.Opened 1 1 ∷ Out.Sent 1 (created 1 1 sample_key R false false) ∷ [])
    ∷ (Out.Opened 1 2 ∷ Out.Sent 2 (created 1 2 later_key RH false false) ∷ [])
    ∷ (Out.Opened 1 1 ∷ Out.Sent 1 (created 1 3 sample_key R false false) ∷ [])
    ∷ []

-- By the profile it rises as far as it may.
abbrev pub RisesBesideAnother : Type 0
RisesBesideAnother = outs_along (three_joined_under profile_rules) asks_for_all_calls ≡
    (Out.Opened 1 1 ∷ Out.Sent 1 (created 1 1 sample_key R false false) ∷ [])
    ∷ (Out.Opened 1 2 ∷ Out.Sent 2 (created 1 2 later_key RH false false) ∷ [])
    ∷ (Out.Opened 1 1 ∷ Out.Sent 1 (created 1 3 sample_key RH false false) ∷ [])
    ∷ []

-- Alone on its file it rises to all of it.
abbrev pub RisesAlone : Type 0
RisesAlone = outs_along (three_joined_under whole)
    (Call.Receive 1 (keyed 1 Access.Read Share.ReadWrite sample_key R)
    ∷ Call.Receive 1 (keyed 1 Access.Read Share.ReadWrite sample_key RWH) ∷ []) ≡
    (Out.Opened 1 1 ∷ Out.Sent 1 (created 1 1 sample_key R false false) ∷ [])
    ∷ (Out.Opened 1 1 ∷ Out.Sent 1 (created 1 2 sample_key RWH false false) ∷ [])
    ∷ []
