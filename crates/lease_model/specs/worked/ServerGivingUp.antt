-- Worked calls of a server: other keys on a file give up what they hold, each by one break.
use Rattle.std.specs.Prelude.{◌≡◌, true, false, Some, None, List, [], ◌∷◌, take}
use Rattle.lease_state.specs.State.{nothing_cached}
use Rattle.lease_state.specs.declared.access.Access.{Access}
use Rattle.lease_state.specs.declared.access.Share.{Share}
use Rattle.lease_state.specs.declared.status.Status.{Status}
use Rattle.lease_model.specs.messages.Replies.{Reply, Out}
use Rattle.lease_model.specs.server.Calls.{Call}
use Rattle.lease_model.specs.server.GivingUp.{Extent, is_given_up}
use Rattle.lease_model.specs.server.State.{Server}
use Rattle.lease_model.specs.worked.MessageWords.{acknowledging, break_of, created, created_plain, done_acknowledging, keyed}
use Rattle.lease_model.specs.worked.MessageWords.{keyed_durable, plain, reconnecting}
use Rattle.lease_model.specs.worked.ServerWords.{outs_along, sample_named, server_after, three_joined}
use Rattle.lease_model.specs.worked.ValueWords.{RH, RW, RWH, sample_key}

abbrev pub giving_up_calls : List Call
giving_up_calls =
    Call.Receive 1 (keyed 1 Access.ReadWrite Share.ReadWrite sample_key RWH)
    ∷ Call.GiveUp (Some sample_named) 1 Extent.All
    ∷ Call.GiveUp None 2 Extent.All
    ∷ Call.GiveUp None 1 Extent.Handles
    ∷ Call.GiveUp None 1 Extent.All
    ∷ Call.Receive 1 (acknowledging sample_key RW)
    ∷ Call.GiveUp None 1 Extent.All
    ∷ Call.Receive 2 (plain 1 Access.ReadWrite Share.ReadWrite)
    ∷ Call.Receive 1 (acknowledging sample_key nothing_cached)
    ∷ []

-- A key that is spared, or on another file, gives nothing up. Handles go by a break to RW, and all that is cached by one break to
-- nothing; a lease that is breaking isn't broken further. What waits goes on when the last break is acknowledged.
abbrev pub GivesUp : Type 0
GivesUp = outs_along three_joined giving_up_calls ≡
    (Out.Opened 1 1 ∷ Out.Sent 1 (created 1 1 sample_key RWH false false) ∷ [])
    ∷ []
    ∷ []
    ∷ (Out.Sent 1 (break_of sample_key RWH RW true) ∷ [])
    ∷ []
    ∷ (Out.Sent 1 (done_acknowledging sample_key RW) ∷ [])
    ∷ (Out.Sent 1 (break_of sample_key RW nothing_cached true) ∷ [])
    ∷ []
    ∷ (Out.Sent 1 (done_acknowledging sample_key nothing_cached) ∷ Out.Opened 1 2 ∷ Out.Sent 2 (created_plain 1 2) ∷ [])
    ∷ []

-- Handles are given up once that break is acknowledged, writes once the other is.
abbrev pub IsGivenUpOnceAcknowledged : Type 0
IsGivenUpOnceAcknowledged =
    (is_given_up (server_after three_joined (take 4 giving_up_calls)) None 1 Extent.Handles ≡ false)
    × (is_given_up (server_after three_joined (take 6 giving_up_calls)) None 1 Extent.Handles ≡ true)
    × (is_given_up (server_after three_joined (take 8 giving_up_calls)) None 1 Extent.All ≡ false)
    × (is_given_up (server_after three_joined (take 8 giving_up_calls)) (Some sample_named) 1 Extent.All ≡ true)
    × (is_given_up (server_after three_joined giving_up_calls) None 1 Extent.All ≡ true)

-- a server on which client 1 caches no writes, and its break to nothing is under way
abbrev pub reads_going : Server
reads_going = server_after three_joined
    (Call.Receive 1 (keyed 1 Access.ReadWrite Share.ReadWrite sample_key RH) ∷ Call.GiveUp None 1 Extent.All ∷ [])

-- A change needn't wait for its acknowledgment, since it has no write to send. A rename has to.
abbrev pub ReadsAreGivenUpAtOnce : Type 0
ReadsAreGivenUpAtOnce = (is_given_up reads_going None 1 Extent.All ≡ true)
    × (is_given_up reads_going None 1 Extent.Handles ≡ false)

abbrev pub giving_up_what_is_left_calls : List Call
giving_up_what_is_left_calls =
    Call.Receive 1 (keyed_durable 1 Access.ReadWrite Share.ReadWrite sample_key RWH)
    ∷ Call.Cut 1
    ∷ Call.GiveUp None 1 Extent.Handles
    ∷ Call.Join 1
    ∷ Call.Receive 1 (reconnecting 1 Access.ReadWrite Share.ReadWrite sample_key 1)
    ∷ []

-- An open that waits for its client is closed, and nobody is sent a break.
abbrev pub LeftIsGivenUp : Type 0
LeftIsGivenUp = outs_along three_joined giving_up_what_is_left_calls ≡
    (Out.Opened 1 1 ∷ Out.Sent 1 (created 1 1 sample_key RWH false true) ∷ [])
    ∷ []
    ∷ []
    ∷ []
    ∷ (Out.Sent 1 (Reply.CreateFailed 1 Status.ObjectNameNotFound) ∷ [])
    ∷ []
