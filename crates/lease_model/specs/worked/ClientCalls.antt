-- Worked calls of a client machine: one file from its open to its break, and a client without a connection.
use Rattle.std.specs.Prelude.{◌≡◌, ℕ, true, false, List, [], ◌∷◌}
use Rattle.lease_state.specs.declared.access.Access.{Access}
use Rattle.lease_state.specs.declared.access.Share.{Share}
use Rattle.lease_model.specs.client.Calls.{ClientCall}
use Rattle.lease_model.specs.client.Commands.{Answer, Refusal, Note, Settlement}
use Rattle.lease_model.specs.messages.Replies.{Reply}
use Rattle.lease_model.specs.worked.ClientWords.{shown, steps_along, one_client, open_it, read_it, write_it}
use Rattle.lease_model.specs.worked.MessageWords.{keyed, read_of, write_of, acknowledging, created, break_of}
use Rattle.lease_model.specs.worked.ValueWords.{RH, RWH, at, first_key}

abbrev pub open_shared : ClientCall
open_shared = open_it Access.ReadWrite Share.ReadWrite RWH false

abbrev pub first_calls : List ClientCall
first_calls =
    open_shared
    ∷ ClientCall.Connected
    ∷ open_shared
    ∷ ClientCall.Taken (created 1 1 first_key RWH false false)
    ∷ write_it 0 (0x58 ∷ [])
    ∷ write_it 4 (0x59 ∷ [])
    ∷ read_it
    ∷ ClientCall.Taken (Reply.ReadDone 1 (0x61 ∷ 0x62 ∷ 0x63 ∷ []))
    ∷ read_it
    ∷ ClientCall.Taken (break_of first_key RWH RH true)
    ∷ ClientCall.Taken (Reply.WriteDone 1 1)
    ∷ []

abbrev pub own_bytes : List ℕ
own_bytes = 0x58 ∷ 0x62 ∷ 0x63 ∷ 0x00 ∷ 0x59 ∷ []

-- Open, buffered writes, a read that is sent and one from the cache, and a break: the writes are
-- sent before the acknowledgment.
abbrev pub ClientSteps : Type 0
ClientSteps = steps_along one_client first_calls ≡
    shown (Answer.Refused Refusal.Offline) [] []
    ∷ shown Answer.Quiet [] []
    ∷ shown Answer.Waiting (keyed 1 Access.ReadWrite Share.ReadWrite first_key RWH ∷ []) []
    ∷ shown Answer.Done [] (Note.Believes 1 RWH ∷ [])
    ∷ shown Answer.Done [] (Note.Wrote 1 1 (at 0 (0x58 ∷ [])) true ∷ [])
    ∷ shown Answer.Done [] (Note.Wrote 1 2 (at 4 (0x59 ∷ [])) true ∷ [])
    ∷ shown Answer.Waiting (read_of 1 ∷ []) []
    ∷ shown (Answer.Bytes own_bytes false) [] []
    ∷ shown (Answer.Bytes own_bytes true) [] (Note.CachedRead 1 own_bytes ∷ [])
    ∷ shown Answer.Quiet
    (write_of 1 1 (at 0 (0x58 ∷ [])) ∷ write_of 1 2 (at 4 (0x59 ∷ [])) ∷ acknowledging first_key RH ∷ [])
    (Note.Believes 1 RH ∷ [])
    ∷ shown Answer.Quiet [] (Note.Settled 1 Settlement.Done ∷ [])
    ∷ []

-- A client that was never connected: an Open is refused as Offline, a Read as NotOpen.
abbrev pub NeverConnected : Type 0
NeverConnected = steps_along one_client (open_shared ∷ read_it ∷ []) ≡
    shown (Answer.Refused Refusal.Offline) [] [] ∷ shown (Answer.Refused Refusal.NotOpen) [] [] ∷ []
