-- Worked calls of a client machine: which commands are refused, and which refusal goes first.
use Rattle.std.specs.Prelude.{◌≡◌, ◌+◌, ℕ, true, false, None, Some, List, [], ◌∷◌}
use Rattle.lease_state.specs.State.{nothing_cached}
use Rattle.lease_state.specs.declared.access.Access.{Access}
use Rattle.lease_state.specs.declared.access.Share.{Share}
use Rattle.lease_state.specs.declared.content.TheConstants.{FILE_LIMIT}
use Rattle.lease_model.specs.client.Calls.{ClientCall}
use Rattle.lease_model.specs.client.Commands.{Command, Answer, Refusal, Note, Settlement}
use Rattle.lease_model.specs.client.State.{Client, LiveEntry, Asked, live_entry}
use Rattle.lease_model.specs.messages.Replies.{Reply}
use Rattle.lease_model.specs.worked.ClientWords.{shown, steps_along, client_after, one_client, open_it, close_it, read_it}
use Rattle.lease_model.specs.worked.ClientWords.{write_it, flush_it}
use Rattle.lease_model.specs.worked.MessageWords.{keyed, keyed_durable, reconnecting, read_of, write_of, close_of, created}
use Rattle.lease_model.specs.values.Limits.{count_limit, last_write_number}
use Rattle.lease_model.specs.values.Tables.{put}
use Rattle.lease_model.specs.worked.ValueWords.{R, RH, RWH, at, first_key}

abbrev pub refusals_calls : List ClientCall
refusals_calls =
    open_it Access.Read Share.ReadWrite R false
    ∷ read_it
    ∷ ClientCall.Connected
    ∷ read_it
    ∷ open_it Access.Read Share.ReadWrite RH true
    ∷ open_it Access.Read Share.ReadWrite RH false
    ∷ read_it
    ∷ ClientCall.Taken (created 1 1 first_key RH false true)
    ∷ write_it 0 (0x58 ∷ [])
    ∷ write_it FILE_LIMIT (0x58 ∷ [])
    ∷ read_it
    ∷ close_it
    ∷ ClientCall.Taken (Reply.ReadDone 1 (0x61 ∷ 0x62 ∷ 0x63 ∷ []))
    ∷ close_it
    ∷ read_it
    ∷ write_it 0 (0x58 ∷ [])
    ∷ ClientCall.Noticed
    ∷ open_it Access.Read Share.ReadWrite RH false
    ∷ close_it
    ∷ ClientCall.Connected
    ∷ open_it Access.Read Share.ReadWrite RH false
    ∷ close_it
    ∷ []

-- What is refused in each state: before a connect, closed, opening, live without write access (that goes
-- before the limit), with a Read unanswered, parked, offline and reconnecting.
abbrev pub Refusals : Type 0
Refusals = steps_along one_client refusals_calls ≡
    shown (Answer.Refused Refusal.Offline) [] []
    ∷ shown (Answer.Refused Refusal.NotOpen) [] []
    ∷ shown Answer.Quiet [] []
    ∷ shown (Answer.Refused Refusal.NotOpen) [] []
    ∷ shown Answer.Waiting (keyed_durable 1 Access.Read Share.ReadWrite first_key RH ∷ []) []
    ∷ shown (Answer.Refused Refusal.Busy) [] []
    ∷ shown (Answer.Refused Refusal.Busy) [] []
    ∷ shown Answer.Done [] (Note.Believes 1 RH ∷ [])
    ∷ shown (Answer.Refused Refusal.Denied) [] []
    ∷ shown (Answer.Refused Refusal.Denied) [] []
    ∷ shown Answer.Waiting (read_of 1 ∷ []) []
    ∷ shown (Answer.Refused Refusal.Busy) [] []
    ∷ shown (Answer.Bytes (0x61 ∷ 0x62 ∷ 0x63 ∷ []) false) [] []
    ∷ shown Answer.Done [] []
    ∷ shown (Answer.Refused Refusal.NotOpen) [] []
    ∷ shown (Answer.Refused Refusal.NotOpen) [] []
    ∷ shown Answer.Quiet [] (Note.Believes 1 nothing_cached ∷ [])
    ∷ shown (Answer.Refused Refusal.Offline) [] []
    ∷ shown (Answer.Refused Refusal.Offline) [] []
    ∷ shown Answer.Quiet (reconnecting 1 Access.Read Share.ReadWrite first_key 1 ∷ []) []
    ∷ shown (Answer.Refused Refusal.Busy) [] []
    ∷ shown (Answer.Refused Refusal.Busy) [] []
    ∷ []

abbrev pub writer_refusals_calls : List ClientCall
writer_refusals_calls =
    ClientCall.Connected
    ∷ open_it Access.Write Share.ReadWrite nothing_cached false
    ∷ ClientCall.Taken (created 1 1 first_key nothing_cached false false)
    ∷ read_it
    ∷ write_it FILE_LIMIT (0x58 ∷ [])
    ∷ write_it (FILE_LIMIT + 1) []
    ∷ write_it 0 (0x58 ∷ [])
    ∷ close_it
    ∷ ClientCall.Taken (Reply.WriteDone 1 1)
    ∷ close_it
    ∷ close_it
    ∷ []

-- Without read access a Read is denied; a write that ends past the limit is too long, also one of no
-- bytes; the last handle stays while a write is unanswered.
abbrev pub WriterRefusals : Type 0
WriterRefusals = steps_along one_client writer_refusals_calls ≡
    shown Answer.Quiet [] []
    ∷ shown Answer.Waiting (keyed 1 Access.Write Share.ReadWrite first_key nothing_cached ∷ []) []
    ∷ shown Answer.Done [] []
    ∷ shown (Answer.Refused Refusal.Denied) [] []
    ∷ shown (Answer.Refused Refusal.TooLong) [] []
    ∷ shown (Answer.Refused Refusal.TooLong) [] []
    ∷ shown Answer.Waiting (write_of 1 1 (at 0 (0x58 ∷ [])) ∷ [])
    (Note.Wrote 1 1 (at 0 (0x58 ∷ [])) false ∷ [])
    ∷ shown (Answer.Refused Refusal.Busy) [] []
    ∷ shown Answer.Quiet [] (Note.Settled 1 Settlement.Done ∷ [])
    ∷ shown Answer.Done (close_of 1 ∷ []) []
    ∷ shown (Answer.Refused Refusal.NotOpen) [] []
    ∷ []

abbrev pub parked_refusals_calls : List ClientCall
parked_refusals_calls =
    ClientCall.Connected
    ∷ open_it Access.ReadWrite Share.ReadWrite RWH false
    ∷ ClientCall.Taken (created 1 1 first_key RWH false false)
    ∷ write_it 0 (0x58 ∷ [])
    ∷ close_it
    ∷ flush_it
    ∷ close_it
    ∷ read_it
    ∷ write_it 0 (0x59 ∷ [])
    ∷ open_it Access.ReadWrite Share.ReadWrite R false
    ∷ flush_it
    ∷ []

-- A parked entry with a buffered write accepts an Open alone: until then the write isn't sent, and nothing is
-- read, written or closed.
abbrev pub ParkedRefusals : Type 0
ParkedRefusals = steps_along one_client parked_refusals_calls ≡
    shown Answer.Quiet [] []
    ∷ shown Answer.Waiting (keyed 1 Access.ReadWrite Share.ReadWrite first_key RWH ∷ []) []
    ∷ shown Answer.Done [] (Note.Believes 1 RWH ∷ [])
    ∷ shown Answer.Done [] (Note.Wrote 1 1 (at 0 (0x58 ∷ [])) true ∷ [])
    ∷ shown Answer.Done [] []
    ∷ shown (Answer.Refused Refusal.NotOpen) [] []
    ∷ shown (Answer.Refused Refusal.NotOpen) [] []
    ∷ shown (Answer.Refused Refusal.NotOpen) [] []
    ∷ shown (Answer.Refused Refusal.NotOpen) [] []
    ∷ shown Answer.Done [] []
    ∷ shown Answer.Waiting (write_of 1 1 (at 0 (0x58 ∷ [])) ∷ []) []
    ∷ []

-- A file that the client doesn't have isn't open.
abbrev pub UnknownFile : Type 0
UnknownFile = steps_along (client_after one_client (ClientCall.Connected ∷ []))
    (ClientCall.Commanded (Command.Read 2) ∷ ClientCall.Commanded (Command.Flush 0) ∷ []) ≡
    shown (Answer.Refused Refusal.NotOpen) [] []
    ∷ shown (Answer.Refused Refusal.NotOpen) [] []
    ∷ []

-- an entry that is open for this access with so many handles and unanswered Reads
abbrev pub counted : Access → ℕ → ℕ → LiveEntry
counted access handles reads = record {
  file_id = 1;
  access = access;
  share = Share.ReadWrite;
  durable = false;
  belief = nothing_cached;
  handles = handles;
  reads = reads;
  base = None;
  unsent = [];
  asking = None;
}

abbrev pub asked_more : Asked
asked_more = record { access = Access.ReadWrite; share = Share.ReadWrite }

-- a client that has this entry and has given so many numbers to writes
abbrev pub client_with : LiveEntry → ℕ → Client
client_with live numbers = record one_client {
  is_online = true;
  last_number = numbers;
  entries = put one_client.entries 1 (live_entry live []);
}

-- Handles, unanswered Reads and numbers of writes can be used up, which is told last: after Denied, after
-- TooLong, and while the entry is asking after Busy.
abbrev pub UsedUp : Type 0
UsedUp =
    (steps_along (client_with (counted Access.Read count_limit count_limit) 0)
    (open_it Access.Read Share.ReadWrite R false ∷ open_it Access.ReadWrite Share.Read R false ∷ read_it ∷ []) ≡
    shown (Answer.Refused Refusal.UsedUp) [] []
    ∷ shown (Answer.Refused Refusal.UsedUp) [] []
    ∷ shown (Answer.Refused Refusal.UsedUp) [] []
    ∷ [])
    × (steps_along (client_with (counted Access.Write 1 count_limit) last_write_number)
    (read_it ∷ write_it FILE_LIMIT (0x58 ∷ []) ∷ write_it 0 (0x58 ∷ []) ∷ []) ≡
    shown (Answer.Refused Refusal.Denied) [] []
    ∷ shown (Answer.Refused Refusal.TooLong) [] []
    ∷ shown (Answer.Refused Refusal.UsedUp) [] []
    ∷ [])
    × (steps_along
    (client_with (record (counted Access.Read count_limit count_limit) { asking = Some asked_more }) last_write_number)
    (open_it Access.Read Share.ReadWrite R false ∷ read_it ∷ write_it 0 (0x58 ∷ []) ∷ []) ≡
    shown (Answer.Refused Refusal.Busy) [] []
    ∷ shown (Answer.Refused Refusal.Busy) [] []
    ∷ shown (Answer.Refused Refusal.Denied) [] []
    ∷ [])
