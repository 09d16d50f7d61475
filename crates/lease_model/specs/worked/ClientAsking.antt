-- Worked calls of a client machine whose entry is asked for more.
use Rattle.std.specs.Prelude.{◌≡◌, true, false, List, [], ◌∷◌}
use Rattle.lease_state.specs.State.{nothing_cached}
use Rattle.lease_state.specs.declared.access.Access.{Access}
use Rattle.lease_state.specs.declared.access.Share.{Share}
use Rattle.lease_state.specs.declared.status.Status.{Status}
use Rattle.lease_model.specs.client.Calls.{ClientCall}
use Rattle.lease_model.specs.client.Commands.{Answer, Refusal, Note, Settlement}
use Rattle.lease_model.specs.messages.Replies.{Reply}
use Rattle.lease_model.specs.worked.ClientWords.{shown, steps_along, one_client, open_it, close_it, read_it, write_it, flush_it}
use Rattle.lease_model.specs.worked.MessageWords.{keyed, keyed_durable, reconnecting, read_of, write_of, close_of, created}
use Rattle.lease_model.specs.worked.ValueWords.{R, RH, RWH, at, first_key}

abbrev pub asking_calls : List ClientCall
asking_calls =
    ClientCall.Connected
    ∷ open_it Access.Read Share.ReadWrite RH false
    ∷ ClientCall.Taken (created 1 1 first_key RH false false)
    ∷ read_it
    ∷ ClientCall.Taken (Reply.ReadDone 1 (0x61 ∷ 0x62 ∷ 0x63 ∷ []))
    ∷ open_it Access.Read Share.ReadWrite RH false
    ∷ open_it Access.Write Share.Nothing RWH false
    ∷ close_it
    ∷ close_it
    ∷ open_it Access.Read Share.ReadWrite RH false
    ∷ open_it Access.Write Share.Nothing RWH false
    ∷ read_it
    ∷ write_it 0 (0x58 ∷ [])
    ∷ ClientCall.Taken (Reply.CreateFailed 1 Status.SharingViolation)
    ∷ close_it
    ∷ []

-- An entry with two handles asks for more, with the access of either and the share of both. Until it is
-- answered every Open is refused, and the last handle stays; one of two may go, and the cache is read.
abbrev pub Asking : Type 0
Asking = steps_along one_client asking_calls ≡
    shown Answer.Quiet [] []
    ∷ shown Answer.Waiting (keyed 1 Access.Read Share.ReadWrite first_key RH ∷ []) []
    ∷ shown Answer.Done [] (Note.Believes 1 RH ∷ [])
    ∷ shown Answer.Waiting (read_of 1 ∷ []) []
    ∷ shown (Answer.Bytes (0x61 ∷ 0x62 ∷ 0x63 ∷ []) false) [] []
    ∷ shown Answer.Done [] []
    ∷ shown Answer.Waiting (keyed 1 Access.ReadWrite Share.Nothing first_key RWH ∷ []) []
    ∷ shown Answer.Done [] []
    ∷ shown (Answer.Refused Refusal.Busy) [] []
    ∷ shown (Answer.Refused Refusal.Busy) [] []
    ∷ shown (Answer.Refused Refusal.Busy) [] []
    ∷ shown (Answer.Bytes (0x61 ∷ 0x62 ∷ 0x63 ∷ []) true) []
    (Note.CachedRead 1 (0x61 ∷ 0x62 ∷ 0x63 ∷ []) ∷ [])
    ∷ shown (Answer.Refused Refusal.Denied) [] []
    ∷ shown (Answer.Failed Status.SharingViolation) [] []
    ∷ shown Answer.Done [] []
    ∷ []

abbrev pub asking_reads_calls : List ClientCall
asking_reads_calls =
    ClientCall.Connected
    ∷ open_it Access.Read Share.ReadWrite nothing_cached false
    ∷ ClientCall.Taken (created 1 1 first_key nothing_cached false false)
    ∷ open_it Access.ReadWrite Share.ReadWrite RWH false
    ∷ read_it
    ∷ open_it Access.Read Share.ReadWrite nothing_cached false
    ∷ close_it
    ∷ ClientCall.Taken (created 1 2 first_key RWH false false)
    ∷ write_it 0 (0x58 ∷ [])
    ∷ flush_it
    ∷ []

-- A Read that would be sent is refused as long as the entry is asking, and so are its own Open and its
-- last Close. With its new open the entry closes the old one, and sends its writes under the new FileId.
abbrev pub AskingReads : Type 0
AskingReads = steps_along one_client asking_reads_calls ≡
    shown Answer.Quiet [] []
    ∷ shown Answer.Waiting (keyed 1 Access.Read Share.ReadWrite first_key nothing_cached ∷ []) []
    ∷ shown Answer.Done [] []
    ∷ shown Answer.Waiting (keyed 1 Access.ReadWrite Share.ReadWrite first_key RWH ∷ []) []
    ∷ shown (Answer.Refused Refusal.Busy) [] []
    ∷ shown (Answer.Refused Refusal.Busy) [] []
    ∷ shown (Answer.Refused Refusal.Busy) [] []
    ∷ shown Answer.Done (close_of 1 ∷ []) (Note.Believes 1 RWH ∷ [])
    ∷ shown Answer.Done [] (Note.Wrote 1 1 (at 0 (0x58 ∷ [])) true ∷ [])
    ∷ shown Answer.Waiting (write_of 2 1 (at 0 (0x58 ∷ [])) ∷ []) []
    ∷ []

abbrev pub asking_writer_calls : List ClientCall
asking_writer_calls =
    ClientCall.Connected
    ∷ open_it Access.Write Share.ReadWrite nothing_cached false
    ∷ ClientCall.Taken (created 1 1 first_key nothing_cached false false)
    ∷ open_it Access.ReadWrite Share.ReadWrite RWH true
    ∷ read_it
    ∷ write_it 0 (0x58 ∷ [])
    ∷ ClientCall.Taken (created 1 2 first_key RWH false true)
    ∷ []

-- Denied goes before Busy. A write goes on under the old FileId.
abbrev pub AskingWriter : Type 0
AskingWriter = steps_along one_client asking_writer_calls ≡
    shown Answer.Quiet [] []
    ∷ shown Answer.Waiting (keyed 1 Access.Write Share.ReadWrite first_key nothing_cached ∷ []) []
    ∷ shown Answer.Done [] []
    ∷ shown Answer.Waiting (keyed_durable 1 Access.ReadWrite Share.ReadWrite first_key RWH ∷ []) []
    ∷ shown (Answer.Refused Refusal.Denied) [] []
    ∷ shown Answer.Waiting (write_of 1 1 (at 0 (0x58 ∷ [])) ∷ [])
    (Note.Wrote 1 1 (at 0 (0x58 ∷ [])) false ∷ [])
    ∷ shown Answer.Done (close_of 1 ∷ []) (Note.Believes 1 RWH ∷ [])
    ∷ []

abbrev pub asking_refused_calls : List ClientCall
asking_refused_calls =
    ClientCall.Connected
    ∷ open_it Access.ReadWrite Share.Nothing RWH false
    ∷ ClientCall.Taken (created 1 1 first_key RWH false false)
    ∷ open_it Access.Read Share.Read RWH false
    ∷ ClientCall.Taken (Reply.CreateFailed 1 Status.SharingViolation)
    ∷ write_it 0 (0x58 ∷ [])
    ∷ open_it Access.ReadWrite Share.Nothing RH false
    ∷ []

-- An entry that shares nothing asks to share reads: what it asks for shares nothing, and meets its own
-- open. It goes on as it was, and what it believes stays.
abbrev pub AskingRefusedForSharing : Type 0
AskingRefusedForSharing = steps_along one_client asking_refused_calls ≡
    shown Answer.Quiet [] []
    ∷ shown Answer.Waiting (keyed 1 Access.ReadWrite Share.Nothing first_key RWH ∷ []) []
    ∷ shown Answer.Done [] (Note.Believes 1 RWH ∷ [])
    ∷ shown Answer.Waiting (keyed 1 Access.ReadWrite Share.Nothing first_key RWH ∷ []) []
    ∷ shown (Answer.Failed Status.SharingViolation) [] []
    ∷ shown Answer.Done [] (Note.Wrote 1 1 (at 0 (0x58 ∷ [])) true ∷ [])
    ∷ shown Answer.Done [] []
    ∷ []

abbrev pub parked_asks_calls : List ClientCall
parked_asks_calls =
    ClientCall.Connected
    ∷ open_it Access.ReadWrite Share.ReadWrite RWH false
    ∷ ClientCall.Taken (created 1 1 first_key RWH false false)
    ∷ write_it 0 (0x58 ∷ [])
    ∷ close_it
    ∷ open_it Access.Read Share.Nothing R true
    ∷ read_it
    ∷ []

-- A parked entry that is asked for more sends its writes, gives its open up and opens the file anew, on the
-- command's own terms.
abbrev pub ParkedAsks : Type 0
ParkedAsks = steps_along one_client parked_asks_calls ≡
    shown Answer.Quiet [] []
    ∷ shown Answer.Waiting (keyed 1 Access.ReadWrite Share.ReadWrite first_key RWH ∷ []) []
    ∷ shown Answer.Done [] (Note.Believes 1 RWH ∷ [])
    ∷ shown Answer.Done [] (Note.Wrote 1 1 (at 0 (0x58 ∷ [])) true ∷ [])
    ∷ shown Answer.Done [] []
    ∷ shown Answer.Waiting (write_of 1 1 (at 0 (0x58 ∷ [])) ∷ close_of 1
    ∷ keyed_durable 1 Access.Read Share.Nothing first_key R ∷ []) (Note.Believes 1 nothing_cached ∷ [])
    ∷ shown (Answer.Refused Refusal.Busy) [] []
    ∷ []

abbrev pub closed_while_asking_calls : List ClientCall
closed_while_asking_calls =
    ClientCall.Connected
    ∷ open_it Access.ReadWrite Share.ReadWrite RWH false
    ∷ ClientCall.Taken (created 1 1 first_key RWH false false)
    ∷ write_it 0 (0x58 ∷ [])
    ∷ read_it
    ∷ open_it Access.Read Share.Read RWH false
    ∷ ClientCall.Taken (Reply.Closed 1)
    ∷ ClientCall.Taken (Reply.ReadFailed 1 Status.FileClosed)
    ∷ open_it Access.ReadWrite Share.Read RWH false
    ∷ ClientCall.Taken (created 1 2 first_key RWH false false)
    ∷ open_it Access.ReadWrite Share.Read RWH false
    ∷ []

-- FILE_CLOSED for the entry's own FileId while it is asking: its buffered write has failed, and it is
-- opening, with the access and the share that it asked for.
abbrev pub ClosedWhileAsking : Type 0
ClosedWhileAsking = steps_along one_client closed_while_asking_calls ≡
    shown Answer.Quiet [] []
    ∷ shown Answer.Waiting (keyed 1 Access.ReadWrite Share.ReadWrite first_key RWH ∷ []) []
    ∷ shown Answer.Done [] (Note.Believes 1 RWH ∷ [])
    ∷ shown Answer.Done [] (Note.Wrote 1 1 (at 0 (0x58 ∷ [])) true ∷ [])
    ∷ shown Answer.Waiting (read_of 1 ∷ []) []
    ∷ shown Answer.Waiting (keyed 1 Access.ReadWrite Share.Read first_key RWH ∷ []) []
    ∷ shown Answer.Quiet [] []
    ∷ shown (Answer.Failed Status.FileClosed) []
    (Note.Settled 1 Settlement.Failed ∷ Note.Believes 1 nothing_cached ∷ [])
    ∷ shown (Answer.Refused Refusal.Busy) [] []
    ∷ shown Answer.Done [] (Note.Believes 1 RWH ∷ [])
    ∷ shown Answer.Done [] []
    ∷ []

abbrev pub noticed_while_asking_calls : List ClientCall
noticed_while_asking_calls =
    ClientCall.Connected
    ∷ open_it Access.ReadWrite Share.ReadWrite RWH true
    ∷ ClientCall.Taken (created 1 1 first_key RWH false true)
    ∷ write_it 0 (0x58 ∷ [])
    ∷ open_it Access.Read Share.Read RWH false
    ∷ ClientCall.Noticed
    ∷ ClientCall.Connected
    ∷ ClientCall.Taken (created 1 1 first_key RWH false false)
    ∷ flush_it
    ∷ []

-- A lost connection makes an entry forget that it was asking: its own open is connected again, on the terms
-- that it had.
abbrev pub NoticedWhileAsking : Type 0
NoticedWhileAsking = steps_along one_client noticed_while_asking_calls ≡
    shown Answer.Quiet [] []
    ∷ shown Answer.Waiting (keyed_durable 1 Access.ReadWrite Share.ReadWrite first_key RWH ∷ []) []
    ∷ shown Answer.Done [] (Note.Believes 1 RWH ∷ [])
    ∷ shown Answer.Done [] (Note.Wrote 1 1 (at 0 (0x58 ∷ [])) true ∷ [])
    ∷ shown Answer.Waiting (keyed_durable 1 Access.ReadWrite Share.Read first_key RWH ∷ []) []
    ∷ shown Answer.Quiet [] (Note.Believes 1 nothing_cached ∷ [])
    ∷ shown Answer.Quiet (reconnecting 1 Access.ReadWrite Share.ReadWrite first_key 1 ∷ []) []
    ∷ shown Answer.Done [] (Note.Believes 1 RWH ∷ [])
    ∷ shown Answer.Waiting (write_of 1 1 (at 0 (0x58 ∷ [])) ∷ []) []
    ∷ []

abbrev pub through_and_buffered_calls : List ClientCall
through_and_buffered_calls =
    ClientCall.Connected
    ∷ open_it Access.Write Share.ReadWrite RH true
    ∷ ClientCall.Taken (created 1 1 first_key RH false true)
    ∷ open_it Access.Read Share.ReadWrite RWH false
    ∷ write_it 0 (0x58 ∷ [])
    ∷ ClientCall.Taken (created 1 2 first_key RWH false true)
    ∷ write_it 1 (0x59 ∷ [])
    ∷ ClientCall.Noticed
    ∷ ClientCall.Connected
    ∷ ClientCall.Taken (created 1 2 first_key RWH false false)
    ∷ flush_it
    ∷ []

-- A write that is sent while the entry is asking, and one that is buffered once it has W. The connection is
-- lost before either is answered: the first is settled as unknown, the second is kept and sent later.
abbrev pub ThroughAndBuffered : Type 0
ThroughAndBuffered = steps_along one_client through_and_buffered_calls ≡
    shown Answer.Quiet [] []
    ∷ shown Answer.Waiting (keyed_durable 1 Access.Write Share.ReadWrite first_key RH ∷ []) []
    ∷ shown Answer.Done [] (Note.Believes 1 RH ∷ [])
    ∷ shown Answer.Waiting (keyed_durable 1 Access.ReadWrite Share.ReadWrite first_key RWH ∷ []) []
    ∷ shown Answer.Waiting (write_of 1 1 (at 0 (0x58 ∷ [])) ∷ [])
    (Note.Wrote 1 1 (at 0 (0x58 ∷ [])) false ∷ [])
    ∷ shown Answer.Done (close_of 1 ∷ []) (Note.Believes 1 RWH ∷ [])
    ∷ shown Answer.Done [] (Note.Wrote 1 2 (at 1 (0x59 ∷ [])) true ∷ [])
    ∷ shown Answer.Quiet [] (Note.Settled 1 Settlement.Unknown ∷ Note.Believes 1 nothing_cached ∷ [])
    ∷ shown Answer.Quiet (reconnecting 1 Access.ReadWrite Share.ReadWrite first_key 2 ∷ []) []
    ∷ shown Answer.Done [] (Note.Believes 1 RWH ∷ [])
    ∷ shown Answer.Waiting (write_of 2 2 (at 1 (0x59 ∷ [])) ∷ []) []
    ∷ []
