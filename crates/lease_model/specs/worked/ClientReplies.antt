-- Worked calls of a client machine: what replies and breaks do to its entry.
use Rattle.std.specs.Prelude.{◌≡◌, ◌<◌, ℕ, Bool, true, false, Option, None, Some, List, [], ◌∷◌, length}
use Rattle.lease_state.specs.State.{State, nothing_cached}
use Rattle.lease_state.specs.declared.access.Access.{Access}
use Rattle.lease_state.specs.declared.access.Share.{Share}
use Rattle.lease_state.specs.declared.content.TheConstants.{FILE_LIMIT}
use Rattle.lease_state.specs.declared.status.Status.{Status}
use Rattle.lease_model.specs.client.Calls.{ClientCall}
use Rattle.lease_model.specs.client.Commands.{Answer, Note, Settlement}
use Rattle.lease_model.specs.client.State.{Client, belief}
use Rattle.lease_model.specs.client.Step.{quiet_step}
use Rattle.lease_model.specs.client.Taken.{read_answered}
use Rattle.lease_model.specs.messages.Replies.{Reply, LeaseGiven}
use Rattle.lease_model.specs.worked.ClientWords.{Shown, shown, steps_along, client_after, one_client, open_it, read_it, write_it}
use Rattle.lease_model.specs.worked.ClientWords.{flush_it}
use Rattle.lease_model.specs.worked.MessageWords.{keyed, read_of, write_of, close_of, acknowledging, created, break_of}
use Rattle.lease_model.specs.worked.ValueWords.{R, RH, RWH, at, first_key, sample_key}

abbrev pub patched_base_calls : List ClientCall
patched_base_calls =
    ClientCall.Connected
    ∷ open_it Access.ReadWrite Share.ReadWrite RH false
    ∷ ClientCall.Taken (created 1 1 first_key RH false false)
    ∷ read_it
    ∷ ClientCall.Taken (Reply.ReadDone 1 (0x61 ∷ 0x62 ∷ 0x63 ∷ []))
    ∷ write_it 1 (0x59 ∷ [])
    ∷ read_it
    ∷ ClientCall.Taken (Reply.WriteDone 1 1)
    ∷ read_it
    ∷ []

-- A write that went through is seen in the cache while it is unanswered, and stays there once it is done.
abbrev pub PatchedBase : Type 0
PatchedBase = steps_along one_client patched_base_calls ≡
    shown Answer.Quiet [] []
    ∷ shown Answer.Waiting (keyed 1 Access.ReadWrite Share.ReadWrite first_key RH ∷ []) []
    ∷ shown Answer.Done [] (Note.Believes 1 RH ∷ [])
    ∷ shown Answer.Waiting (read_of 1 ∷ []) []
    ∷ shown (Answer.Bytes (0x61 ∷ 0x62 ∷ 0x63 ∷ []) false) [] []
    ∷ shown Answer.Waiting (write_of 1 1 (at 1 (0x59 ∷ [])) ∷ [])
    (Note.Wrote 1 1 (at 1 (0x59 ∷ [])) false ∷ [])
    ∷ shown (Answer.Bytes (0x61 ∷ 0x59 ∷ 0x63 ∷ []) true) []
    (Note.CachedRead 1 (0x61 ∷ 0x59 ∷ 0x63 ∷ []) ∷ [])
    ∷ shown Answer.Quiet [] (Note.Settled 1 Settlement.Done ∷ [])
    ∷ shown (Answer.Bytes (0x61 ∷ 0x59 ∷ 0x63 ∷ []) true) []
    (Note.CachedRead 1 (0x61 ∷ 0x59 ∷ 0x63 ∷ []) ∷ [])
    ∷ []

abbrev pub old_file_id_calls : List ClientCall
old_file_id_calls =
    ClientCall.Connected
    ∷ open_it Access.ReadWrite Share.ReadWrite R false
    ∷ ClientCall.Taken (created 1 1 first_key R false false)
    ∷ open_it Access.ReadWrite Share.Nothing R false
    ∷ write_it 0 (0x58 ∷ [])
    ∷ ClientCall.Taken (Reply.Closed 1)
    ∷ ClientCall.Taken (created 1 2 first_key R false false)
    ∷ ClientCall.Taken (Reply.WriteFailed 1 1 Status.FileClosed)
    ∷ read_it
    ∷ []

-- A write goes out under the FileId that the entry has, and meets FILE_CLOSED once the entry has another:
-- the write has failed, and the entry stays open.
abbrev pub OldFileIdClosed : Type 0
OldFileIdClosed = steps_along one_client old_file_id_calls ≡
    shown Answer.Quiet [] []
    ∷ shown Answer.Waiting (keyed 1 Access.ReadWrite Share.ReadWrite first_key R ∷ []) []
    ∷ shown Answer.Done [] (Note.Believes 1 R ∷ [])
    ∷ shown Answer.Waiting (keyed 1 Access.ReadWrite Share.Nothing first_key R ∷ []) []
    ∷ shown Answer.Waiting (write_of 1 1 (at 0 (0x58 ∷ [])) ∷ [])
    (Note.Wrote 1 1 (at 0 (0x58 ∷ [])) false ∷ [])
    ∷ shown Answer.Quiet [] []
    ∷ shown Answer.Done (close_of 1 ∷ []) []
    ∷ shown (Answer.Failed Status.FileClosed) [] (Note.Settled 1 Settlement.Failed ∷ [])
    ∷ shown Answer.Waiting (read_of 2 ∷ []) []
    ∷ []

-- the reply to a create with this lease
abbrev pub created_with : ℕ → Option LeaseGiven → ClientCall
created_with file_id lease =
    ClientCall.Taken (Reply.Created 1 file_id (Some (record { lease = lease; durable = false })))

abbrev pub lease_under : List ℕ → Bool → Option LeaseGiven
lease_under key in_progress = Some (record { key = key; state = RWH; in_progress = in_progress })

abbrev pub believed_after : Option LeaseGiven → State
believed_after lease = belief
    (client_after one_client
    (ClientCall.Connected ∷ open_it Access.ReadWrite Share.ReadWrite RWH false ∷ created_with 1 lease ∷ [])) 1

-- A new entry believes the state that it was given, but nothing without a lease, under another key, or while
-- a break is in progress.
abbrev pub FirstBeliefs : Type 0
FirstBeliefs =
    believed_after (lease_under first_key false) ∷ believed_after None
    ∷ believed_after (lease_under sample_key false) ∷ believed_after (lease_under first_key true) ∷ [] ≡
    RWH ∷ nothing_cached ∷ nothing_cached ∷ nothing_cached ∷ []

-- a client that believes RWH, has a buffered write and asks for more
abbrev pub asked_client : Client
asked_client = client_after one_client
    (ClientCall.Connected
    ∷ open_it Access.ReadWrite Share.ReadWrite RWH false
    ∷ created_with 1 (lease_under first_key false)
    ∷ write_it 0 (0x58 ∷ [])
    ∷ open_it Access.Read Share.Read RWH false
    ∷ [])

abbrev pub after_asking : Option LeaseGiven → List Shown
after_asking lease = steps_along asked_client (created_with 2 lease ∷ flush_it ∷ [])

-- An entry that asked for more believes the state that it was given, and what it believed before while a
-- break is in progress, whatever the key. Without a lease or under another key it believes nothing, and its
-- buffered write has failed.
abbrev pub LaterBeliefs : Type 0
LaterBeliefs =
    after_asking (lease_under first_key true) ∷ after_asking (lease_under sample_key true)
    ∷ after_asking None ∷ after_asking (lease_under sample_key false) ∷ [] ≡
    (shown Answer.Done (close_of 1 ∷ []) []
    ∷ shown Answer.Waiting (write_of 2 1 (at 0 (0x58 ∷ [])) ∷ []) [] ∷ [])
    ∷ (shown Answer.Done (close_of 1 ∷ []) []
    ∷ shown Answer.Waiting (write_of 2 1 (at 0 (0x58 ∷ [])) ∷ []) [] ∷ [])
    ∷ (shown Answer.Done (close_of 1 ∷ []) (Note.Settled 1 Settlement.Failed ∷ Note.Believes 1 nothing_cached ∷ [])
    ∷ shown Answer.Done [] [] ∷ [])
    ∷ (shown Answer.Done (close_of 1 ∷ []) (Note.Settled 1 Settlement.Failed ∷ Note.Believes 1 nothing_cached ∷ [])
    ∷ shown Answer.Done [] [] ∷ [])
    ∷ []

-- A break is answered by a live entry alone, under its own key, and only where that is asked.
abbrev pub BreaksAnswered : Type 0
BreaksAnswered = steps_along one_client
    (ClientCall.Connected
    ∷ ClientCall.Taken (break_of first_key RWH RH true)
    ∷ open_it Access.ReadWrite Share.ReadWrite RWH false
    ∷ ClientCall.Taken (break_of first_key RWH RH true)
    ∷ created_with 1 (lease_under first_key false)
    ∷ ClientCall.Taken (break_of sample_key RWH RH true)
    ∷ ClientCall.Taken (Reply.Break None)
    ∷ ClientCall.Taken (break_of first_key RWH R true)
    ∷ ClientCall.Taken (break_of first_key R nothing_cached false)
    ∷ []) ≡
    shown Answer.Quiet [] []
    ∷ shown Answer.Quiet [] []
    ∷ shown Answer.Waiting (keyed 1 Access.ReadWrite Share.ReadWrite first_key RWH ∷ []) []
    ∷ shown Answer.Quiet [] []
    ∷ shown Answer.Done [] (Note.Believes 1 RWH ∷ [])
    ∷ shown Answer.Quiet [] []
    ∷ shown Answer.Quiet [] []
    ∷ shown Answer.Quiet (acknowledging first_key R ∷ []) (Note.Believes 1 R ∷ [])
    ∷ shown Answer.Quiet [] (Note.Believes 1 nothing_cached ∷ [])
    ∷ []

-- A reply to a Read that has more bytes than a file may have is passed over.
abbrev pub LongReads : Type 0
LongReads = (client : Client) (file_id : ℕ) (bytes : List ℕ)
    → FILE_LIMIT < length bytes → read_answered client file_id bytes ≡ quiet_step client
