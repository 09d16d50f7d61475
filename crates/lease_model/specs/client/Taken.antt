-- What a client does with a message of the server.
use Rattle.std.specs.Prelude.{ℕ, zero, suc, ◌+◌, Bool, true, false, Option, Some, None, List, [], ◌∷◌, ◌++◌, length}
use Rattle.std.specs.Prelude.{if◌then◌else◌, ◌==◌, ◌&&◌, ◌||◌, not, nat_le, bytes_eq, find}
use Rattle.std.specs.List.{list_any}
use Rattle.lease_state.specs.State.{State, nothing_cached}
use Rattle.lease_state.specs.declared.access.Access.{Access}
use Rattle.lease_state.specs.declared.access.Share.{Share}
use Rattle.lease_state.specs.declared.status.Status.{Status}
use Rattle.lease_model.specs.client.State.{Client, Entry, LiveEntry, Asked, Parted, Pending, Phase, closed_entry, live_entry}
use Rattle.lease_model.specs.client.State.{lease_key, view}
use Rattle.lease_model.specs.client.Step.{Step, Turn, turned, quiet_step, quiet_turn, write_requests, settled_as}
use Rattle.lease_model.specs.client.Commands.{Answer, Note, Settlement}
use Rattle.lease_state.specs.Content.{patch as patched}
use Rattle.lease_model.specs.values.LeaseStates.{meet}
use Rattle.lease_state.specs.declared.content.TheConstants.{FILE_LIMIT}
use Rattle.lease_model.specs.values.Lists.{numbers_to}
use Rattle.lease_model.specs.messages.Replies.{Reply, BreakNotice, CreateAnswer, LeaseGiven}
use Rattle.lease_model.specs.messages.Requests.{FileRequest, Request}

-- the first file, in number order, of which this is so
abbrev pub file_where : Client → (ℕ → Bool) → Option ℕ
file_where client test = find test (numbers_to client.files)

-- a turn of the file that was found, or nothing
abbrev pub on_file : Client → Option ℕ → (ℕ → Step) → Step
on_file client None step = quiet_step client
on_file client (Some file) step = step file

-- ---- a lease break (MS-SMB2 3.2.5.19.2)

-- writes or handles go
abbrev pub gives_up : State → State → Bool
gives_up old new = (old.write && not new.write) || (old.handle && not new.handle)

-- writes that must be sent before the break is answered, and what then stays unsent
abbrev pub flushed : State → State → List Pending → List Pending
flushed old new unsent = if gives_up old new then unsent else []

abbrev pub unflushed : State → State → List Pending → List Pending
unflushed old new unsent = if gives_up old new then [] else unsent

abbrev pub acknowledgment : BreakNotice → State → List Request
acknowledgment notice state =
    if notice.ack_required
    then Request.Acknowledge (Some (record { key = notice.key; state = state })) ∷ []
    else []

-- the belief is lowered; without reads the base is dropped, and the acknowledgment comes last
abbrev pub belief_lowered : LiveEntry → List Pending → BreakNotice → State → Turn
belief_lowered live sent notice new = record {
  entry = live_entry
      (record live {
        belief = new;
        base = if new.read then live.base else None;
        unsent = unflushed live.belief new live.unsent;
      })
      (sent ++ flushed live.belief new live.unsent);
  answer = Answer.Quiet;
  requests = write_requests live.file_id (flushed live.belief new live.unsent) ++ acknowledgment notice new;
  settled = [];
}

-- A parked entry that loses H closes its open, which is its answer (3.2.5.19.2).
abbrev pub parked_closed : LiveEntry → List Pending → Turn
parked_closed live sent = record {
  entry = closed_entry (sent ++ live.unsent);
  answer = Answer.Quiet;
  requests = write_requests live.file_id live.unsent ++ Request.OnFile (FileRequest.Close live.file_id) ∷ [];
  settled = [];
}

unfoldable pub break_turn : LiveEntry → List Pending → BreakNotice → State → Turn
break_turn live sent notice new =
    if live.handles == 0 && (live.belief.handle && not new.handle)
    then parked_closed live sent
    else belief_lowered live sent notice new

-- a break of an entry that isn't live is ignored
abbrev pub broken_in : BreakNotice → List Pending → Phase → Turn
broken_in notice sent (Phase.Live live) = break_turn live sent notice (meet live.belief notice.lowered)
broken_in notice sent phase = quiet_turn (record { phase = phase; sent = sent })

abbrev pub broken_turn : BreakNotice → Entry → Turn
broken_turn notice entry = broken_in notice entry.sent entry.phase

abbrev pub is_key_of : Client → List ℕ → ℕ → Bool
is_key_of client key file = bytes_eq (lease_key client.guid file) key

unfoldable pub broken : Client → Option BreakNotice → Step
broken client None = quiet_step client
broken client (Some notice) = on_file client (file_where client (is_key_of client notice.key))
    (λ file. turned client file (broken_turn notice (client.entries file)))

-- ---- a create is answered (3.2.5.7)

-- The belief is the reply's state, or none while a break is in progress, without RqLs, or under
-- another key.
abbrev pub given_state : List ℕ → Option LeaseGiven → State
given_state key None = nothing_cached
given_state key (Some given) =
    if bytes_eq given.key key && not given.in_progress then given.state else nothing_cached

abbrev pub opened_turn : ℕ → Access → Share → List Pending → CreateAnswer → State → Turn
opened_turn file_id access share sent answer belief = record {
  entry = live_entry
      (record {
        file_id = file_id;
        access = access;
        share = share;
        durable = answer.durable;
        belief = belief;
        handles = 1;
        reads = 0;
        base = None;
        unsent = [];
        asking = None;
      })
      sent;
  answer = Answer.Done;
  requests = [];
  settled = [];
}

-- A reconnected entry has its own FileId and handles, and no base; what it kept is unsent again
-- under W, and else given up.
abbrev pub reconnected_turn : Parted → List Pending → State → Turn
reconnected_turn parted sent belief = record {
  entry = live_entry
      (record {
        file_id = parted.file_id;
        access = parted.access;
        share = parted.share;
        durable = true;
        belief = belief;
        handles = parted.handles;
        reads = 0;
        base = None;
        unsent = if belief.write then parted.writes else [];
        asking = None;
      })
      sent;
  answer = Answer.Done;
  requests = [];
  settled = if belief.write then [] else settled_as Settlement.Lost parted.writes;
}

-- What an entry that asked for more then believes: what it believed while a break is in progress, and else
-- the reply's state, or none without RqLs or under another key.
abbrev pub promoted_belief : List ℕ → State → Option LeaseGiven → State
promoted_belief key belief None = nothing_cached
promoted_belief key belief (Some given) =
    if given.in_progress then belief
    else (if bytes_eq given.key key then given.state else nothing_cached)

-- An entry that asked for more has its new open, one handle more, and closes the old one. Where the new
-- belief lacks W its unsent writes have failed, and where it lacks R the base is dropped.
abbrev pub promoted_turn : LiveEntry → List Pending → Asked → ℕ → Bool → State → Turn
promoted_turn live sent asked file_id durable belief = record {
  entry = live_entry
      (record live {
        file_id = file_id;
        access = asked.access;
        share = asked.share;
        durable = durable;
        belief = belief;
        handles = live.handles + 1;
        base = if belief.read then live.base else None;
        unsent = if belief.write then live.unsent else [];
        asking = None;
      })
      sent;
  answer = Answer.Done;
  requests = Request.OnFile (FileRequest.Close live.file_id) ∷ [];
  settled = if belief.write then [] else settled_as Settlement.Failed live.unsent;
}

-- a live entry that didn't ask for more passes a Created over
abbrev pub created_for : List ℕ → LiveEntry → List Pending → ℕ → CreateAnswer → Option Asked → Turn
created_for key live sent file_id answer None = quiet_turn (live_entry live sent)
created_for key live sent file_id answer (Some asked) = promoted_turn live sent asked file_id answer.durable
    (promoted_belief key live.belief answer.lease)

-- the belief that a reply to a create gives to an entry that had none
abbrev pub first_belief : Client → ℕ → CreateAnswer → State
first_belief client file answer = given_state (lease_key client.guid file) answer.lease

abbrev pub created_in : List ℕ → ℕ → CreateAnswer → List Pending → Phase → Turn
created_in key file_id answer sent (Phase.Opening access share) =
    opened_turn file_id access share sent answer (given_state key answer.lease)
created_in key file_id answer sent (Phase.Reconnecting parted) =
    reconnected_turn parted sent (given_state key answer.lease)
created_in key file_id answer sent (Phase.Live live) =
    created_for key live sent file_id answer live.asking
created_in key file_id answer sent phase = quiet_turn (record { phase = phase; sent = sent })

abbrev pub created_turn : List ℕ → ℕ → CreateAnswer → Entry → Turn
created_turn key file_id answer entry = created_in key file_id answer entry.sent entry.phase

-- a reply that can't be read is ignored
unfoldable pub create_answered : Client → ℕ → ℕ → Option CreateAnswer → Step
create_answered client file file_id None = quiet_step client
create_answered client file file_id (Some answer) =
    turned client file (created_turn (lease_key client.guid file) file_id answer (client.entries file))

abbrev pub still_open : Entry → List Note → Status → Turn
still_open entry settled status =
    record { entry = entry; answer = Answer.Failed status; requests = []; settled = settled }

abbrev pub failed_turn : Status → List Pending → List Pending → Turn
failed_turn status sent writes = record {
  entry = closed_entry sent;
  answer = Answer.Failed status;
  requests = [];
  settled = settled_as Settlement.Lost writes;
}

-- an entry that asked for more goes on without; any other live entry passes a failed create over
abbrev pub not_created_for : LiveEntry → List Pending → Status → Option Asked → Turn
not_created_for live sent status None = quiet_turn (live_entry live sent)
not_created_for live sent status (Some asked) =
    still_open (live_entry (record live { asking = None }) sent) [] status

abbrev pub not_created_in : Status → List Pending → Phase → Turn
not_created_in status sent (Phase.Opening access share) = failed_turn status sent []
not_created_in status sent (Phase.Reconnecting parted) = failed_turn status sent parted.writes
not_created_in status sent (Phase.Live live) = not_created_for live sent status live.asking
not_created_in status sent phase = quiet_turn (record { phase = phase; sent = sent })

abbrev pub not_created_turn : Status → Entry → Turn
not_created_turn status entry = not_created_in status entry.sent entry.phase

unfoldable pub create_failed : Client → ℕ → Status → Step
create_failed client file status = turned client file (not_created_turn status (client.entries file))

-- ---- reads and writes are answered (3.2.5.11, 3.2.5.12)

-- the entry is live under the FileId, and a Read is unanswered
abbrev pub reads_under : ℕ → Phase → Bool
reads_under file_id (Phase.Live live) = live.file_id == file_id && not (live.reads == 0)
reads_under file_id phase = false

abbrev pub one_read_less : ℕ → ℕ
one_read_less zero = 0
one_read_less (suc reads) = reads

-- The bytes of a Read become the base where the belief holds R; the application sees its own
-- unanswered writes in them.
abbrev pub read_turn : LiveEntry → List Pending → List ℕ → Turn
read_turn live sent bytes = record {
  entry = live_entry
      (record live {
        reads = one_read_less live.reads;
        base = if live.belief.read then Some bytes else live.base;
      })
      sent;
  answer = Answer.Bytes (view bytes sent live.unsent) false;
  requests = [];
  settled = [];
}

abbrev pub read_in : List ℕ → List Pending → Phase → Turn
read_in bytes sent (Phase.Live live) = read_turn live sent bytes
read_in bytes sent phase = quiet_turn (record { phase = phase; sent = sent })

abbrev pub read_done_turn : List ℕ → Entry → Turn
read_done_turn bytes entry = read_in bytes entry.sent entry.phase

-- a Read of more bytes than a file may have is ignored
unfoldable pub read_answered : Client → ℕ → List ℕ → Step
read_answered client file_id bytes =
    if nat_le (length bytes) FILE_LIMIT
    then on_file client (file_where client (λ file. reads_under file_id (client.entries file).phase))
    (λ file. turned client file (read_done_turn bytes (client.entries file)))
    else quiet_step client

abbrev pub is_file_closed : Status → Bool
is_file_closed Status.FileClosed = true
is_file_closed status = false

-- an entry without its open: it is closed, or opening where it had asked for more
abbrev pub without_open : Option Asked → List Pending → Entry
without_open None sent = closed_entry sent
without_open (Some asked) sent = record { phase = Phase.Opening asked.access asked.share; sent = sent }

-- FILE_CLOSED for the FileId of a live entry: its open is gone, and its unsent writes have failed.
abbrev pub closed_by_server : LiveEntry → List Pending → List Note → Status → Turn
closed_by_server live sent settled status = record {
  entry = without_open live.asking sent;
  answer = Answer.Failed status;
  requests = [];
  settled = settled ++ settled_as Settlement.Failed live.unsent;
}

unfoldable pub read_failed_turn : LiveEntry → List Pending → Status → Turn
read_failed_turn live sent status =
    if is_file_closed status
    then closed_by_server live sent [] status
    else still_open (live_entry (record live { reads = one_read_less live.reads }) sent) [] status

abbrev pub not_read_in : Status → List Pending → Phase → Turn
not_read_in status sent (Phase.Live live) = read_failed_turn live sent status
not_read_in status sent phase = quiet_turn (record { phase = phase; sent = sent })

abbrev pub not_read_turn : Status → Entry → Turn
not_read_turn status entry = not_read_in status entry.sent entry.phase

unfoldable pub read_failed : Client → ℕ → Status → Step
read_failed client file_id status =
    on_file client (file_where client (λ file. reads_under file_id (client.entries file).phase))
    (λ file. turned client file (not_read_turn status (client.entries file)))

-- a sent, unanswered write of this number
abbrev pub is_numbered : ℕ → Pending → Bool
is_numbered number write = write.number == number

abbrev pub has_sent : Client → ℕ → ℕ → Bool
has_sent client number file = list_any (is_numbered number) (client.entries file).sent

-- the writes without the first of this number
unfoldable pub sent_without : ℕ → List Pending → List Pending
sent_without number [] = []
sent_without number (write ∷ writes) =
    if write.number == number then writes else write ∷ sent_without number writes

-- a base, if there is one, with the write of this number
abbrev pub base_with : Option Pending → Option (List ℕ) → Option (List ℕ)
base_with (Some write) (Some base) = Some (patched base write.patch)
base_with _ base = base

abbrev pub phase_with : Option Pending → Phase → Phase
phase_with write (Phase.Live live) = Phase.Live (record live { base = base_with write live.base })
phase_with write phase = phase

-- A write is done: it is settled, and the base, if any, is patched.
abbrev pub write_done_turn : ℕ → Entry → Turn
write_done_turn number entry = record {
  entry = record {
    phase = phase_with (find (is_numbered number) entry.sent) entry.phase;
    sent = sent_without number entry.sent;
  };
  answer = Answer.Quiet;
  requests = [];
  settled = Note.Settled number Settlement.Done ∷ [];
}

unfoldable pub write_done : Client → ℕ → Step
write_done client number = on_file client (file_where client (has_sent client number))
    (λ file. turned client file (write_done_turn number (client.entries file)))

abbrev pub write_failed_in : ℕ → ℕ → Status → List Pending → Phase → Turn
write_failed_in file_id number status sent (Phase.Live live) =
    if is_file_closed status && live.file_id == file_id
    then closed_by_server live sent (Note.Settled number Settlement.Failed ∷ []) status
    else still_open (live_entry live sent) (Note.Settled number Settlement.Failed ∷ []) status
write_failed_in file_id number status sent phase =
    still_open (record { phase = phase; sent = sent }) (Note.Settled number Settlement.Failed ∷ []) status

abbrev pub not_written_turn : ℕ → ℕ → Status → Entry → Turn
not_written_turn file_id number status entry =
    write_failed_in file_id number status (sent_without number entry.sent) entry.phase

unfoldable pub write_failed : Client → ℕ → ℕ → Status → Step
write_failed client file_id number status = on_file client (file_where client (has_sent client number))
    (λ file. turned client file (not_written_turn file_id number status (client.entries file)))

-- A message of the server comes.
unfoldable pub taken : Client → Reply → Step
taken client (Reply.Created file file_id contexts) = create_answered client file file_id contexts
taken client (Reply.CreateFailed file status) = create_failed client file status
taken client (Reply.ReadDone file_id bytes) = read_answered client file_id bytes
taken client (Reply.ReadFailed file_id status) = read_failed client file_id status
taken client (Reply.WriteDone file_id number) = write_done client number
taken client (Reply.WriteFailed file_id number status) = write_failed client file_id number status
taken client (Reply.Break notice) = broken client notice
taken client reply = quiet_step client
