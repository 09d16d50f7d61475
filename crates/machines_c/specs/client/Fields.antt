-- What a client gave out, as structs hold it: fields that have no meaning there are 0, and so is all that is reserved.
use Rattle.std.specs.Prelude.{ℕ, List, [], length, replicate, Option, Some, None, if◌then◌else◌, ◌==◌}
use Rattle.lease_state.specs.Access.{uses_of, allowed_by, bits_of_uses}
use Rattle.lease_state.specs.State.{state_of, bits_of_state}
use Rattle.lease_state.specs.Status as status
use Rattle.lease_state.specs.declared.status.Status.{Status}
use Rattle.lease_state.specs.declared.request.Request as request
use Rattle.lease_client.specs.declared.values.command.Answer as answer
use Rattle.lease_client.specs.declared.values.command.Refusal as refusal
use Rattle.lease_client.specs.declared.values.note.Note as note
use Rattle.lease_client.specs.declared.values.note.Settlement as settlement
use Rattle.machines_c.specs.handles.Codes.{flag_of}
use Rattle.machines_c.specs.declared.client.answer.ClientAnswer.{ClientAnswer}
use Rattle.machines_c.specs.declared.client.request.ClientRequest.{ClientRequest}
use Rattle.machines_c.specs.declared.client.note.ClientNote.{ClientNote}
use Rattle.machines_c.specs.declared.client.stepping.Stepping.{Stepping}

abbrev pub number_of_refusal : refusal.Refusal → ℕ
number_of_refusal refusal.TheVariants.NotOpen = 1
number_of_refusal refusal.TheVariants.Busy = 2
number_of_refusal refusal.TheVariants.Differs = 3
number_of_refusal refusal.TheVariants.Offline = 4
number_of_refusal refusal.TheVariants.TooLong = 5
number_of_refusal refusal.TheVariants.Denied = 6
number_of_refusal refusal.TheVariants.UsedUp = 7

abbrev pub number_of_settlement : settlement.Settlement → ℕ
number_of_settlement settlement.TheVariants.Done = 1
number_of_settlement settlement.TheVariants.Failed = 2
number_of_settlement settlement.TheVariants.Unknown = 3
number_of_settlement settlement.TheVariants.Lost = 4

-- the answer of a kind that has no more fields
abbrev pub bare_answer : ℕ → ClientAnswer
bare_answer kind = record { length = 0; kind = kind; refusal = 0; status = 0; cached = 0; reserved = replicate 27 0 }

-- the status of a reply as it came, where one is known
abbrev pub status_told : ℕ → Status → ℕ
status_told code failed = if code == 0 then status.code_of failed else code

-- an answer, where the last reply had this status
abbrev pub answer_fields : ℕ → answer.Answer → ClientAnswer
answer_fields code answer.TheVariants.Done = bare_answer 1
answer_fields code answer.TheVariants.Waiting = bare_answer 2
answer_fields code (answer.TheVariants.Bytes bytes cached) =
    record (bare_answer 3) { length = length bytes; cached = flag_of cached }
answer_fields code (answer.TheVariants.Refused refusal) =
    record (bare_answer 4) { refusal = number_of_refusal refusal }
answer_fields code (answer.TheVariants.Failed failed) =
    record (bare_answer 5) { status = status_told code failed }
answer_fields code answer.TheVariants.Quiet = bare_answer 6

abbrev pub answer_bytes : answer.Answer → List ℕ
answer_bytes (answer.TheVariants.Bytes bytes cached) = bytes
answer_bytes other = []

-- a request about an open, with no more fields
abbrev pub request_on : ℕ → ℕ → ClientRequest
request_on kind file_id = record {
  file_id = file_id;
  number = 0;
  length = 0;
  kind = kind;
  offset = 0;
  file = 0;
  access = 0;
  share = 0;
  reserved = replicate 29 0;
}

abbrev pub request_fields : request.Request → ClientRequest
request_fields (request.TheVariants.Create file access share contexts) = record (request_on 1 0) {
  length = length contexts;
  file = file.0;
  access = bits_of_uses (uses_of access);
  share = bits_of_uses (allowed_by share);
}
request_fields (request.TheVariants.Read fid) = request_on 2 fid.0
request_fields (request.TheVariants.Write fid number patch) =
    record (request_on 3 fid.0) { number = number; length = length patch.bytes; offset = patch.offset }
request_fields (request.TheVariants.Close fid) = request_on 4 fid.0
request_fields (request.TheVariants.Ack bytes) = record (request_on 5 0) { length = 36 }

abbrev pub request_bytes : request.Request → List ℕ
request_bytes (request.TheVariants.Create file access share contexts) = contexts
request_bytes (request.TheVariants.Read fid) = []
request_bytes (request.TheVariants.Write fid number patch) = patch.bytes
request_bytes (request.TheVariants.Close fid) = []
request_bytes (request.TheVariants.Ack bytes) = bytes

-- a note of a kind, with no more fields
abbrev pub bare_note : ℕ → ClientNote
bare_note kind = record {
  number = 0;
  length = 0;
  kind = kind;
  outcome = 0;
  offset = 0;
  state = 0;
  file = 0;
  buffered = 0;
  reserved = replicate 30 0;
}

abbrev pub note_fields : note.Note → ClientNote
note_fields (note.TheVariants.Settled number outcome) =
    record (bare_note 1) { number = number; outcome = number_of_settlement outcome }
note_fields (note.TheVariants.Wrote file number patch buffered) = record (bare_note 2) {
  number = number;
  length = length patch.bytes;
  offset = patch.offset;
  file = file.0;
  buffered = flag_of buffered;
}
note_fields (note.TheVariants.Believes file state) =
    record (bare_note 3) { state = bits_of_state (state_of state); file = file.0 }
note_fields (note.TheVariants.CachedRead file bytes) = record (bare_note 4) { length = length bytes; file = file.0 }

abbrev pub note_bytes : note.Note → List ℕ
note_bytes (note.TheVariants.Settled number outcome) = []
note_bytes (note.TheVariants.Wrote file number patch buffered) = patch.bytes
note_bytes (note.TheVariants.Believes file state) = []
note_bytes (note.TheVariants.CachedRead file bytes) = bytes

-- what the last call gave out: nothing, where no machine is held
abbrev pub requests_of : Option Stepping → List request.Request
requests_of None = []
requests_of (Some stepping) = stepping.step.requests.items

abbrev pub notes_of : Option Stepping → List note.Note
notes_of None = []
notes_of (Some stepping) = stepping.step.notes.items
