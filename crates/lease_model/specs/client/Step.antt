-- A step of a client machine: the client after it, the answer, the requests to be sent and the
-- notes, each in order.
use Rattle.std.specs.Prelude.{ℕ, List, [], ◌∷◌, ◌++◌, map, if◌then◌else◌}
use Rattle.lease_state.specs.State.{State}
use Rattle.lease_model.specs.client.State.{Client, Entry, Pending, belief_of}
use Rattle.lease_model.specs.client.Commands.{Answer, Refusal, Note, Settlement}
use Rattle.lease_model.specs.values.LeaseStates.{same_state}
use Rattle.lease_model.specs.messages.Requests.{FileRequest, Request}
use Rattle.lease_model.specs.values.Tables.{put}

pub record Step : Type 0 where
  pub client : Client
  pub answer : Answer
  pub requests : List Request
  pub notes : List Note

-- what a step does to one entry
pub record Turn : Type 0 where
  pub entry : Entry
  pub answer : Answer
  pub requests : List Request
  pub settled : List Note

abbrev pub turn_of : Entry → Answer → List Request → Turn
turn_of entry answer requests =
    record { entry = entry; answer = answer; requests = requests; settled = [] }

abbrev pub refused_turn : Entry → Refusal → Turn
refused_turn entry refusal = turn_of entry (Answer.Refused refusal) []

-- a message that the entry passes over
abbrev pub quiet_turn : Entry → Turn
quiet_turn entry = turn_of entry Answer.Quiet []

-- a change of belief is noted, and nothing else of it
abbrev pub believes_noted : ℕ → State → State → List Note
believes_noted file old new = if same_state old new then [] else Note.Believes file new ∷ []

-- A turn of the entry of one file: settled writes are noted first, then the belief where it changed.
unfoldable pub turned : Client → ℕ → Turn → Step
turned client file turn = record {
  client = record client { entries = put client.entries file turn.entry };
  answer = turn.answer;
  requests = turn.requests;
  notes = turn.settled ++ believes_noted file (belief_of (client.entries file)) (belief_of turn.entry);
}

-- a step after which this is the number of the last write
abbrev pub with_number : ℕ → Step → Step
with_number last step = record step { client = record step.client { last_number = last } }

abbrev pub refused_step : Client → Refusal → Step
refused_step client refusal =
    record { client = client; answer = Answer.Refused refusal; requests = []; notes = [] }

abbrev pub quiet_step : Client → Step
quiet_step client = record { client = client; answer = Answer.Quiet; requests = []; notes = [] }

-- the writes as requests under a FileId, in order
abbrev pub write_requests : ℕ → List Pending → List Request
write_requests file_id writes =
    map (λ write. Request.OnFile (FileRequest.Write file_id write.number write.patch)) writes

-- each of the writes settled in one way, in order
abbrev pub settled_as : Settlement → List Pending → List Note
settled_as outcome writes = map (λ write. Note.Settled write.number outcome) writes
