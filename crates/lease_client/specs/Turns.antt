-- What a call does to one entry, and what it gives out, with the bytes of its requests.
use Rattle.std.specs.Prelude.{◌≡◌, ℕ, List, ◌++◌, map}
use Rattle.lease_state.specs.State.{State}
use Rattle.lease_state.specs.declared.request.Request as real
use Rattle.lease_model.specs.client.Commands.{Answer, Note}
use Rattle.lease_model.specs.client.State.{Entry, belief_of}
use Rattle.lease_model.specs.client.Step.{Step, Turn, believes_noted}
use Rattle.lease_model.specs.messages.ToBytes.{request_written}
use Rattle.lease_client.specs.Known.{Known, client_of}

-- the entry after the call; notes are those of the call, but for the one of a belief
pub record Turned : Type 0 where
  pub entry : Entry
  pub answer : Answer
  pub requests : List real.Request
  pub notes : List Note

abbrev pub turn_written : Turn → Turned
turn_written turn = record {
  entry = turn.entry;
  answer = turn.answer;
  requests = map request_written turn.requests;
  notes = turn.settled;
}

-- what a call gives out
pub record Given : Type 0 where
  pub answer : Answer
  pub requests : List real.Request
  pub notes : List Note

-- an entry, and what was given out as it came to be so
abbrev pub turned_to : Entry → Given → Turned
turned_to entry given = record {
  entry = entry;
  answer = given.answer;
  requests = given.requests;
  notes = given.notes;
}

-- what is given out where an entry turned, but for the note of a belief
abbrev pub given_in : Turned → Given
given_in turned = record { answer = turned.answer; requests = turned.requests; notes = turned.notes }

-- what a turn of the entry of a file gives out, where this was believed before
abbrev pub given_by : ℕ → State → Turned → Given
given_by file old turn = record {
  answer = turn.answer;
  requests = turn.requests;
  notes = turn.notes ++ believes_noted file old (belief_of turn.entry);
}

-- What is known and given out after a call is what the rules come to.
pub record IsAfter (known : Known) (given : Given) (step : Step) : Type 0 where
  pub client : client_of known ≡ step.client
  pub answer : given.answer ≡ step.answer
  pub requests : given.requests ≡ map request_written step.requests
  pub notes : given.notes ≡ step.notes
