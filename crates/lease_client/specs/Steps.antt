-- What a call of a client comes to, as the definitions see it.
use Rattle.std.specs.Prelude.{◌≡◌, map}
use Rattle.lease_model.specs.client.Commands as commands
use Rattle.lease_model.specs.client.State.{Client}
use Rattle.lease_model.specs.client.Step as model
use Rattle.lease_model.specs.client.Step.{refused_step}
use Rattle.lease_model.specs.messages.ToBytes.{request_written}
use Rattle.lease_client.specs.Answers.{answer_of, note_of}
use Rattle.lease_client.specs.Known.{Known, client_of}
use Rattle.lease_client.specs.Turns.{Given, IsAfter}
use Rattle.lease_client.specs.declared.values.step.Step.{Step}

-- The call came to this step of the rules. The bytes of a request are the canonical text of its create
-- contexts, or those of its acknowledgment.
pub record IsStep (step : Step) (after : model.Step) : Type 0 where
  pub client : client_of step.client ≡ after.client
  pub answer : answer_of step.answer ≡ after.answer
  pub requests : step.requests.items ≡ map request_written after.requests
  pub notes : map note_of step.notes.items ≡ after.notes

-- A refusal leaves the client as it was, and nothing is sent or noted.
abbrev pub RefusesQuietly : Client → Step → Type 0
RefusesQuietly client step = (refusal : commands.Refusal) → answer_of step.answer ≡ commands.Answer.Refused refusal
    → IsStep step (refused_step client refusal)

-- the same of a client that is called in its place
abbrev pub RefusesInPlace : Client → Known → Given → Type 0
RefusesInPlace client known given = (refusal : commands.Refusal) → given.answer ≡ commands.Answer.Refused refusal
    → IsAfter known given (refused_step client refusal)
