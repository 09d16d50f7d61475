-- What calls of a client in a handle come to, by the rules of clients.
use Rattle.std.specs.Prelude.{◌≡◌, ℕ, true, ⊤}
use Rattle.lease_client.specs.Beliefs.{NoneRose, RoseBy}
use Rattle.lease_model.specs.client.Commanded.{is_refused}
use Rattle.lease_client.specs.Known.{client_of}
use Rattle.lease_client.specs.Steps.{IsStep, RefusesQuietly}
use Rattle.lease_model.specs.client.Commanded.{commanded}
use Rattle.lease_model.specs.client.Commands.{Command}
use Rattle.lease_model.specs.client.State.{Client}
use Rattle.lease_model.specs.client.Step as model
use Rattle.lease_model.specs.client.Taken.{taken}
use Rattle.lease_model.specs.messages.Replies.{Reply}
use Rattle.machines_c.specs.declared.client.stepping.Stepping.{Stepping}

-- The client answered a command. No belief rose by it, and where it was refused nothing else came of it.
pub record Commanded (command : Command) (old new : Stepping) : Type 0 where
  pub step : IsStep new.step (commanded (client_of old.step.client) command)
  pub quiet : RefusesQuietly (client_of old.step.client) new.step
  pub beliefs : NoneRose (client_of old.step.client) (client_of new.step.client)
  pub code : new.code ≡ 0

-- A command that is refused never loses the machine.
abbrev pub MayBeLostBy : Command → Stepping → Type 0
MayBeLostBy command old = is_refused (commanded (client_of old.step.client) command).answer ≡ true → ⊥

-- The client took a message of the server, of which this was the status: 0 where it refuses nothing.
pub record TookWith (status : ℕ) (reply : Reply) (old new : Stepping) : Type 0 where
  pub step : IsStep new.step (taken (client_of old.step.client) reply)
  pub beliefs : RoseBy reply (client_of old.step.client) (client_of new.step.client)
  pub code : new.code ≡ status

abbrev pub Took : Reply → Stepping → Stepping → Type 0
Took reply old new = TookWith 0 reply old new

-- The client's connection was made or lost.
pub record Linked (linked : Client → model.Step) (old new : Stepping) : Type 0 where
  pub step : IsStep new.step (linked (client_of old.step.client))
  pub beliefs : NoneRose (client_of old.step.client) (client_of new.step.client)
  pub code : new.code ≡ 0

-- whatever was held
abbrev pub Always : Stepping → Type 0
Always old = ⊤

abbrev pub Never : Stepping → Type 0
Never old = ⊥
