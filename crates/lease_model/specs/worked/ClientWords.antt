-- Words for worked calls of a client machine of one file.
use Rattle.std.specs.Prelude.{ℕ, Bool, List, [], ◌∷◌}
use Rattle.lease_state.specs.State.{State}
use Rattle.lease_state.specs.declared.access.Access.{Access}
use Rattle.lease_state.specs.declared.access.Share.{Share}
use Rattle.lease_model.specs.client.Calls.{ClientCall, client_called}
use Rattle.lease_model.specs.client.Commands.{Command, Answer, Note}
use Rattle.lease_model.specs.client.State.{Client, new_client}
use Rattle.lease_model.specs.messages.Requests.{Request}
use Rattle.lease_model.specs.worked.ValueWords.{at, first_guid}

-- what a call shows of its step
pub record Shown : Type 0 where
  pub answer : Answer
  pub requests : List Request
  pub notes : List Note

abbrev pub shown : Answer → List Request → List Note → Shown
shown answer requests notes = record { answer = answer; requests = requests; notes = notes }

-- what each call of a list shows, and the client after them
unfoldable pub steps_along : Client → List ClientCall → List Shown
steps_along client [] = []
steps_along client (call ∷ calls) =
    shown (client_called client call).answer (client_called client call).requests (client_called client call).notes
    ∷ steps_along (client_called client call).client calls

unfoldable pub client_after : Client → List ClientCall → Client
client_after client [] = client
client_after client (call ∷ calls) = client_after (client_called client call).client calls

-- a client of one file whose GUID is sixteen bytes 11
abbrev pub one_client : Client
one_client = new_client first_guid 1

-- the commands of its application
abbrev pub open_it : Access → Share → State → Bool → ClientCall
open_it access share want durable = ClientCall.Commanded
    (Command.Open 1 (record { access = access; share = share; want = want; durable = durable }))

abbrev pub close_it : ClientCall
close_it = ClientCall.Commanded (Command.Close 1)

abbrev pub read_it : ClientCall
read_it = ClientCall.Commanded (Command.Read 1)

abbrev pub write_it : ℕ → List ℕ → ClientCall
write_it offset bytes = ClientCall.Commanded (Command.Write 1 (at offset bytes))

abbrev pub flush_it : ClientCall
flush_it = ClientCall.Commanded (Command.Flush 1)
