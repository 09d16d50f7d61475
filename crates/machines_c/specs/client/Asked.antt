-- What numbers and bytes from C ask of a client, and what they say to it.
use Rattle.std.specs.Prelude.{ℕ, List, Option, Some, None}
use Rattle.lease_state.specs.State.{state_of_bits}
use Rattle.lease_state.specs.declared.access.Access.{Access}
use Rattle.lease_state.specs.declared.access.Share.{Share}
use Rattle.lease_wire.specs.Gathering.{value_of}
use Rattle.lease_wire.specs.declared.create.Direction.{Direction}
use Rattle.lease_model.specs.client.Commands.{Command}
use Rattle.lease_model.specs.messages.FromBytes.{answer_found}
use Rattle.lease_model.specs.messages.Replies.{Reply}
use Rattle.machines_c.specs.handles.Codes.{access_of, share_of, is_set}
use Rattle.machines_c.specs.declared.client.commands.ClientOpen.{ClientOpen}

-- an open with this access and this share, where the numbers stand for them
abbrev pub open_with : ClientOpen → Option Access → Option Share → Option Command
open_with ask (Some access) (Some share) = Some (Command.Open ask.file (record {
  access = access;
  share = share;
  want = state_of_bits ask.want;
  durable = is_set ask.durable;
}))
open_with ask (Some access) None = None
open_with ask None share = None

abbrev pub open_asked : ClientOpen → Option Command
open_asked ask = open_with ask (access_of ask.access) (share_of ask.share)

abbrev pub write_asked : ℕ → ℕ → List ℕ → Command
write_asked file offset bytes = Command.Write file (record { offset = offset; bytes = bytes })

-- a file was opened, with these create contexts
abbrev pub created : ℕ → ℕ → List ℕ → Reply
created file file_id contexts = Reply.Created file file_id (answer_found (value_of Direction.Reply contexts))
