-- The names of the messages of a frame, by their headers (MS-SMB2 2.2.1).
use Rattle.std.specs.Prelude.{ℕ, zero, suc, ◌-◌, ◌^◌, ◌==◌, ◌&&◌, Bool, List, [], ◌∷◌, length, if◌then◌else◌}
use Rattle.std.specs.Option.{is_none}
use Rattle.lease_wire.specs.Field.{number_at}
use Rattle.lease_wire.specs.Message as wire
use Rattle.capture_wire.specs.Faults.{header_fault}
use Rattle.capture_wire.specs.Fields.{has_flag}
use Rattle.capture_wire.specs.Messages.{command_of}
use Rattle.capture_walk.specs.Compounds.{behind_first}
use Rattle.capture_texts.specs.declared.line.Said.{Said}
use Rattle.capture_texts.specs.declared.line.Said.TheVariants as said
use Rattle.capture_texts.specs.declared.names.MessageName.{MessageName}
use Rattle.capture_texts.specs.declared.names.MessagePart.{MessagePart}
use Rattle.capture_texts.specs.declared.names.MessagePart.TheVariants as part

-- the bytes begin with a message of which the header can be read, and where the next one begins
abbrev pub begins_readably : List ℕ → Bool
begins_readably bytes = is_none (header_fault bytes) && is_none (wire.header_fault bytes)

-- a response is to no request where its MessageId has all bits (2.2.23)
abbrev pub part_by : Bool → ℕ → MessagePart
part_by response message_id =
    if response then (if message_id == 2 ^ 64 - 1 then part.Notification else part.Response) else part.Request

abbrev pub name_of : List ℕ → MessageName
name_of bytes = record {
  command = command_of (number_at 12 2 bytes);
  part = part_by (has_flag 1 (number_at 16 4 bytes)) (number_at 24 8 bytes);
}

-- those of at most so many messages, up to the first header that can't be read
unfoldable pub names_within : ℕ → List ℕ → List MessageName
names_within zero bytes = []
names_within (suc count) bytes =
    if begins_readably bytes then name_of bytes ∷ names_within count (behind_first bytes) else []

-- each message takes some bytes
unfoldable pub names_in : List ℕ → List MessageName
names_in bytes = names_within (length bytes) bytes

abbrev pub names_said : Said → List MessageName
names_said (said.Frame frame) = names_in frame.bytes
names_said said.Gap = []
names_said said.End = []
