-- The header of a message (MS-SMB2 2.2.1).
use Rattle.std.specs.Prelude.{◌≡◌, ℕ, if◌then◌else◌, List}
use Rattle.lease_wire.specs.Field.{number_at}
use Rattle.lease_wire.specs.Message.{next_command_of}
use Rattle.capture_wire.specs.Fields.{has_flag}
use Rattle.capture_wire.specs.declared.header.Header.{Header}
use Rattle.capture_wire.specs.declared.header.TreeOrAsync.{TreeOrAsync}
use Rattle.capture_wire.specs.declared.header.TreeOrAsync.TheVariants.{TreeId, AsyncId}

-- AsyncId at 32 of the asynchronous header (2.2.1.1), where SMB2_FLAGS_ASYNC_COMMAND is set, else TreeId at 36 of the
-- synchronous one (2.2.1.2)
abbrev pub tree_or_async_of : List ℕ → TreeOrAsync
tree_or_async_of bytes =
    if has_flag 2 (number_at 16 4 bytes) then AsyncId (number_at 32 8 bytes) else TreeId (number_at 36 4 bytes)

-- ProtocolId at 0, StructureSize at 4, CreditCharge at 6, Status at 8, Command at 12, CreditRequest at 14, Flags at 16,
-- NextCommand at 20, MessageId at 24, SessionId at 40, Signature at 48. Of Flags the bit of value 1 is
-- SMB2_FLAGS_SERVER_TO_REDIR, and that of value 4 SMB2_FLAGS_RELATED_OPERATIONS.
pub record IsHeader (bytes : List ℕ) (header : Header) : Type 0 where
  pub status : header.status ≡ number_at 8 4 bytes
  pub command : header.command ≡ number_at 12 2 bytes
  pub response : header.response ≡ has_flag 1 (number_at 16 4 bytes)
  pub related : header.related ≡ has_flag 4 (number_at 16 4 bytes)
  pub next_command : header.next_command ≡ next_command_of bytes
  pub message_id : header.message_id ≡ number_at 24 8 bytes
  pub tree_or_async : header.tree_or_async ≡ tree_or_async_of bytes
  pub session_id : header.session_id ≡ number_at 40 8 bytes
