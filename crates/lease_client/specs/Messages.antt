-- A reply that reached an entry.
use Rattle.std.specs.Prelude.{ℕ, List}
use Rattle.lease_model.specs.client.State.{Entry}
use Rattle.lease_model.specs.client.Step.{Turn}
use Rattle.lease_model.specs.client.Taken.{broken_turn, created_turn, not_created_turn, not_read_turn, not_written_turn}
use Rattle.lease_model.specs.client.Taken.{read_done_turn, write_done_turn}
use Rattle.lease_client.specs.Heard.{answer_read, notice_read}
use Rattle.lease_client.specs.declared.machine.message.Message as code

abbrev pub message_turn : List ℕ → code.Message → Entry → Turn
message_turn key (code.TheVariants.Created file_id answer) entry =
    created_turn key file_id.0 (answer_read answer) entry
message_turn key (code.TheVariants.NotCreated status) entry = not_created_turn status entry
message_turn key (code.TheVariants.Read bytes) entry = read_done_turn bytes entry
message_turn key (code.TheVariants.NotRead status) entry = not_read_turn status entry
message_turn key (code.TheVariants.Written number) entry = write_done_turn number entry
message_turn key (code.TheVariants.NotWritten file_id number status) entry =
    not_written_turn file_id.0 number status entry
message_turn key (code.TheVariants.Broken notice) entry = broken_turn (notice_read notice) entry
