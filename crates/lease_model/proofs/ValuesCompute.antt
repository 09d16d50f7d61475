-- To unfold `the_values` is to unfold the definitions of values and messages. So it goes with the other parts
-- of the model; each part has a file of its own, so that an example waits only for what it computes.
use Rattle.std.specs.Prelude.{⊤}
use Rattle.lease_state.specs.Content.{written}
use Rattle.lease_model.specs.values.Keys.{key_eq, bytes_before, key_before}
use Rattle.lease_model.specs.values.Limits.{files_limit, clients_limit, events_limit, last_file_number, last_file_id}
use Rattle.lease_model.specs.values.Limits.{last_write_number, count_limit}
use Rattle.lease_model.specs.values.Tables.{put, put_key, numbered}
use Rattle.lease_model.specs.messages.FromBytes.{acknowledged_in, notice_in}

unfoldable pub the_values : ⊤
unfolding key_eq bytes_before key_before files_limit clients_limit events_limit last_file_number last_file_id last_write_number
    count_limit put put_key numbered acknowledged_in notice_in written
the_values = tt
