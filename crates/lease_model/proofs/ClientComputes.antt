-- To unfold `the_client` is to unfold every definition of the client, so that a worked example computes.
use Rattle.std.specs.Prelude.{⊤}
use Rattle.lease_model.specs.client.Commanded.{anew_turn, buffered_turn, close_turn, commanded, flush_turn, handle_turn}
use Rattle.lease_model.specs.client.Commanded.{last_close_turn, live_open_turn, live_read_turn, more_turn, other_turn}
use Rattle.lease_model.specs.client.Commanded.{read_sent_turn, taken_turn, through_turn, write_turn}
use Rattle.lease_model.specs.client.Connection.{live_parted, live_noticed}
use Rattle.lease_model.specs.client.State.{new_client, lease_key}
use Rattle.lease_model.specs.client.Step.{turned}
use Rattle.lease_model.specs.client.Taken.{break_turn, broken, create_answered, create_failed}
use Rattle.lease_model.specs.client.Taken.{read_answered, read_failed_turn, read_failed}
use Rattle.lease_model.specs.client.Taken.{sent_without, write_done, write_failed, taken}
use Rattle.lease_model.specs.worked.ClientWords.{steps_along, client_after}
use Rattle.lease_model.proofs.ValuesCompute.{the_values}

unfoldable pub the_client : ⊤
unfolding the_values handle_turn more_turn other_turn live_open_turn anew_turn last_close_turn close_turn read_sent_turn
    live_read_turn buffered_turn through_turn taken_turn write_turn flush_turn commanded live_parted live_noticed new_client
    lease_key turned break_turn broken create_answered create_failed read_answered read_failed_turn read_failed sent_without
    write_done write_failed taken steps_along client_after
the_client = tt
