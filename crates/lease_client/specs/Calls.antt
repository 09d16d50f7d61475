-- Turns of one entry as steps of the client.
use Rattle.std.specs.Prelude.{ℕ, Bool, true, false}
use Rattle.lease_model.specs.client.State.{Client, lease_key}
use Rattle.lease_model.specs.client.Step.{Step, turned}
use Rattle.lease_state.specs.declared.reply.Reply as real
use Rattle.lease_client.specs.Messages.{message_turn}
use Rattle.lease_client.specs.declared.machine.message.Message.{Message}

-- a reply reaches the entry of a file
abbrev pub told_step : Client → ℕ → Message → Step
told_step client file message =
    turned client file (message_turn (lease_key client.guid file) message (client.entries file))

-- the replies that no entry waits for
abbrev pub is_idle : real.Reply → Bool
is_idle (real.TheVariants.Closed fid) = true
is_idle (real.TheVariants.CloseFailed fid status) = true
is_idle (real.TheVariants.AckDone bytes) = true
is_idle (real.TheVariants.AckFailed status) = true
is_idle reply = false
