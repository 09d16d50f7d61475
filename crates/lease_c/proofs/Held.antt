-- A struct whose fields were written for a value holds that value.
use Rattle.std.proofs.Common.{◌≡◌, Bool, Option, Some, None, refl, arith}
use Rattle.lease_state.specs.State.{State, state_of, state_of_bits, bits_of_state}
use Rattle.lease_state.specs.declared.key.LeaseKey.{LeaseKey}
use Rattle.lease_state.specs.declared.number.FileId.{FileId}
use Rattle.lease_state.specs.declared.state.LeaseState.{LeaseState}
use Rattle.lease_wire.specs.Create.{ask_of, answer_of}
use Rattle.lease_wire.specs.declared.create.CreateAsk.{CreateAsk}
use Rattle.lease_wire.specs.declared.create.CreateAnswer.{CreateAnswer}
use Rattle.lease_wire.specs.Notification.{Notice}
use Rattle.lease_wire.specs.Acknowledgment.{KeyAndState}
use Rattle.lease_c.specs.Flag.{is_set, flag_of}
use Rattle.lease_c.specs.Create.{ask_held, ask_fields, answer_held, answer_fields}
use Rattle.lease_c.specs.Messages.{notice_held, notice_fields, acknowledged_held, acknowledged_fields, responded_held}
use Rattle.lease_c.specs.Messages.{responded_fields}

pub state_held : (s : State) → state_of_bits (bits_of_state s) ≡ s
state_held s = grind arith

pub flag_held : (b : Bool) → is_set (flag_of b) ≡ b
flag_held b = grind arith

pub notice_is_held : (v : Notice) → notice_held (notice_fields v) ≡ v
notice_is_held v = rw (flag_held v.ack_required, state_held v.current, state_held v.new) refl

pub acknowledged_is_held : (v : KeyAndState) → acknowledged_held (acknowledged_fields v) ≡ v
acknowledged_is_held v = rw (state_held v.state) refl

pub responded_is_held : (v : KeyAndState) → responded_held (responded_fields v) ≡ v
responded_is_held v = rw (state_held v.state) refl

pub ask_is_held : (other : Bool) (ask : CreateAsk) → ask_held (ask_fields other (ask_of ask)) ≡ ask_of ask
ask_is_held other ask = by_parts ask.lease ask.durable ask.reconnect
  where
    by_parts : (lease : Option (LeaseKey × LeaseState)) (durable : Bool) (reconnect : Option FileId)
        → ask_held (ask_fields other (ask_of (record { lease = lease; durable = durable; reconnect = reconnect })))
        ≡ ask_of (record { lease = lease; durable = durable; reconnect = reconnect })
    by_parts None durable None = rw (flag_held durable) refl
    by_parts None durable (Some file_id) = rw (flag_held durable) refl
    by_parts (Some lease) durable None = rw (flag_held durable, state_held (state_of lease.1)) refl
    by_parts (Some lease) durable (Some file_id) = rw (flag_held durable, state_held (state_of lease.1)) refl

pub answer_is_held : (other : Bool) (answer : CreateAnswer)
    → answer_held (answer_fields other (answer_of answer)) ≡ answer_of answer
answer_is_held other answer = by_parts answer.lease answer.durable
  where
    by_parts : (lease : Option (LeaseKey × LeaseState × Bool)) (durable : Bool)
        → answer_held (answer_fields other (answer_of (record { lease = lease; durable = durable })))
        ≡ answer_of (record { lease = lease; durable = durable })
    by_parts None durable = rw (flag_held durable) refl
    by_parts (Some lease) durable = rw (flag_held durable, flag_held lease.2, state_held (state_of lease.1)) refl
