-- Break messages as structs hold them.
use Rattle.std.specs.Prelude.{replicate}
use Rattle.lease_state.specs.State.{state_of_bits, bits_of_state}
use Rattle.lease_wire.specs.Notification.{Notice}
use Rattle.lease_wire.specs.Acknowledgment.{KeyAndState}
use Rattle.lease_c.specs.Flag.{is_set, flag_of}
use Rattle.lease_c.specs.declared.messages.LeaseNotification.{LeaseNotification}
use Rattle.lease_c.specs.declared.messages.LeaseAcknowledgment.{LeaseAcknowledgment}
use Rattle.lease_c.specs.declared.messages.LeaseResponse.{LeaseResponse}

-- what a struct holds, whatever its bytes are
abbrev pub notice_held : LeaseNotification → Notice
notice_held message = record {
  ack_required = is_set message.ack_required;
  key = message.key;
  current = state_of_bits message.current_state;
  new = state_of_bits message.new_state;
}

abbrev pub acknowledged_held : LeaseAcknowledgment → KeyAndState
acknowledged_held message = record { key = message.key; state = state_of_bits message.state }

abbrev pub responded_held : LeaseResponse → KeyAndState
responded_held message = record { key = message.key; state = state_of_bits message.state }

-- the fields as they are written: states without free bits, flags of 0 or 1, and 0 in all that is reserved
abbrev pub notice_fields : Notice → LeaseNotification
notice_fields v = record {
  key = v.key;
  current_state = bits_of_state v.current;
  new_state = bits_of_state v.new;
  ack_required = flag_of v.ack_required;
  reserved = replicate 15 0;
}

abbrev pub acknowledged_fields : KeyAndState → LeaseAcknowledgment
acknowledged_fields v = record { key = v.key; state = bits_of_state v.state; reserved = replicate 12 0 }

abbrev pub responded_fields : KeyAndState → LeaseResponse
responded_fields v = record { key = v.key; state = bits_of_state v.state; reserved = replicate 12 0 }
