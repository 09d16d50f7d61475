-- What a message says, as the definitions see it.
use Rattle.std.specs.Option.{option_map}
use Rattle.lease_state.specs.State.{state_of}
use Rattle.lease_wire.specs.Create as wire
use Rattle.lease_wire.specs.declared.create.CreateAnswer.{CreateAnswer}
use Rattle.lease_wire.specs.declared.notification.Notification.{Notification}
use Rattle.lease_model.specs.messages.FromBytes.{lease_read}
use Rattle.lease_model.specs.messages.Replies as model

-- what a notification says
abbrev pub notice_read : Notification → model.BreakNotice
notice_read message = record {
  ack_required = message.ack_required;
  key = message.key.0;
  current = state_of message.current;
  lowered = state_of message.new;
}

-- what the contexts of a response grant
abbrev pub answer_read : CreateAnswer → model.CreateAnswer
answer_read answer = record {
  lease = option_map lease_read (wire.answer_of answer).lease;
  durable = answer.durable;
}
