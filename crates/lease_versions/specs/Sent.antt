-- What is sent for a decision, with what version 2 adds: the create contexts of an answer, and the notification of a break.
use Rattle.std.specs.Prelude.{ℕ, Bool, false, Option, Some, None, if◌then◌else◌}
use Rattle.std.specs.Option.{option_map}
use Rattle.lease_model.specs.messages.Replies.{BreakNotice, CreateAnswer, LeaseGiven}
use Rattle.lease_versions.specs.Rows.{Carried}
use Rattle.lease_wire_v2.specs.EpochNotice.{EpochNotice}
use Rattle.lease_wire_v2.specs.Names.{CreateView, DurableView, LeaseView, SecondView}

abbrev pub second_sent : Carried → Option SecondView
second_sent Carried.Nothing = None
second_sent (Carried.Answer second durable) = second
second_sent (Carried.Notice epoch) = None

abbrev pub is_second_durable : Carried → Bool
is_second_durable Carried.Nothing = false
is_second_durable (Carried.Answer second durable) = durable
is_second_durable (Carried.Notice epoch) = false

abbrev pub epoch_sent : Carried → ℕ
epoch_sent Carried.Nothing = 0
epoch_sent (Carried.Answer second durable) = 0
epoch_sent (Carried.Notice epoch) = epoch

-- RqLs, in the version of the lease
abbrev pub lease_sent : Option SecondView → LeaseGiven → LeaseView
lease_sent second given = record { key = given.key; state = given.state; breaking = given.in_progress; second = second }

-- DH2Q, where that is carried, else DHnQ; no open is persistent
abbrev pub durable_sent : Bool → Bool → ℕ → Option DurableView
durable_sent durable is_second timeout = if durable
    then Some (if is_second then DurableView.Granted (record { timeout = timeout; persistent = false }) else DurableView.First)
    else None

abbrev pub answer_sent : Carried → CreateAnswer → ℕ → CreateView
answer_sent carried answer timeout = record {
  lease = option_map (lease_sent (second_sent carried)) answer.lease;
  durable = durable_sent answer.durable (is_second_durable carried) timeout;
  reconnect = None;
}

abbrev pub notice_sent : Carried → BreakNotice → EpochNotice
notice_sent carried notice = record {
  notice = record {
    ack_required = notice.ack_required;
    key = notice.key;
    current = notice.current;
    new = notice.lowered;
  };
  new_epoch = epoch_sent carried;
}
