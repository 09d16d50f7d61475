-- What a manager decides and knows, as structs hold it: fields that have no meaning there are 0, and so is all that is reserved.
use Rattle.std.specs.Prelude.{ℕ, List, Option, Some, None, is_some, replicate}
use Rattle.lease_state.specs.Access.{bits_of_uses, uses_of, allowed_by}
use Rattle.lease_state.specs.State.{State, bits_of_state}
use Rattle.lease_state.specs.Status.{code_of}
use Rattle.lease_model.specs.messages.Replies.{LeaseGiven}
use Rattle.lease_model.specs.messages.Requests.{CreateAsk, FileRequest, LeaseOf}
use Rattle.lease_model.specs.server.State.{Lease, Open}
use Rattle.machines_c.specs.handles.Codes.{flag_of}
use Rattle.lease_manager.specs.Listings.{Waiting, lease_listed}
use Rattle.lease_manager.specs.Outs.{decision_of}
use Rattle.lease_manager.specs.declared.values.decision.Decision as code
use Rattle.lease_manager.specs.declared.values.listed.ListedLease.{ListedLease}
use Rattle.manager_model.specs.Decisions.{Decision}
use Rattle.machines_c.specs.declared.manager.decision.ManagerDecision.{ManagerDecision}
use Rattle.machines_c.specs.declared.manager.listed_leases.ListedLeaseFields.{ListedLeaseFields}
use Rattle.machines_c.specs.declared.manager.listed_requests.RequestFields.{RequestFields}
use Rattle.machines_c.specs.declared.manager.listing.OpenFields.{OpenFields}
use Rattle.machines_c.specs.declared.manager.leases.LeaseFields.{LeaseFields}

-- a decision for a client, about what it asked under a tag
abbrev pub of_kind : ℕ → ℕ → ℕ → ManagerDecision
of_kind kind client tag = record {
  client = client;
  tag = tag;
  file_id = 0;
  key = replicate 16 0;
  kind = kind;
  status = 0;
  state = 0;
  current_state = 0;
  new_state = 0;
  has_lease = 0;
  breaking = 0;
  durable = 0;
  ack_required = 0;
  number = 0;
  reserved = replicate 16 0;
}

-- with the lease that a create is granted
abbrev pub with_lease : Option LeaseGiven → ManagerDecision → ManagerDecision
with_lease None fields = fields
with_lease (Some lease) fields = record fields {
  key = lease.key;
  state = bits_of_state lease.state;
  has_lease = 1;
  breaking = flag_of lease.in_progress;
}

abbrev pub decision_fields : Decision → ManagerDecision
decision_fields (Decision.Opened client tag file_id answer) =
    with_lease answer.lease (record (of_kind 1 client tag) { file_id = file_id; durable = flag_of answer.durable })
decision_fields (Decision.GoesOn client tag) = of_kind 2 client tag
decision_fields (Decision.Closed client tag) = of_kind 3 client tag
decision_fields (Decision.Refused client tag status) = record (of_kind 4 client tag) { status = code_of status }
decision_fields (Decision.Waits client tag) = of_kind 5 client tag
decision_fields (Decision.Withdrawn client tag) = of_kind 6 client tag
decision_fields (Decision.Breaks client notice) = record (of_kind 7 client 0) {
  key = notice.key;
  current_state = bits_of_state notice.current;
  new_state = bits_of_state notice.lowered;
  ack_required = flag_of notice.ack_required;
}
decision_fields (Decision.Acknowledged client given) =
    record (of_kind 8 client 0) { key = given.key; state = bits_of_state given.state }
decision_fields (Decision.NotAcknowledged client status) = record (of_kind 9 client 0) { status = code_of status }
decision_fields (Decision.Ended file_id) = record (of_kind 10 0 0) { file_id = file_id }
decision_fields (Decision.LeftBehind file_id) = record (of_kind 11 0 0) { file_id = file_id }

-- the number of the timer that a decision starts
abbrev pub number_field : Option ℕ → ℕ
number_field None = 0
number_field (Some number) = number

-- a decision of the last call, with the number that it was told
abbrev pub told_fields : code.Decision → Option ℕ → ManagerDecision
told_fields decision number = record (decision_fields (decision_of decision)) { number = number_field number }

abbrev pub key_field : Option (List ℕ) → List ℕ
key_field None = replicate 16 0
key_field (Some key) = key

-- an open, as it is listed
abbrev pub open_fields : Open → OpenFields
open_fields one = record {
  file_id = one.file_id;
  client = one.client;
  file = one.file;
  key = key_field one.lease_key;
  has_key = flag_of (is_some one.lease_key);
  access = bits_of_uses (uses_of one.access);
  share = bits_of_uses (allowed_by one.share);
  durable = flag_of one.durable;
  connected = flag_of one.connected;
  reserved = replicate 27 0;
}

abbrev pub state_field : Option State → ℕ
state_field None = 0
state_field (Some state) = bits_of_state state

-- a lease, with what it is broken to while a break waits for its acknowledgment
abbrev pub lease_fields : Lease → LeaseFields
lease_fields lease = record {
  state = bits_of_state lease.state;
  broken_to = state_field lease.broken_to;
  breaking = flag_of (is_some lease.broken_to);
  reserved = replicate 23 0;
}

-- a lease, as it is listed
abbrev pub listed_lease_fields : ListedLease → ListedLeaseFields
listed_lease_fields one = record {
  client = one.client.0;
  file = one.file.0;
  opens = one.opens;
  key = one.key.0;
  state = bits_of_state (lease_listed one).state;
  broken_to = state_field (lease_listed one).broken_to;
  breaking = flag_of (is_some (lease_listed one).broken_to);
  reserved = replicate 31 0;
}

-- a request that waits, of this kind
abbrev pub request_of_kind : ℕ → ℕ → Waiting → RequestFields
request_of_kind kind file_id one = record {
  file = one.file;
  client = one.client;
  tag = one.tag;
  file_id = file_id;
  key = replicate 16 0;
  state = 0;
  kind = kind;
  access = 0;
  share = 0;
  has_lease = 0;
  durable = 0;
  has_reconnect = 0;
  reserved = replicate 27 0;
}

-- with the lease that a create asks for
abbrev pub with_lease_asked : Option LeaseOf → RequestFields → RequestFields
with_lease_asked None fields = fields
with_lease_asked (Some asked) fields = record fields {
  key = asked.key;
  state = bits_of_state asked.state;
  has_lease = 1;
}

-- with the durable open that it asks for again
abbrev pub with_reconnect : Option ℕ → RequestFields → RequestFields
with_reconnect None fields = fields
with_reconnect (Some file_id) fields = record fields { file_id = file_id; has_reconnect = 1 }

abbrev pub with_ask : Option CreateAsk → RequestFields → RequestFields
with_ask None fields = fields
with_ask (Some ask) fields =
    with_reconnect ask.reconnect (with_lease_asked ask.lease (record fields { durable = flag_of ask.durable }))

abbrev pub request_fields_by : Waiting → FileRequest → RequestFields
request_fields_by one (FileRequest.Create file access share ask) = with_ask ask (record (request_of_kind 1 0 one) {
  access = bits_of_uses (uses_of access);
  share = bits_of_uses (allowed_by share);
})
request_fields_by one (FileRequest.Read file_id) = request_of_kind 2 file_id one
request_fields_by one (FileRequest.Write file_id number patch) = request_of_kind 3 file_id one
request_fields_by one (FileRequest.Close file_id) = request_of_kind 4 file_id one

-- a request that waits, as it is listed
abbrev pub request_fields : Waiting → RequestFields
request_fields one = request_fields_by one one.request
