-- From the messages of the model to real ones: the very bytes that servers and client machines write.
use Rattle.std.specs.Prelude.{◌≡◌, ℕ, ◌<◌, ◌^◌, ⊤, false, List, [], length, Option, Some, None, IfSome}
use Rattle.std.specs.Option.{option_map}
use Rattle.lease_state.specs.declared.request.Request as real_request
use Rattle.lease_state.specs.declared.reply.Reply as real_reply
use Rattle.lease_wire.specs.Acknowledgment.{KeyAndState, acknowledgment_bytes}
use Rattle.lease_wire.specs.Canonical.{canonical_text}
use Rattle.lease_wire.specs.Names.{LeaseView, CreateView}
use Rattle.lease_wire.specs.Notification.{Notice, notification_bytes}
use Rattle.lease_wire.specs.declared.create.Direction.{Direction}
use Rattle.lease_model.specs.messages.Replies as replies
use Rattle.lease_model.specs.messages.Replies.{LeaseGiven, CreateAnswer, BreakNotice}
use Rattle.lease_model.specs.messages.Requests as requests
use Rattle.lease_model.specs.messages.Requests.{LeaseOf, CreateAsk}

-- ---- what stands for which bytes

-- the contexts of a request and of a response, as the canonical text has them
abbrev pub lease_in_ask : LeaseOf → LeaseView
lease_in_ask lease = record { key = lease.key; state = lease.state; breaking = false }

abbrev pub view_of_ask : CreateAsk → CreateView
view_of_ask ask =
    record { lease = option_map lease_in_ask ask.lease; durable = ask.durable; reconnect = ask.reconnect }

abbrev pub lease_in_answer : LeaseGiven → LeaseView
lease_in_answer lease = record { key = lease.key; state = lease.state; breaking = lease.in_progress }

abbrev pub view_of_answer : CreateAnswer → CreateView
view_of_answer answer =
    record { lease = option_map lease_in_answer answer.lease; durable = answer.durable; reconnect = None }

abbrev pub key_and_state : LeaseOf → KeyAndState
key_and_state lease = record { key = lease.key; state = lease.state }

abbrev pub notice_view : BreakNotice → Notice
notice_view notice = record {
  ack_required = notice.ack_required;
  key = notice.key;
  current = notice.current;
  new = notice.lowered;
}

-- ---- bytes; a message that stands for none that can be read has none

abbrev pub ask_bytes : Option CreateAsk → List ℕ
ask_bytes None = []
ask_bytes (Some ask) = canonical_text Direction.Request (view_of_ask ask)

abbrev pub answer_bytes : Option CreateAnswer → List ℕ
answer_bytes None = []
answer_bytes (Some answer) = canonical_text Direction.Reply (view_of_answer answer)

-- an acknowledgment and its response have one layout
abbrev pub lease_message_bytes : Option LeaseOf → List ℕ
lease_message_bytes None = []
lease_message_bytes (Some lease) = acknowledgment_bytes (key_and_state lease)

abbrev pub notice_bytes : Option BreakNotice → List ℕ
notice_bytes None = []
notice_bytes (Some notice) = notification_bytes (notice_view notice)

abbrev pub file_request_written : requests.FileRequest → real_request.Request
file_request_written (requests.FileRequest.Create file access share contexts) =
    real_request.TheVariants.Create (record { 0 = file }) access share (ask_bytes contexts)
file_request_written (requests.FileRequest.Read file_id) = real_request.TheVariants.Read (record { 0 = file_id })
file_request_written (requests.FileRequest.Write file_id number patch) =
    real_request.TheVariants.Write (record { 0 = file_id }) number patch
file_request_written (requests.FileRequest.Close file_id) = real_request.TheVariants.Close (record { 0 = file_id })

-- the request that a client machine sends
abbrev pub request_written : requests.Request → real_request.Request
request_written (requests.Request.OnFile request) = file_request_written request
request_written (requests.Request.Acknowledge acknowledged) =
    real_request.TheVariants.Ack (lease_message_bytes acknowledged)

-- the reply that a server sends
abbrev pub reply_written : replies.Reply → real_reply.Reply
reply_written (replies.Reply.Created file file_id contexts) =
    real_reply.TheVariants.Created (record { 0 = file }) (record { 0 = file_id }) (answer_bytes contexts)
reply_written (replies.Reply.CreateFailed file status) =
    real_reply.TheVariants.CreateFailed (record { 0 = file }) status
reply_written (replies.Reply.ReadDone file_id bytes) = real_reply.TheVariants.ReadDone (record { 0 = file_id }) bytes
reply_written (replies.Reply.ReadFailed file_id status) =
    real_reply.TheVariants.ReadFailed (record { 0 = file_id }) status
reply_written (replies.Reply.WriteDone file_id number) =
    real_reply.TheVariants.WriteDone (record { 0 = file_id }) number
reply_written (replies.Reply.WriteFailed file_id number status) =
    real_reply.TheVariants.WriteFailed (record { 0 = file_id }) number status
reply_written (replies.Reply.Closed file_id) = real_reply.TheVariants.Closed (record { 0 = file_id })
reply_written (replies.Reply.CloseFailed file_id status) =
    real_reply.TheVariants.CloseFailed (record { 0 = file_id }) status
reply_written (replies.Reply.Break notice) = real_reply.TheVariants.Break (notice_bytes notice)
reply_written (replies.Reply.AckDone response) = real_reply.TheVariants.AckDone (lease_message_bytes response)
reply_written (replies.Reply.AckFailed status) = real_reply.TheVariants.AckFailed status

-- ---- the messages that have bytes: contexts and break messages are there, keys have 16 bytes, and a
-- FileId in contexts fits its field

abbrev pub HasKey : Option LeaseOf → Type 0
HasKey lease = IfSome lease (λ lease. length lease.key ≡ 16)

pub record HasAskBytes (ask : CreateAsk) : Type 0 where
  pub key : HasKey ask.lease
  pub file_id : IfSome ask.reconnect (λ file_id. file_id < 2 ^ 64)

abbrev pub HasAnswerBytes : CreateAnswer → Type 0
HasAnswerBytes answer = IfSome answer.lease (λ lease. length lease.key ≡ 16)

abbrev pub IsReadable : {X : Type 0} → Option X → (X → Type 0) → Type 0
IsReadable None Holds = ⊥
IsReadable (Some x) Holds = Holds x

abbrev pub HasRequestBytes : requests.Request → Type 0
HasRequestBytes (requests.Request.OnFile (requests.FileRequest.Create file access share contexts)) =
    IsReadable contexts HasAskBytes
HasRequestBytes (requests.Request.Acknowledge acknowledged) =
    IsReadable acknowledged (λ lease. length lease.key ≡ 16)
HasRequestBytes request = ⊤

abbrev pub HasReplyBytes : replies.Reply → Type 0
HasReplyBytes (replies.Reply.Created file file_id contexts) = IsReadable contexts HasAnswerBytes
HasReplyBytes (replies.Reply.Break notice) = IsReadable notice (λ notice. length notice.key ≡ 16)
HasReplyBytes (replies.Reply.AckDone response) = IsReadable response (λ lease. length lease.key ≡ 16)
HasReplyBytes reply = ⊤
