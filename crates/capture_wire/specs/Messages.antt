-- What a whole message says, by its header's command and direction. Places count from the header's start.
use Rattle.std.specs.Prelude.{◌≡◌, ◌≢◌, ℕ, ◌+◌, ◌==◌, nat_lt, Bool, true, false, not, ◌&&◌, if◌then◌else◌, ⊤, List, length}
use Rattle.std.specs.Prelude.{take, drop, Option, Some, None}
use Rattle.std.specs.Option.{option_map}
use Rattle.lease_wire.specs.Field.{number_at}
use Rattle.lease_wire.specs.Acknowledgment.{IsAcknowledgment, acknowledged_of, responded_of}
use Rattle.lease_wire.specs.Notification.{IsNotification, notice_of}
use Rattle.lease_wire.specs.Message.{items_in}
use Rattle.lease_wire.specs.declared.acknowledgment.BreakResponse.{BreakResponse}
use Rattle.lease_wire.specs.declared.notification.Notification.{Notification}
use Rattle.lease_wire.specs.WireFaults as wire
use Rattle.lease_wire.specs.declared.create.Direction.TheVariants as direction
use Rattle.lease_wire.specs.declared.fault.WireFault.{WireFault}
use Rattle.capture_wire.specs.Fields.{file_id_at, has_flag}
use Rattle.capture_wire.specs.Faults.{header_fault, fixed_fault, negotiate_request_fault, tree_connect_request_fault}
use Rattle.capture_wire.specs.Faults.{create_request_fault, set_info_request_fault}
use Rattle.capture_wire.specs.Header.{IsHeader}
use Rattle.capture_wire.specs.Connecting.{IsNegotiateRequest, IsNegotiateResponse, IsSessionSetupRequest, IsTreeConnectRequest}
use Rattle.capture_wire.specs.Files.{IsCreateRequest, IsCreateResponse, IsCloseRequest, IsReadRequest, IsWriteRequest}
use Rattle.capture_wire.specs.Files.{IsSetInfoRequest}
use Rattle.capture_wire.specs.Contexts.{new_epoch_of}
use Rattle.capture_wire.specs.Creates.{AreContexts, contexts_fault}
use Rattle.capture_wire.specs.declared.fault.MessageFault.{MessageFault}
use Rattle.capture_wire.specs.declared.fault.MessageFault.TheVariants as fault
use Rattle.capture_wire.specs.declared.header.Header.{Header}
use Rattle.capture_wire.specs.declared.command.Command.{Command}
use Rattle.capture_wire.specs.declared.command.Command.TheVariants as command
use Rattle.capture_wire.specs.declared.message.Unreadable.{Unreadable}
use Rattle.capture_wire.specs.declared.message.Unreadable.TheVariants as unreadable
use Rattle.capture_wire.specs.declared.message.Request.{Request}
use Rattle.capture_wire.specs.declared.message.Request.TheVariants as request
use Rattle.capture_wire.specs.declared.message.Response.{Response}
use Rattle.capture_wire.specs.declared.message.Response.TheVariants as response
use Rattle.capture_wire.specs.declared.message.Content.{Content}
use Rattle.capture_wire.specs.declared.message.Content.TheVariants as content
use Rattle.capture_wire.specs.declared.message.Message.{Message}

-- ---- commands

-- Command of the header (MS-SMB2 2.2.1)
abbrev pub command_of : ℕ → Command
command_of number =
    if number == 0 then command.Negotiate
    else if number == 1 then command.SessionSetup
    else if number == 2 then command.Logoff
    else if number == 3 then command.TreeConnect
    else if number == 4 then command.TreeDisconnect
    else if number == 5 then command.Create
    else if number == 6 then command.Close
    else if number == 7 then command.Flush
    else if number == 8 then command.Read
    else if number == 9 then command.Write
    else if number == 10 then command.Lock
    else if number == 11 then command.Ioctl
    else if number == 12 then command.Cancel
    else if number == 13 then command.Echo
    else if number == 14 then command.QueryDirectory
    else if number == 15 then command.ChangeNotify
    else if number == 16 then command.QueryInfo
    else if number == 17 then command.SetInfo
    else if number == 18 then command.OplockBreak
    else command.Unknown

-- ---- requests

-- why the message is no acknowledgment of a lease break (2.2.24.2), as one of an oplock break isn't
abbrev pub acknowledgment_fault : List ℕ → Option WireFault
acknowledgment_fault message = wire.message_fault 36 (drop 64 message)

-- Of FLUSH (2.2.17), LOCK (2.2.26), IOCTL (2.2.31), QUERY_DIRECTORY (2.2.33), CHANGE_NOTIFY (2.2.35) and QUERY_INFO (2.2.37) only
-- the FileId counts.
abbrev pub IsRequest : Command → List ℕ → Request → Type 0
IsRequest command.Negotiate message (request.Negotiate asked) = IsNegotiateRequest message asked
IsRequest command.SessionSetup message (request.SessionSetup asked) = IsSessionSetupRequest message asked
IsRequest command.Logoff message request.Logoff = ⊤
IsRequest command.TreeConnect message (request.TreeConnect asked) = IsTreeConnectRequest message asked
IsRequest command.TreeDisconnect message request.TreeDisconnect = ⊤
IsRequest command.Create message (request.Create asked contexts) =
    IsCreateRequest message asked × AreContexts direction.Request (items_in direction.Request message) contexts
IsRequest command.Close message (request.Close asked) = IsCloseRequest message asked
IsRequest command.Read message (request.Read asked) = IsReadRequest message asked
IsRequest command.Write message (request.Write asked) = IsWriteRequest message asked
IsRequest command.SetInfo message (request.SetInfo asked) = IsSetInfoRequest message asked
IsRequest command.OplockBreak message (request.Acknowledge given) =
    (acknowledgment_fault message ≡ None) × IsAcknowledgment (take 36 (drop 64 message)) (acknowledged_of given)
IsRequest command.OplockBreak message request.Other = acknowledgment_fault message ≢ None
IsRequest command.Cancel message request.Other = ⊤
IsRequest command.Echo message request.Other = ⊤
IsRequest command.Unknown message request.Other = ⊤
IsRequest command.Flush message (request.OnOpen file_id) = file_id ≡ file_id_at 72 message
IsRequest command.Lock message (request.OnOpen file_id) = file_id ≡ file_id_at 72 message
IsRequest command.Ioctl message (request.OnOpen file_id) = file_id ≡ file_id_at 72 message
IsRequest command.QueryDirectory message (request.OnOpen file_id) = file_id ≡ file_id_at 72 message
IsRequest command.ChangeNotify message (request.OnOpen file_id) = file_id ≡ file_id_at 72 message
IsRequest command.QueryInfo message (request.OnOpen file_id) = file_id ≡ file_id_at 88 message
IsRequest asked message _ = ⊥

-- ---- responses

-- 0xffffffffffffffff, the MessageId of a message that answers no request (2.2.23)
abbrev pub unasked : ℕ
unasked = 18446744073709551615

-- the response grants what a request of the command asked for: its Status is STATUS_SUCCESS
abbrev pub is_granted : ℕ → Header → Bool
is_granted command header = header.command == command && header.status == 0

-- the message is a notification of a break
abbrev pub is_break : Header → Bool
is_break header = header.command == 18 && header.message_id == unasked

-- why the message is no notification of a lease break (2.2.23.2), as one of an oplock break isn't
abbrev pub notification_fault : List ℕ → Option WireFault
notification_fault message = wire.message_fault 44 (drop 64 message)

-- NewEpoch stands in what version 1 reserves
abbrev pub IsNotice : Header → List ℕ → Notification → ℕ → Type 0
IsNotice header message notification new_epoch =
    (is_break header ≡ true) × (notification_fault message ≡ None)
    × IsNotification (take 44 (drop 64 message)) (notice_of notification) × (new_epoch ≡ new_epoch_of message)

-- the notification that a message of the server is, if it is one
abbrev pub IsNoticeOf : Header → List ℕ → Option (Notification × ℕ) → Type 0
IsNoticeOf header message None = is_break header ≡ true → notification_fault message ≢ None
IsNoticeOf header message (Some notice) = IsNotice header message notice.0 notice.1

-- the response accepts what a request of OPLOCK_BREAK acknowledged
abbrev pub is_accepted : Header → Bool
is_accepted header = is_granted 18 header && not (header.message_id == unasked)

-- a response to the acknowledgment of a lease break (2.2.25.2), which is laid out as the acknowledgment is
abbrev pub IsAccepted : Header → List ℕ → BreakResponse → Type 0
IsAccepted header message accepted =
    (is_accepted header ≡ true) × (acknowledgment_fault message ≡ None)
    × IsAcknowledgment (take 36 (drop 64 message)) (responded_of accepted)

abbrev pub IsAcceptedOf : Header → List ℕ → Option BreakResponse → Type 0
IsAcceptedOf header message None = is_accepted header ≡ true → acknowledgment_fault message ≢ None
IsAcceptedOf header message (Some accepted) = IsAccepted header message accepted

-- what a message of the server says of a break of a lease, if it does
abbrev pub IsBreak : Header → List ℕ → Response → Type 0
IsBreak header message (response.Break notification new_epoch) = IsNotice header message notification new_epoch
IsBreak header message (response.Accepted accepted) = IsAccepted header message accepted
IsBreak header message response.Other = IsNoticeOf header message None × IsAcceptedOf header message None
IsBreak header message _ = ⊥

abbrev pub IsResponse : Header → List ℕ → Response → Type 0
IsResponse header message (response.Negotiate given) = (is_granted 0 header ≡ true) × IsNegotiateResponse message given
IsResponse header message (response.Create given contexts) =
    (is_granted 5 header ≡ true) × IsCreateResponse message given
    × AreContexts direction.Reply (items_in direction.Reply message) contexts
IsResponse header message (response.Break notification new_epoch) = IsNotice header message notification new_epoch
IsResponse header message (response.Accepted accepted) = IsAccepted header message accepted
IsResponse header message response.Other =
    (is_granted 0 header ≡ false) × (is_granted 5 header ≡ false) × IsBreak header message response.Other

-- ---- messages

abbrev pub IsContent : Header → List ℕ → Content → Type 0
IsContent header message (content.Request asked) =
    (header.response ≡ false) × IsRequest (command_of header.command) message asked
IsContent header message (content.Response given) = (header.response ≡ true) × IsResponse header message given

pub record IsMessage (bytes : List ℕ) (message : Message) : Type 0 where
  pub header : IsHeader bytes message.header
  pub content : IsContent message.header bytes message.content

-- ---- faults

abbrev pub of_message : Option MessageFault → Option Unreadable
of_message found = option_map (λ one. unreadable.Message one) found

-- the fault of a CREATE message's fixed part and name, or else that of its contexts
abbrev pub create_fault : Option MessageFault → Option Unreadable → Option Unreadable
create_fault (Some one) contexts = Some (unreadable.Message one)
create_fault None contexts = contexts

-- the message ends within the FileId
abbrev pub file_id_fault : ℕ → List ℕ → Option MessageFault
file_id_fault place message = if nat_lt (length message) (place + 16) then Some fault.Short else None

abbrev pub request_fault : Command → List ℕ → Option Unreadable
request_fault command.Negotiate message = of_message (negotiate_request_fault message)
request_fault command.SessionSetup message = of_message (fixed_fault 88 25 message)
request_fault command.TreeConnect message = of_message (tree_connect_request_fault message)
request_fault command.Create message =
    create_fault (create_request_fault message)
    (option_map (λ one. unreadable.Contexts one) (contexts_fault direction.Request message))
request_fault command.Close message = of_message (fixed_fault 88 24 message)
request_fault command.Read message = of_message (fixed_fault 112 49 message)
request_fault command.Write message = of_message (fixed_fault 112 49 message)
request_fault command.SetInfo message = of_message (set_info_request_fault message)
request_fault command.Flush message = of_message (file_id_fault 72 message)
request_fault command.Lock message = of_message (file_id_fault 72 message)
request_fault command.Ioctl message = of_message (file_id_fault 72 message)
request_fault command.QueryDirectory message = of_message (file_id_fault 72 message)
request_fault command.ChangeNotify message = of_message (file_id_fault 72 message)
request_fault command.QueryInfo message = of_message (file_id_fault 88 message)
request_fault other message = None

-- only what is granted is read further; of a header's fields this takes Command and Status
abbrev pub response_fault : ℕ → ℕ → List ℕ → Option Unreadable
response_fault command status message =
    if command == 0 && status == 0 then of_message (fixed_fault 128 65 message)
    else if command == 5 && status == 0 then
    create_fault (fixed_fault 152 89 message)
    (option_map (λ one. unreadable.Contexts one) (contexts_fault direction.Reply message))
    else None

-- the fault of what the command of a header has
abbrev pub content_fault_of : Header → List ℕ → Option Unreadable
content_fault_of header bytes =
    if header.response then response_fault header.command header.status bytes
    else request_fault (command_of header.command) bytes

abbrev pub content_fault : List ℕ → Option Unreadable
content_fault bytes =
    if has_flag 1 (number_at 16 4 bytes) then response_fault (number_at 12 2 bytes) (number_at 8 4 bytes) bytes
    else request_fault (command_of (number_at 12 2 bytes)) bytes

abbrev pub content_fault_after : Option MessageFault → List ℕ → Option Unreadable
content_fault_after (Some one) bytes = Some (unreadable.Message one)
content_fault_after None bytes = content_fault bytes

-- why bytes hold no message that can be read: the fault of the header, or else that of what its command has
abbrev pub unreadable_of : List ℕ → Option Unreadable
unreadable_of bytes = content_fault_after (header_fault bytes) bytes
