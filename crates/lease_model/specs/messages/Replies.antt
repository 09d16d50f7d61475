-- What a server sends to a client, and what a call of the server gives out.
use Rattle.std.specs.Prelude.{ℕ, Bool, List, Option}
use Rattle.lease_state.specs.State.{State}
use Rattle.lease_state.specs.declared.status.Status.{Status}
use Rattle.lease_state.specs.declared.patch.Patch.{Patch}
use Rattle.lease_model.specs.messages.Requests.{LeaseOf}

-- the RqLs context of a reply (MS-SMB2 2.2.14.2.10), with the flag BREAK_IN_PROGRESS
pub record LeaseGiven : Type 0 where
  pub key : List ℕ
  pub state : State
  pub in_progress : Bool

-- the create contexts of a reply (2.2.14.2): RqLs and DHnQ
pub record CreateAnswer : Type 0 where
  pub lease : Option LeaseGiven
  pub durable : Bool

-- a lease break notification (2.2.23.2): the state that the lease had and the one that it is to have
pub record BreakNotice : Type 0 where
  pub ack_required : Bool
  pub key : List ℕ
  pub current : State
  pub lowered : State

-- the replies, failed ones with their status, and the break notification, which answers nothing
pub data Reply : Type 0 where
  Created : (file : ℕ) (file_id : ℕ) (contexts : Option CreateAnswer) → Reply
  CreateFailed : (file : ℕ) (status : Status) → Reply
  ReadDone : (file_id : ℕ) (bytes : List ℕ) → Reply
  ReadFailed : (file_id : ℕ) (status : Status) → Reply
  WriteDone : (file_id : ℕ) (number : ℕ) → Reply
  WriteFailed : (file_id : ℕ) (number : ℕ) (status : Status) → Reply
  Closed : (file_id : ℕ) → Reply
  CloseFailed : (file_id : ℕ) (status : Status) → Reply
  Break : (notice : Option BreakNotice) → Reply
  AckDone : (response : Option LeaseOf) → Reply
  AckFailed : (status : Status) → Reply

-- What the server did that others can see (profile): it sent a reply to a client, opened a file for
-- a client, or changed a file by the numbered write of a client.
pub data Out : Type 0 where
  Sent : (client : ℕ) (reply : Reply) → Out
  Opened : (file : ℕ) (client : ℕ) → Out
  Changed : (file : ℕ) (client : ℕ) (number : ℕ) (patch : Patch) → Out
