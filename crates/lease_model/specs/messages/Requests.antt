-- What a client asks of a server. Messages are abstract: in place of bytes stands what a reader
-- finds in them, or None where it finds a fault.
use Rattle.std.specs.Prelude.{ℕ, Bool, List, Option}
use Rattle.lease_state.specs.State.{State}
use Rattle.lease_state.specs.declared.access.Access.{Access}
use Rattle.lease_state.specs.declared.access.Share.{Share}
use Rattle.lease_state.specs.declared.patch.Patch.{Patch}

-- a LeaseKey with a state: the RqLs context of a request (MS-SMB2 2.2.13.2.8), and what an
-- acknowledgment (2.2.24.2) and its response (2.2.25.2) say
pub record LeaseOf : Type 0 where
  pub key : List ℕ
  pub state : State

-- the create contexts of a request (2.2.13.2): RqLs, DHnQ, and DHnC with the FileId that it names
pub record CreateAsk : Type 0 where
  pub lease : Option LeaseOf
  pub durable : Bool
  pub reconnect : Option ℕ

-- requests about a file: CREATE (2.2.13), READ (2.2.19), WRITE (2.2.21) with the client's own number of
-- the write, and CLOSE (2.2.15)
pub data FileRequest : Type 0 where
  Create : (file : ℕ) (access : Access) (share : Share) (contexts : Option CreateAsk) → FileRequest
  Read : (file_id : ℕ) → FileRequest
  Write : (file_id : ℕ) (number : ℕ) (patch : Patch) → FileRequest
  Close : (file_id : ℕ) → FileRequest

-- one of these, or the acknowledgment of a lease break (2.2.24.2)
pub data Request : Type 0 where
  OnFile : (request : FileRequest) → Request
  Acknowledge : (acknowledged : Option LeaseOf) → Request
