-- The messages by which a client and a server connect: whose a connection, a session and a tree are. Places count from the
-- header's start; fields that aren't named here are free.
use Rattle.std.specs.Prelude.{◌≡◌, ℕ, ◌+◌, ◌*◌, ◌≤◌, List, length, slice_index}
use Rattle.lease_wire.specs.Field.{number_at, bytes_at}
use Rattle.capture_wire.specs.Fields.{has_flag, part_at}
use Rattle.capture_wire.specs.declared.connecting.NegotiateRequest.{NegotiateRequest}
use Rattle.capture_wire.specs.declared.connecting.NegotiateResponse.{NegotiateResponse}
use Rattle.capture_wire.specs.declared.connecting.SessionSetupRequest.{SessionSetupRequest}
use Rattle.capture_wire.specs.declared.connecting.TreeConnectRequest.{TreeConnectRequest}

-- NEGOTIATE request (MS-SMB2 2.2.3): StructureSize at 64, which is 36, DialectCount at 66, SecurityMode at 68, Capabilities at
-- 72, ClientGuid at 76, NegotiateContextOffset and Count or ClientStartTime at 92, Dialects at 100
pub record IsNegotiateRequest (message : List ℕ) (request : NegotiateRequest) : Type 0 where
  pub client_guid : request.client_guid.0 ≡ bytes_at 76 16 message
  pub dialects : request.dialects.now ≡ bytes_at 100 (2 * number_at 66 2 message) message

-- the dialect is one of those that stand in the bytes, two bytes each
abbrev pub IsOffered : ℕ → List ℕ → Type 0
IsOffered dialect dialects = (k : ℕ) × (2 * k + 2 ≤ length dialects) × (number_at (2 * k) 2 dialects ≡ dialect)

-- NEGOTIATE response (2.2.4): StructureSize at 64, which is 65, SecurityMode at 66, DialectRevision at 68,
-- NegotiateContextCount at 70, ServerGuid at 72, and others from 88 on; the fixed part ends at 128
pub record IsNegotiateResponse (message : List ℕ) (response : NegotiateResponse) : Type 0 where
  pub dialect_revision : response.dialect_revision ≡ number_at 68 2 message
  pub server_guid : response.server_guid.0 ≡ bytes_at 72 16 message

-- SESSION_SETUP request (2.2.5): StructureSize at 64, which is 25, Flags at 66, of which the bit of value 1 is
-- SMB2_SESSION_FLAG_BINDING, SecurityMode at 67, Capabilities at 68, Channel at 72, SecurityBufferOffset at 76 and Length at
-- 78, PreviousSessionId at 80; the fixed part ends at 88
pub record IsSessionSetupRequest (message : List ℕ) (request : SessionSetupRequest) : Type 0 where
  pub binding : request.binding ≡ has_flag 1 (slice_index message 66)
  pub previous_session_id : request.previous_session_id ≡ number_at 80 8 message

-- TREE_CONNECT request (2.2.9): StructureSize at 64, which is 9, Flags at 66, PathOffset at 68, PathLength at 70; the fixed
-- part ends at 72
pub record IsTreeConnectRequest (message : List ℕ) (request : TreeConnectRequest) : Type 0 where
  pub path : request.path.now ≡ part_at 68 message
