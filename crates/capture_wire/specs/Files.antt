-- The messages that open, read, write, change and close a file. Places count from the header's start, in a rename from the
-- buffer's; fields that aren't named here are free.
use Rattle.std.specs.Prelude.{◌≡◌, ℕ, ◌==◌, Bool, not, List, slice_index}
use Rattle.lease_wire.specs.Field.{number_at, bytes_at}
use Rattle.capture_wire.specs.Fields.{file_id_at, part_at}
use Rattle.capture_wire.specs.declared.create.CreateRequest.{CreateRequest}
use Rattle.capture_wire.specs.declared.create.CreateResponse.{CreateResponse}
use Rattle.capture_wire.specs.declared.files.CloseRequest.{CloseRequest}
use Rattle.capture_wire.specs.declared.files.ReadRequest.{ReadRequest}
use Rattle.capture_wire.specs.declared.files.WriteRequest.{WriteRequest}
use Rattle.capture_wire.specs.declared.set_info.SetInfoRequest.{SetInfoRequest}
use Rattle.capture_wire.specs.declared.set_info.Rename.{Rename}

-- CREATE request (MS-SMB2 2.2.13): StructureSize at 64, which is 57, RequestedOplockLevel at 67, ImpersonationLevel at 68,
-- SmbCreateFlags at 72, DesiredAccess at 88, FileAttributes at 92, ShareAccess at 96, CreateDisposition at 100, CreateOptions
-- at 104, NameOffset at 108, NameLength at 110, CreateContextsOffset at 112 and Length at 116; the fixed part ends at 120
pub record IsCreateRequest (message : List ℕ) (request : CreateRequest) : Type 0 where
  pub oplock_level : request.oplock_level ≡ slice_index message 67
  pub desired_access : request.desired_access ≡ number_at 88 4 message
  pub share_access : request.share_access ≡ number_at 96 4 message
  pub disposition : request.disposition ≡ number_at 100 4 message
  pub options : request.options ≡ number_at 104 4 message
  pub name : request.name.now ≡ part_at 108 message

-- CREATE response (2.2.14): StructureSize at 64, which is 89, OplockLevel at 66, Flags at 67, CreateAction at 68, CreationTime at
-- 72, other times from 80 on, AllocationSize at 104, EndofFile at 112, FileAttributes at 120, FileId at 128, CreateContextsOffset at 144 and Length
-- at 148; the fixed part ends at 152
pub record IsCreateResponse (message : List ℕ) (response : CreateResponse) : Type 0 where
  pub oplock_level : response.oplock_level ≡ slice_index message 66
  pub action : response.action ≡ number_at 68 4 message
  pub creation_time : response.creation_time ≡ number_at 72 8 message
  pub attributes : response.attributes ≡ number_at 120 4 message
  pub file_id : response.file_id ≡ file_id_at 128 message

-- CLOSE request (2.2.15): StructureSize at 64, which is 24, Flags at 66, FileId at 72; it ends at 88
pub record IsCloseRequest (message : List ℕ) (request : CloseRequest) : Type 0 where
  pub file_id : request.file_id ≡ file_id_at 72 message

-- READ request (2.2.19): StructureSize at 64, which is 49, Padding at 66, Flags at 67, Length at 68, Offset at 72, FileId at
-- 80, MinimumCount at 96, and others from 100 on; the fixed part ends at 112
pub record IsReadRequest (message : List ℕ) (request : ReadRequest) : Type 0 where
  pub file_id : request.file_id ≡ file_id_at 80 message
  pub offset : request.offset ≡ number_at 72 8 message
  pub length : request.length ≡ number_at 68 4 message

-- WRITE request (2.2.21): StructureSize at 64, which is 49, DataOffset at 66, Length at 68, Offset at 72, FileId at 80, and
-- others from 96 on; the fixed part ends at 112
pub record IsWriteRequest (message : List ℕ) (request : WriteRequest) : Type 0 where
  pub file_id : request.file_id ≡ file_id_at 80 message
  pub offset : request.offset ≡ number_at 72 8 message
  pub length : request.length ≡ number_at 68 4 message

-- SET_INFO request (2.2.39): StructureSize at 64, which is 33, InfoType at 66, FileInfoClass at 67, BufferLength at 68,
-- BufferOffset at 72, AdditionalInformation at 76, FileId at 80; the fixed part ends at 96
pub record IsSetInfoRequest (message : List ℕ) (request : SetInfoRequest) : Type 0 where
  pub info_type : request.info_type ≡ slice_index message 66
  pub class : request.class ≡ slice_index message 67
  pub file_id : request.file_id ≡ file_id_at 80 message
  pub buffer : request.buffer.now ≡ bytes_at (number_at 72 2 message) (number_at 68 4 message) message

-- FileRenameInformation of SMB2 (MS-FSCC 2.4.37.2): ReplaceIfExists at 0, RootDirectory at 8, FileNameLength at 16, FileName
-- at 20
pub record IsRename (buffer : List ℕ) (rename : Rename) : Type 0 where
  pub replace_if_exists : rename.replace_if_exists ≡ not (slice_index buffer 0 == 0)
  pub name : rename.name.now ≡ bytes_at 20 (number_at 16 4 buffer) buffer

-- FileDispositionInformation (MS-FSCC 2.4.11): DeletePending at 0
abbrev pub is_delete_pending : List ℕ → Bool
is_delete_pending buffer = not (slice_index buffer 0 == 0)
