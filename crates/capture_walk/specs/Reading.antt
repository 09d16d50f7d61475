-- What a message of a compound tells the walk (MS-SMB2 3.3.5.2.7).
use Rattle.std.specs.Prelude.{ℕ, ◌==◌, ◌&&◌, ◌||◌, Bool, true, false, not, if◌then◌else◌, List, [], ◌∷◌}
use Rattle.std.specs.Prelude.{Option, Some, None}
use Rattle.std.specs.Option.{option_map}
use Rattle.lease_state.specs.State.{State, state_of}
use Rattle.lease_state.specs.declared.key.LeaseKey.{LeaseKey}
use Rattle.lease_state.specs.declared.state.LeaseState.{LeaseState}
use Rattle.capture_judge.specs.declared.values.Level.{Level}
use Rattle.capture_judge.specs.declared.values.Level.TheVariants as level
use Rattle.capture_wire.specs.Fields.{has_flag}
use Rattle.capture_wire.specs.declared.field.Smb2FileId.{Smb2FileId}
use Rattle.capture_wire.specs.declared.header.Header.{Header}
use Rattle.capture_wire.specs.declared.header.TreeOrAsync.{TreeOrAsync}
use Rattle.capture_wire.specs.declared.header.TreeOrAsync.TheVariants.{TreeId, AsyncId}
use Rattle.capture_wire.specs.declared.contexts.LeaseContext.{LeaseContext}
use Rattle.capture_wire.specs.declared.contexts.CreateContexts.{CreateContexts}
use Rattle.capture_wire.specs.declared.create.CreateRequest.{CreateRequest}
use Rattle.capture_wire.specs.declared.create.CreateResponse.{CreateResponse}
use Rattle.capture_wire.specs.declared.set_info.SetInfoRequest.{SetInfoRequest}
use Rattle.capture_wire.specs.declared.message.Message.{Message}
use Rattle.capture_wire.specs.declared.message.Content.{Content}
use Rattle.capture_wire.specs.declared.message.Content.TheVariants as content
use Rattle.capture_wire.specs.declared.message.Request.{Request}
use Rattle.capture_wire.specs.declared.message.Request.TheVariants as request
use Rattle.capture_wire.specs.declared.message.Response.{Response}
use Rattle.capture_wire.specs.declared.message.Response.TheVariants as response
use Rattle.capture_walk.specs.Opens.{is_file_id}
use Rattle.capture_walk.specs.declared.note.LeaseGiven.{LeaseGiven}
use Rattle.capture_walk.specs.declared.note.Note.{Note}
use Rattle.capture_walk.specs.declared.note.Note.TheVariants as note
use Rattle.capture_walk.specs.declared.reading.Named.{Named}
use Rattle.capture_walk.specs.declared.reading.Named.TheVariants as named
use Rattle.capture_walk.specs.declared.reading.Ids.{Ids}

-- ---- which open a request is about

-- the FileId by which a related request names the open of the request before it
abbrev pub is_previous : Smb2FileId → Bool
is_previous file_id = file_id.persistent == 18446744073709551615 && file_id.volatile == 18446744073709551615

-- what a request itself has
abbrev pub own_named : Content → Named
own_named (content.Request (request.Create asked contexts)) = named.Created
own_named (content.Request (request.Close asked)) = named.Open asked.file_id
own_named (content.Request (request.Read asked)) = named.Open asked.file_id
own_named (content.Request (request.Write asked)) = named.Open asked.file_id
own_named (content.Request (request.SetInfo asked)) = named.Open asked.file_id
own_named (content.Request (request.OnOpen file_id)) = named.Open file_id
own_named _ = named.Nothing

abbrev pub alone : Named → Named
alone (named.Open file_id) = if is_previous file_id then named.Nothing else named.Open file_id
alone other = other

-- A related request is about what the one before it is about. Where it has another FileId of its own, servers differ.
abbrev pub agreed : Smb2FileId → Named → Named
agreed file_id named.Nothing = named.Open file_id
agreed file_id (named.Open other) = if is_file_id file_id other then named.Open file_id else named.Unclear
agreed file_id _ = named.Unclear

abbrev pub related_named : Named → Named → Named
related_named (named.Open file_id) before = if is_previous file_id then before else agreed file_id before
related_named named.Nothing before = before
related_named other before = other

-- by the message before it in its compound, if there is one
abbrev pub ids_by : Header → Named → Option Ids → Ids
ids_by header own None =
    record { session = header.session_id; tree = header.tree_or_async; file = alone own }
ids_by header own (Some before) =
    if header.related then record { session = before.session; tree = before.tree; file = related_named own before.file }
    else record { session = header.session_id; tree = header.tree_or_async; file = alone own }

abbrev pub ids_of : Message → Option Ids → Ids
ids_of message before = ids_by message.header (own_named message.content) before

-- a CLOSE that is related to the CREATE before these messages of its compound closes what it opens
abbrev pub closed_by : Content → Bool → Bool
closed_by (content.Request (request.Close asked)) behind = true
closed_by (content.Request (request.Create asked contexts)) behind = false
closed_by _ behind = behind

abbrev pub closed_behind : List Message → Bool
closed_behind [] = false
closed_behind (message ∷ later) =
    if message.header.related then closed_by message.content (closed_behind later) else false

-- ---- what requests tell

-- W beside anything clashes, and anything else only with W
abbrev pub level_of : State → Level
level_of state = if state.write then level.Writes else if state.read || state.handle then level.Something else level.Nothing

abbrev pub level_in : LeaseState → Level
level_in state = level_of (state_of state)

-- FileRenameInformation, FileLinkInformation, FileRenameInformationEx and FileLinkInformationEx (MS-FSCC 2.4)
abbrev pub changes_names : SetInfoRequest → Bool
changes_names asked =
    asked.info_type == 1 && ((asked.class == 10 || asked.class == 11) || (asked.class == 65 || asked.class == 72))

abbrev pub on_open : ℕ → Ids → Named → Note
on_open id ids (named.Open file_id) = note.OnOpen (record { id = id; session = ids.session; file_id = file_id })
on_open id ids named.Unclear = note.Gap
on_open id ids _ = note.Other

abbrev pub close : ℕ → Ids → Named → Note
close id ids (named.Open file_id) = note.Close (record { id = id; session = ids.session; file_id = file_id })
close id ids named.Unclear = note.Gap
close id ids _ = note.Other

abbrev pub leave_tree : Ids → TreeOrAsync → Note
leave_tree ids (TreeId tree) = note.LeaveTree (record { session = ids.session; tree = tree })
leave_tree ids (AsyncId async) = note.Gap

abbrev pub lease_key : LeaseContext → LeaseKey
lease_key lease = lease.key

abbrev pub create_asked : ℕ → Bool → CreateRequest → CreateContexts → TreeOrAsync → Note
create_asked id closes asked contexts (TreeId tree) = note.CreateAsked (record {
  id = id;
  tree = tree;
  name = asked.name;
  key = option_map lease_key contexts.lease;
  unnamed = contexts.reconnect || contexts.snapshot;
  closes = closes;
  application = contexts.app_instance;
})
create_asked id closes asked contexts (AsyncId async) = note.Gap

abbrev pub request_note : Header → Request → Ids → Bool → Note
request_note header (request.Negotiate asked) ids closes = note.Negotiate asked.client_guid
request_note header (request.SessionSetup asked) ids closes =
    if asked.previous_session_id == 0 then note.Other else note.Leave asked.previous_session_id
request_note header request.Logoff ids closes = note.Leave ids.session
request_note header (request.TreeConnect asked) ids closes =
    note.TreeAsked (record { id = header.message_id; path = asked.path })
request_note header request.TreeDisconnect ids closes = leave_tree ids ids.tree
request_note header (request.Create asked contexts) ids closes =
    create_asked header.message_id closes asked contexts ids.tree
request_note header (request.Close asked) ids closes = close header.message_id ids ids.file
request_note header (request.SetInfo asked) ids closes =
    if changes_names asked then note.RenameAsked header.message_id else on_open header.message_id ids ids.file
request_note header (request.Read asked) ids closes = on_open header.message_id ids ids.file
request_note header (request.Write asked) ids closes = on_open header.message_id ids ids.file
request_note header (request.OnOpen file_id) ids closes = on_open header.message_id ids ids.file
request_note header (request.Acknowledge given) ids closes =
    note.Acknowledge (record { id = header.message_id; key = given.key; level = level_in given.state })
request_note header request.Other ids closes = note.Asked header.message_id

-- ---- what responses tell

abbrev pub lease_found : LeaseContext → LeaseGiven
lease_found lease = record {
  key = lease.key;
  state = lease.state;
  level = level_in lease.state;
  breaking = lease.breaking;
  epoch = lease.epoch;
}

-- Only leases on files count. A folder has FILE_ATTRIBUTE_DIRECTORY, and where a lease is granted OplockLevel is
-- SMB2_OPLOCK_LEVEL_LEASE.
abbrev pub lease_given : CreateResponse → Option LeaseContext → Option LeaseGiven
lease_given given lease =
    if given.oplock_level == 255 && not (has_flag 16 given.attributes) then option_map lease_found lease else None

-- FILE_SUPERSEDED or FILE_CREATED
abbrev pub is_new : CreateResponse → Bool
is_new given = given.action == 0 || given.action == 2

abbrev pub tree_note : Header → TreeOrAsync → Note
tree_note header (TreeId tree) =
    note.TreeGiven (record { id = header.message_id; session = header.session_id; tree = tree })
tree_note header (AsyncId async) = note.Gap

-- The server has no such session (USER_SESSION_DELETED, MS-SMB2 3.3.5.2.9), no such tree connect (NETWORK_NAME_DELETED,
-- 3.3.5.2.11) or no such open (FILE_CLOSED, as 3.3.5.12 has it for READ): it may have ended any of these by itself.
abbrev pub is_gone : ℕ → Bool
is_gone status = status == 3221225987 || (status == 3221225673 || status == 3221225768)

-- The server did what the request asks. A READ from the end of a file on gives no bytes (END_OF_FILE), and is of an open that
-- is there (3.3.5.12).
abbrev pub is_done : Header → Bool
is_done header = header.status == 0 || (header.command == 8 && header.status == 3221225489)

-- a response that nothing was read of: that of TREE_CONNECT counts where it is of STATUS_SUCCESS, and one of STATUS_PENDING is
-- not for good
abbrev pub other_note : Header → Note
other_note header =
    if header.status == 259 then note.Other
    else if header.command == 3 && header.status == 0 then tree_note header header.tree_or_async
    else if is_done header then note.Done header.message_id
    else if is_gone header.status then note.Gone header.message_id
    else note.Answered header.message_id

abbrev pub response_note : Header → Response → Note
response_note header (response.Negotiate given) = note.Answered header.message_id
response_note header (response.Create given contexts) = note.CreateGiven (record {
  id = header.message_id;
  session = header.session_id;
  file_id = given.file_id;
  is_new = is_new given;
  creation_time = given.creation_time;
  on_disk = contexts.on_disk;
  lease = lease_given given contexts.lease;
})
response_note header (response.Break notification new_epoch) = note.Break (record {
  key = notification.key;
  state = notification.new;
  level = level_in notification.new;
  acknowledged = notification.ack_required;
  epoch = new_epoch;
})
response_note header (response.Accepted accepted) = note.Done header.message_id
response_note header response.Other = other_note header

abbrev pub content_note : Header → Content → Ids → Bool → Note
content_note header (content.Request asked) ids closes = request_note header asked ids closes
content_note header (content.Response given) ids closes = response_note header given

-- what a message tells, by the ids that it goes by, and whether a CREATE is closed in the same compound
abbrev pub note_of : Message → Ids → Bool → Note
note_of message ids closes = content_note message.header message.content ids closes
