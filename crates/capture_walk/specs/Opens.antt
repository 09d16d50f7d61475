-- The opens that there are, with their leases, and which files are known by what. Messages that are called past have the newest
-- one first.
use Rattle.std.specs.Prelude.{◌≡◌, ℕ, ◌==◌, ◌&&◌, ◌||◌, Bool, false, not, if◌then◌else◌, List, [], ◌∷◌, ◌++◌, Option, Some, None}
use Rattle.std.specs.Prelude.{filter, option_to_list, bytes_eq}
use Rattle.lease_state.specs.declared.key.LeaseKey.{LeaseKey}
use Rattle.capture_wire.specs.declared.field.Guid.{Guid}
use Rattle.capture_wire.specs.declared.field.Smb2FileId.{Smb2FileId}
use Rattle.capture_walk.specs.Notes.{create_given}
use Rattle.capture_walk.specs.Clients.{client_of}
use Rattle.capture_walk.specs.Creates.{pending}
use Rattle.capture_walk.specs.Renames.{is_change}
use Rattle.capture_walk.specs.Files.{Place, Naming, naming_given, place_given, file_found, file_by, life_by, placed, identified, remade_in}
use Rattle.capture_walk.specs.Files.{Life, file_at, file_as, HaveBegun}
use Rattle.capture_walk.specs.declared.note.Note.{Note}
use Rattle.capture_walk.specs.declared.note.Note.TheVariants as note
use Rattle.capture_walk.specs.declared.note.CreateGiven.{CreateGiven}
use Rattle.capture_walk.specs.declared.note.LeaseGiven.{LeaseGiven}
use Rattle.capture_walk.specs.declared.note.Seen.{Seen}
use Rattle.capture_walk.specs.declared.event.Lease.{Lease}
use Rattle.capture_walk.specs.declared.event.Remade.{Remade}
use Rattle.capture_walk.specs.declared.creates.Create.{Create}
use Rattle.capture_walk.specs.declared.files.Files.{Files}
use Rattle.capture_walk.specs.declared.files.Identity.{Identity}
use Rattle.capture_walk.specs.declared.opens.Open.{Open}

-- ---- leases of opens

abbrev pub is_under : ℕ → List ℕ → Option Lease → Bool
is_under client key None = false
is_under client key (Some lease) = lease.client == client && bytes_eq lease.key.0 key

-- the key under which a CREATE response grants a lease, where it is the one that was asked for
abbrev pub key_granted : Option LeaseGiven → Option LeaseKey → Option LeaseKey
key_granted None asked = None
key_granted (Some given) None = None
key_granted (Some given) (Some asked) = if bytes_eq given.key.0 asked.0 then Some given.key else None

-- the file of the lease that a client holds at a server under a key
abbrev pub file_under : ℕ → Option ℕ → Option LeaseKey → List Open → Option ℕ
file_under server None key held = None
file_under server (Some client) None held = None
file_under server (Some client) (Some key) [] = None
file_under server (Some client) (Some key) (one ∷ held) =
    if one.server == server && is_under client key.0 one.lease then Some one.file
    else file_under server (Some client) (Some key) held

-- the lease of an open: that of its connection's client under the key on the file
abbrev pub lease_by : Option LeaseKey → Option ℕ → ℕ → Option Lease
lease_by None client file = None
lease_by (Some key) None file = None
lease_by (Some key) (Some client) file = Some (record { client = client; key = key; file = file })

-- ---- what a CREATE opens

abbrev pub open_at : Seen → CreateGiven → Create → Option ℕ → ℕ → Open
open_at seen given create client file = record {
  server = seen.server;
  connection = seen.connection;
  client = client;
  session = given.session;
  tree = create.tree;
  file_id = given.file_id;
  number = seen.number;
  asked = create.position;
  file = file;
  application = create.application;
  lease = lease_by (key_granted given.lease create.key) client file;
}

-- What a CREATE response opens, where its file is known; nothing where it is closed in the same compound.
abbrev pub open_by : Seen → CreateGiven → Option Create → Option ℕ → Option ℕ → Option Open
open_by seen given None client file = None
open_by seen given (Some create) client None = None
open_by seen given (Some create) client (Some file) =
    if create.closes then None else Some (open_at seen given create client file)

-- ---- what ends opens

abbrev pub is_file_id : Smb2FileId → Smb2FileId → Bool
is_file_id one other = one.persistent == other.persistent && one.volatile == other.volatile

abbrev pub is_named : ℕ → ℕ → Smb2FileId → Open → Bool
is_named server session file_id one = (one.server == server && one.session == session) && is_file_id one.file_id file_id

-- A CLOSE ends an open, and so does a response that gives its persistent FileId again, as where it is connected again. LOGOFF
-- ends those of its session, at whichever address, TREE_DISCONNECT those of its tree connect, and the end of a connection those
-- that were opened on it.
abbrev pub ends_by : Note → Seen → Open → Bool
ends_by (note.Close name) seen one = is_named seen.server name.session name.file_id one
ends_by (note.CreateGiven given) seen one =
    one.server == seen.server && one.file_id.persistent == given.file_id.persistent
ends_by (note.Leave session) seen one = one.session == session
ends_by (note.LeaveTree name) seen one = (one.server == seen.server && one.session == name.session) && one.tree == name.tree
ends_by note.End seen one = one.connection == seen.connection
ends_by _ seen one = false

abbrev pub is_application : Option Guid → Option Guid → Bool
is_application None other = false
is_application (Some one) None = false
is_application (Some one) (Some other) = bytes_eq one.0 other.0

abbrev pub is_other_client : Option ℕ → Option ℕ → Bool
is_other_client None other = false
is_other_client (Some one) None = false
is_other_client (Some one) (Some other) = not (one == other)

-- An application that opens the file by another client takes it over from where it ran before (3.3.5.9.13).
abbrev pub is_taken_over : Option Open → Open → Bool
is_taken_over None one = false
is_taken_over (Some made) one = (one.file == made.file && is_application one.application made.application)
    && is_other_client one.client made.client

-- by the open that the message makes
abbrev pub ends : Option Open → Seen → Open → Bool
ends made seen one = ends_by seen.note seen one || is_taken_over made one

abbrev pub is_left : Option Open → Seen → Open → Bool
is_left made seen one = not (ends made seen one)

-- ---- what is known, by looking back

-- the file at a place, and on a disk; the lives of files that began; and the opens
pub record Known : Type 0 where
  pub at : Place → Option ℕ
  pub on_disk : Identity → Option ℕ
  pub begun : List Life
  pub held : List Open

abbrev pub at_place : Option Place → Known → Option ℕ
at_place None known = None
at_place (Some place) known = known.at place

abbrev pub by_identity : Option Identity → Known → Option ℕ
by_identity None known = None
by_identity (Some identity) known = known.on_disk identity

abbrev pub key_asked : Option Create → Option LeaseKey
key_asked None = None
key_asked (Some create) = create.key

-- what the file of a CREATE response is known by
abbrev pub naming : Seen → CreateGiven → List Seen → Known → Option Naming
naming seen given past known = naming_given seen given
    (file_under seen.server (client_of seen.connection past)
    (key_granted given.lease (key_asked (pending seen.connection given.id past))) known.held)
    past

abbrev pub found : Naming → Known → Option ℕ
found naming known = file_found (by_identity naming.identity known) (at_place naming.place known) naming.under

-- which file that is
abbrev pub file_named : Bool → ℕ → Option Naming → Known → Option ℕ
file_named is_new number None known = None
file_named is_new number (Some naming) known = file_by is_new number naming.place (found naming known)

abbrev pub life_named : Bool → ℕ → Option Naming → Known → List Life
life_named is_new number None known = []
life_named is_new number (Some naming) known = life_by naming.place is_new number (found naming known)

abbrev pub place_named : Option Naming → Option Place
place_named None = None
place_named (Some naming) = naming.place

abbrev pub identity_named : Option Naming → Option Identity
identity_named None = None
identity_named (Some naming) = naming.identity

abbrev pub made_by : Seen → Option CreateGiven → List Seen → Known → Option Open
made_by seen None past known = None
made_by seen (Some given) past known = open_by seen given (pending seen.connection given.id past) (client_of seen.connection past)
    (file_named given.is_new seen.number (naming seen given past known) known)

-- what is known of files after a CREATE response, by its file and what that is known by
abbrev pub known_named : Seen → CreateGiven → Option Naming → Known → List Open → Known
known_named seen given name known held = record {
  at = λ place. placed place (place_named name) (file_named given.is_new seen.number name known) (known.at place);
  on_disk = λ identity.
      identified identity (identity_named name) (file_named given.is_new seen.number name known) (known.on_disk identity);
  begun = life_named given.is_new seen.number name known ++ known.begun;
  held = held;
}

-- A server may have several addresses, so that names change at each of them. What a file is on the disk stays.
abbrev pub known_after : Seen → Option CreateGiven → List Seen → Known → List Open → Known
known_after seen (Some given) past known held = known_named seen given (naming seen given past known) known held
known_after seen None past known held = record {
  at = λ place. if is_change seen past then None else known.at place;
  on_disk = known.on_disk;
  begun = known.begun;
  held = held;
}

-- the opens that were there before a message and that it doesn't end, and the one that it makes
abbrev pub held_after : Option Open → Seen → List Open → List Open
held_after made seen held = option_to_list made ++ filter (is_left made seen) held

abbrev pub known : List Seen → Known
known [] = record { at = λ place. None; on_disk = λ identity. None; begun = []; held = [] }
known (seen ∷ past) = known_after seen (create_given seen.note) past (known past)
    (held_after (made_by seen (create_given seen.note) past (known past)) seen (known past).held)

abbrev pub made : Seen → List Seen → Option Open
made seen past = made_by seen (create_given seen.note) past (known past)

abbrev pub opens : List Seen → List Open
opens past = (known past).held

abbrev pub lives : List Seen → List Life
lives past = (known past).begun

-- the file at a place, by the number of the message with which its life began
abbrev pub file_of : Place → List Seen → Option ℕ
file_of place past = (known past).at place

abbrev pub file_in_place : Option Place → List Seen → Option ℕ
file_in_place None past = None
file_in_place (Some place) past = file_of place past

abbrev pub remade_by : Seen → Option CreateGiven → List Seen → Option Remade
remade_by seen None past = None
remade_by seen (Some given) past =
    remade_in given.is_new (pending seen.connection given.id past) (file_in_place (place_given seen given past) past)

abbrev pub remade : Seen → List Seen → Option Remade
remade seen past = remade_by seen (create_given seen.note) past

-- ---- the tables

pub record KnowsFiles (past : List Seen) (files : Files) : Type 0 where
  pub files_at : (place : Place) → file_at place files ≡ file_of place past
  pub on_disk : (identity : Identity) → file_as identity files ≡ (known past).on_disk identity
  pub begun : HaveBegun (lives past) files

-- They know what the messages before knew, and the file of a CREATE response.
pub record AreKnownAfter (seen : Seen) (given : CreateGiven) (past : List Seen) (files : Files) : Type 0 where
  pub files_at : (place : Place) → file_at place files
      ≡ placed place (place_named (naming seen given past (known past)))
      (file_named given.is_new seen.number (naming seen given past (known past)) (known past)) (file_of place past)
  pub on_disk : (identity : Identity) → file_as identity files
      ≡ identified identity (identity_named (naming seen given past (known past)))
      (file_named given.is_new seen.number (naming seen given past (known past)) (known past)) ((known past).on_disk identity)
  pub begun : HaveBegun
      (life_named given.is_new seen.number (naming seen given past (known past)) (known past) ++ lives past) files
