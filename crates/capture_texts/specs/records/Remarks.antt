-- What the remarks of a record say: who each file and each client is, where each change is, and what was left out.
use Rattle.std.specs.Prelude.{ℕ, if◌then◌else◌, List, [], ◌∷◌, ◌++◌, codes, Option, Some, None}
use Rattle.std.specs.Prelude.{filter, length, slice_get}
use Rattle.std.specs.Fmt.{decimal}
use Rattle.std.specs.List.{flat_map}
use Rattle.capture_wire.specs.declared.command.Command.{Command}
use Rattle.capture_wire.specs.declared.command.Command.TheVariants as command
use Rattle.capture_texts.specs.Texts.{client_text, moment_text, place_text}
use Rattle.capture_texts.specs.records.Casts.{has_unsafe, is_number, is_wanted}
use Rattle.capture_texts.specs.declared.finding.Belief.{Belief}
use Rattle.capture_texts.specs.declared.finding.ClientName.{ClientName}
use Rattle.capture_texts.specs.declared.finding.FileFinding.{FileFinding}
use Rattle.capture_texts.specs.declared.finding.FilePlace.{FilePlace}
use Rattle.capture_texts.specs.declared.line.Moment.{Moment}
use Rattle.capture_texts.specs.declared.names.MessageName.{MessageName}
use Rattle.capture_texts.specs.declared.names.MessagePart.{MessagePart}
use Rattle.capture_texts.specs.declared.names.MessagePart.TheVariants as part
use Rattle.capture_texts.specs.declared.records.change.Change.{Change}

-- ---- files and clients

abbrev pub place_words : Option FilePlace → List ℕ
place_words None = []
place_words (Some place) = codes " is " ++ place_text place

abbrev pub found_words : Option FileFinding → List ℕ
found_words None = []
found_words (Some file) = place_words file.place

-- the number of a file, and where it is
unfoldable pub file_words : ℕ → Option FileFinding → List ℕ
file_words number file = codes "file " ++ (decimal number ++ found_words file)

-- the name of a client among those of a file
abbrev pub named_in : ℕ → List ClientName → Option ClientName
named_in client [] = None
named_in client (name ∷ names) = if is_number client name.number then Some name else named_in client names

abbrev pub or_later : Option ClientName → Option ClientName → Option ClientName
or_later (Some name) later = Some name
or_later None later = later

abbrev pub name_in : ℕ → List FileFinding → Option ClientName
name_in client [] = None
name_in client (file ∷ files) = or_later (named_in client file.clients.items) (name_in client files)

abbrev pub name_words : Option ClientName → List ℕ
name_words None = []
name_words (Some name) = codes " is " ++ client_text name

-- the number of a client, and its address
unfoldable pub client_words : ℕ → Option ClientName → List ℕ
client_words number name = codes "client " ++ (decimal number ++ name_words name)

-- ---- changes

-- the name of a command, as 2.2.1 has it
abbrev pub command_words : Command → List ℕ
command_words command.Negotiate = codes "NEGOTIATE"
command_words command.SessionSetup = codes "SESSION_SETUP"
command_words command.Logoff = codes "LOGOFF"
command_words command.TreeConnect = codes "TREE_CONNECT"
command_words command.TreeDisconnect = codes "TREE_DISCONNECT"
command_words command.Create = codes "CREATE"
command_words command.Close = codes "CLOSE"
command_words command.Flush = codes "FLUSH"
command_words command.Read = codes "READ"
command_words command.Write = codes "WRITE"
command_words command.Lock = codes "LOCK"
command_words command.Ioctl = codes "IOCTL"
command_words command.Cancel = codes "CANCEL"
command_words command.Echo = codes "ECHO"
command_words command.QueryDirectory = codes "QUERY_DIRECTORY"
command_words command.ChangeNotify = codes "CHANGE_NOTIFY"
command_words command.QueryInfo = codes "QUERY_INFO"
command_words command.SetInfo = codes "SET_INFO"
command_words command.OplockBreak = codes "OPLOCK_BREAK"
command_words command.Unknown = codes "unknown"

abbrev pub part_words : MessagePart → List ℕ
part_words part.Request = codes " request"
part_words part.Response = codes " response"
part_words part.Notification = codes " notification"

abbrev pub message_words : MessageName → List ℕ
message_words name = codes ", " ++ (command_words name.command ++ part_words name.part)

-- a packet, with the names of its messages
abbrev pub when_words : Option Moment → List ℕ
when_words None = codes "before all packets"
when_words (Some moment) = moment_text moment ++ flat_map message_words moment.messages

-- the belief by which a change comes, by its place in its file's finding
abbrev pub belief_in : ℕ → Option FileFinding → Option Belief
belief_in place None = None
belief_in place (Some file) = slice_get file.beliefs.items place

abbrev pub belief_of : List FileFinding → Change → Option Belief
belief_of files change = belief_in change.belief (slice_get files change.finding)

abbrev pub change_words : Option Belief → List ℕ
change_words None = codes "before all packets"
change_words (Some belief) = when_words belief.moment

-- ---- files that are left out

-- how many files the record is of, if there is room
abbrev pub wanted : List FileFinding → ℕ
wanted files = length (filter (is_wanted (has_unsafe files)) files)

unfoldable pub left_words : ℕ → List ℕ
left_words count = decimal count ++ codes " files are left out, for which there are no numbers"
