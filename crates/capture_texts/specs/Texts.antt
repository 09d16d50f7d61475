-- What people read of a report: a line of words for each finding, and one for what there is.
use Rattle.std.specs.Prelude.{ℕ, ◌+◌, ◌-◌, ◌*◌, nat_le, nat_lt, Bool, true, false, ◌&&◌, ◌||◌, if◌then◌else◌}
use Rattle.std.specs.Prelude.{List, [], ◌∷◌, ◌++◌, codes, Option, Some, None}
use Rattle.std.specs.Fmt.{decimal, digits}
use Rattle.std.specs.List.{flat_map}
use Rattle.std.specs.Char.{encode_utf8}
use Rattle.hex.specs.Hex.{encode_lower}
use Rattle.uuid.specs.Text.{hyphenated_text, lower}
use Rattle.lease_state.specs.State.{state_of}
use Rattle.lease_state.specs.declared.key.LeaseKey.{LeaseKey}
use Rattle.lease_texts.specs.Quoting.{escaped}
use Rattle.lease_texts.specs.Words.{state_word}
use Rattle.capture_wire.specs.declared.field.Guid.{Guid}
use Rattle.capture_texts.specs.declared.finding.BreakFinding.{BreakFinding}
use Rattle.capture_texts.specs.declared.finding.ClientFinding.{ClientFinding}
use Rattle.capture_texts.specs.declared.finding.ClientName.{ClientName}
use Rattle.capture_texts.specs.declared.finding.Counts.{Counts}
use Rattle.capture_texts.specs.declared.finding.EpochFinding.{EpochFinding}
use Rattle.capture_texts.specs.declared.finding.FileFinding.{FileFinding}
use Rattle.capture_texts.specs.declared.finding.FilePlace.{FilePlace}
use Rattle.capture_texts.specs.declared.finding.Judged.{Judged}
use Rattle.capture_texts.specs.declared.finding.LeaseFinding.{LeaseFinding}
use Rattle.capture_texts.specs.declared.finding.Judged.TheVariants as judged
use Rattle.capture_texts.specs.declared.finding.Report.{Report}
use Rattle.capture_texts.specs.declared.line.Moment.{Moment}
use Rattle.capture_walk.specs.declared.event.NotJudged.{NotJudged}
use Rattle.capture_walk.specs.declared.event.NotJudged.TheVariants as reason

-- ---- names in UTF-16, of whose units the low byte comes first

abbrev pub unit : ℕ → ℕ → ℕ
unit low high = low + high * 256

-- two units that write one character
abbrev pub are_pair : ℕ → ℕ → Bool
are_pair first second = (nat_le 0xD800 first && nat_lt first 0xDC00) && (nat_le 0xDC00 second && nat_lt second 0xE000)

-- and that character
abbrev pub pair_of : ℕ → ℕ → ℕ
pair_of first second = 0x1_0000 + ((first - 0xD800) * 0x400 + (second - 0xDC00))

abbrev pub is_from_to : ℕ → ℕ → ℕ → Bool
is_from_to first behind code = nat_le first code && nat_lt code behind

-- what a reader doesn't see, what changes the text round it, and half a pair
abbrev pub is_hidden : ℕ → Bool
is_hidden code = (nat_lt code 32 || (is_from_to 127 160 code || is_from_to 0x200E 0x2010 code))
    || ((is_from_to 0x2028 0x202F code || is_from_to 0x2066 0x206A code) || is_from_to 0xD800 0xE000 code)

-- such a one is written as \u{HHHH}
unfoldable pub letter_text : ℕ → List ℕ
letter_text code = if is_hidden code then codes "\\u{" ++ (digits 16 false code ++ codes "}") else encode_utf8 code

-- A byte alone at its end is written as \xHH.
unfoldable pub name_text : List ℕ → List ℕ
name_text [] = []
name_text (byte ∷ []) = codes "\\x" ++ encode_lower (byte ∷ [])
name_text (low ∷ high ∷ []) = letter_text (unit low high)
name_text (low ∷ high ∷ byte ∷ []) = letter_text (unit low high) ++ name_text (byte ∷ [])
name_text (low ∷ high ∷ next ∷ last ∷ behind) =
    if are_pair (unit low high) (unit next last)
    then letter_text (pair_of (unit low high) (unit next last)) ++ name_text behind
    else letter_text (unit low high) ++ name_text (next ∷ last ∷ behind)

-- ---- files, clients and moments

abbrev pub place_text : FilePlace → List ℕ
place_text place = flat_map escaped place.server ++ (32 ∷ (name_text place.path ++ (92 ∷ name_text place.name)))

abbrev pub address_text : List ℕ → List ℕ
address_text [] = codes "unknown"
address_text (byte ∷ bytes) = flat_map escaped (byte ∷ bytes)

abbrev pub client_text : ClientName → List ℕ
client_text name = address_text name.address

unfoldable pub moment_text : Moment → List ℕ
moment_text moment = codes "packet " ++ (decimal moment.packet ++ (codes " at " ++ flat_map escaped moment.time))

-- ---- findings

abbrev pub with_moment : List ℕ → Option Moment → List ℕ
with_moment words (Some moment) = words ++ (codes ", " ++ moment_text moment)
with_moment words None = words

unfoldable pub judged_text : Judged → List ℕ
judged_text judged.NoClient = codes "not judged, no client of it is"
judged_text judged.Safe = codes "safe"
judged_text (judged.Unsafe clash) = with_moment (codes "unsafe") clash.moment
judged_text (judged.Granted clash) = with_moment (codes "unsafe by the server's grants") clash.moment
judged_text judged.Contradictory = codes "not judged, what is shown can't have happened"
judged_text judged.TooMany = codes "not judged, it can have happened in too many ways"

abbrev pub where_text : Option FilePlace → List ℕ
where_text (Some place) = 32 ∷ place_text place
where_text None = []

abbrev pub one_more : ClientName → List ℕ
one_more name = codes ", " ++ client_text name

-- the file, what is decided of it, and a client for each lease
unfoldable pub file_text : FileFinding → List ℕ
file_text file =
    codes "file" ++ (where_text file.place ++ (codes ": " ++ (judged_text file.judged ++ flat_map one_more file.clients.items)))

-- ---- what the server had said of a lease on it

abbrev pub guid_text : Option Guid → List ℕ
guid_text None = codes "unknown"
guid_text (Some guid) = hyphenated_text lower guid.0

abbrev pub by_text : Option Moment → List ℕ
by_text None = []
by_text (Some moment) = codes " by " ++ moment_text moment

abbrev pub given_text : Option Moment → Bool → List ℕ
given_text (Some moment) wanted = codes ", acknowledged by " ++ moment_text moment
given_text None true = codes ", not acknowledged"
given_text None false = []

abbrev pub broken_text : Option BreakFinding → List ℕ
broken_text None = codes ", not broken since"
broken_text (Some one) = codes ", broken to " ++ (state_word (state_of one.state)
    ++ (by_text one.moment ++ given_text one.acknowledged one.wants_acknowledgment))

unfoldable pub owner_text : ClientName → List ℕ
owner_text client = codes "    lease of " ++ client_text client

unfoldable pub names_text : Option Guid → LeaseKey → List ℕ
names_text guid key = codes ", ClientGuid " ++ (guid_text guid ++ (codes ", key " ++ hyphenated_text lower key.0))

unfoldable pub granted_text : LeaseFinding → List ℕ
granted_text finding = codes ": " ++ (state_word (state_of finding.state)
    ++ (by_text finding.granted ++ (codes " to " ++ address_text finding.connection)))

-- whose it is, what was granted by which packet to which address, and what broke it since
unfoldable pub lease_text : LeaseFinding → List ℕ
lease_text finding = owner_text finding.client ++ (names_text finding.guid finding.key
    ++ (granted_text finding ++ broken_text finding.broken))

-- ---- the others

abbrev pub reason_text : NotJudged → List ℕ
reason_text reason.Missing = codes "something of it is missing or can't be read"
reason_text reason.Disputed =
    codes "it has one key for two files, or learns of a lease over several connections without an order"
reason_text reason.Stranger = codes "a break under its key comes over a connection of which it isn't known whose it is"

abbrev pub since_text : Option Moment → List ℕ
since_text (Some moment) = codes " after " ++ moment_text moment
since_text None = []

abbrev pub unjudged_text : ClientName → List ℕ
unjudged_text name = codes "client " ++ (client_text name ++ codes ": not judged")

-- the client, from where on it isn't judged, and why
unfoldable pub lost_text : ClientFinding → List ℕ
lost_text finding =
    unjudged_text finding.client ++ (since_text finding.since ++ (codes ", " ++ reason_text finding.reason))

abbrev pub at_text : Option Moment → List ℕ
at_text (Some moment) = moment_text moment ++ codes ", "
at_text None = []

-- the client, the packet, and the epochs
unfoldable pub epoch_text : EpochFinding → List ℕ
epoch_text finding = codes "client " ++ (client_text finding.client ++ (codes ": " ++ (at_text finding.moment
    ++ (codes "epoch " ++ (decimal finding.epoch ++ (codes " follows " ++ decimal finding.before))))))

unfoldable pub counts_text : Counts → List ℕ
counts_text counts = decimal counts.connections ++ (codes " connections, " ++ (decimal counts.frames
    ++ (codes " frames, " ++ (decimal counts.unread ++ codes " of them unreadable"))))

-- ---- all of them, each in a line

abbrev pub file_line : FileFinding → List ℕ
file_line file = file_text file ++ 10 ∷ []

abbrev pub lease_line : LeaseFinding → List ℕ
lease_line finding = lease_text finding ++ 10 ∷ []

-- a file with the leases that are told of it
abbrev pub file_lines : FileFinding → List ℕ
file_lines file = file_line file ++ flat_map lease_line file.leases.items

abbrev pub lost_line : ClientFinding → List ℕ
lost_line finding = lost_text finding ++ 10 ∷ []

abbrev pub epoch_line : EpochFinding → List ℕ
epoch_line finding = epoch_text finding ++ 10 ∷ []

unfoldable pub findings_text : Report → List ℕ
findings_text report = flat_map file_lines report.files.items ++ (flat_map lost_line report.clients.items
    ++ (flat_map epoch_line report.epochs.items ++ (counts_text report.counts ++ 10 ∷ [])))
