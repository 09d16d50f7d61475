-- Lines as rows of a table: what a field holds, the word that says a value and the one that is written for it, and what the
-- fields of a kind of line tell.
use Rattle.std.specs.Prelude.{ℕ, Bool, false, List, [], ◌∷◌, bytes_eq, if◌then◌else◌, Option, Some, None}
use Rattle.std.specs.{Fmt.decimal, Option.option_map}
use Rattle.lease_client.specs.declared.values.note.Settlement.{Settlement}
use Rattle.lease_state.specs.{State.state_of, declared.number.ClientNo.ClientNo, declared.number.FileNo.FileNo}
use Rattle.lease_state.specs.{declared.key.LeaseKey.LeaseKey, declared.state.LeaseState.LeaseState, declared.rules.Rules.Rules}
use Rattle.lease_texts.specs.Fields.{ordinal_in, number_in, offset_in, bytes_in, content_in, access_in, share_in, rules_in}
use Rattle.lease_texts.specs.Fields.{state_in, way_in, outcome_in, sized_in}
use Rattle.lease_texts.specs.Statuses.{given_word, status_in}
use Rattle.lease_texts.specs.Words.{state_word, digits_word, access_word, share_word, rules_word, outcome_word, way_word}
use Rattle.lease_texts.specs.declared.{kinds.Field.Field, replies.Arrival.Arrival, status.GivenStatus.GivenStatus}
use Rattle.{hex.specs.Hex.encode_lower, uuid.specs.Text.parsed, uuid.specs.Text.hyphenated_text, uuid.specs.Text.lower}
use Rattle.lease_state.specs.declared.access.Access as accesses
use Rattle.lease_state.specs.declared.access.Share as shares
use Rattle.lease_state.specs.declared.number.FileId as file_ids
use Rattle.lease_state.specs.declared.request.Request as requests

-- ---- fields

-- the values that a field may have
abbrev pub Value : Field → Type 0
Value Field.Client = ClientNo
Value Field.File = FileNo
Value Field.FileId = file_ids.FileId
Value Field.Number = ℕ
Value Field.Offset = ℕ
Value Field.State = LeaseState
Value Field.Access = accesses.Access
Value Field.Share = shares.Share
Value Field.Rules = Rules
Value Field.Way = Bool
Value Field.Outcome = Settlement
Value Field.Key = LeaseKey
Value Field.Status = GivenStatus
Value Field.Durable = Bool
Value Field.Request = requests.Request
Value Field.Reply = Arrival
Value other = List ℕ

abbrev pub client_no : ℕ → ClientNo
client_no number = record { 0 = number }

abbrev pub file_no : ℕ → FileNo
file_no number = record { 0 = number }

abbrev pub file_id : ℕ → file_ids.FileId
file_id number = record { 0 = number }

abbrev pub lease_key : List ℕ → LeaseKey
lease_key bytes = record { 0 = bytes }

-- the value that a word says, where the field takes one word
abbrev pub value_in : (field : Field) → List ℕ → Option (Value field)
value_in Field.Client word = option_map client_no (ordinal_in word)
value_in Field.File word = option_map file_no (ordinal_in word)
value_in Field.FileId word = option_map file_id (number_in word)
value_in Field.Number word = number_in word
value_in Field.Offset word = offset_in word
value_in Field.Bytes word = bytes_in word
value_in Field.Content word = content_in word
value_in Field.State word = state_in word
value_in Field.Access word = access_in word
value_in Field.Share word = share_in word
value_in Field.Rules word = rules_in word
value_in Field.Way word = way_in word
value_in Field.Outcome word = outcome_in word
value_in Field.Guid word = parsed word
value_in Field.Message word = sized_in 36 word
value_in Field.Key word = option_map lease_key (sized_in 16 word)
value_in Field.Notification word = sized_in 44 word
value_in Field.Status word = status_in word
value_in other word = None

-- the word that is written for it
abbrev pub word_for : (field : Field) → Value field → List ℕ
word_for Field.Client client = decimal client.0
word_for Field.File file = decimal file.0
word_for Field.FileId fid = decimal fid.0
word_for Field.Number number = decimal number
word_for Field.Offset offset = decimal offset
word_for Field.Bytes bytes = digits_word bytes
word_for Field.Content bytes = digits_word bytes
word_for Field.State state = state_word (state_of state)
word_for Field.Access access = access_word access
word_for Field.Share share = share_word share
word_for Field.Rules rules = rules_word rules
word_for Field.Way buffered = way_word buffered
word_for Field.Outcome outcome = outcome_word outcome
word_for Field.Guid guid = hyphenated_text lower guid
word_for Field.Message message = encode_lower message
word_for Field.Key key = encode_lower key.0
word_for Field.Notification message = encode_lower message
word_for Field.Status given = given_word given.other given.status
word_for other value = []

-- ---- reading

-- A reader of words gives what the first of them say, and the others.
abbrev pub Words : Type 0
Words = List (List ℕ)

abbrev pub Taking : Type 0 → Type 0
Taking A = Words → Option (A × Words)

abbrev pub and_then : {A B : Type 0} → Option (A × Words) → (A → Words → Option B) → Option B
and_then None more = None
and_then (Some taken) more = more taken.0 taken.1

abbrev pub with_rest : {A : Type 0} → Option A → Words → Option (A × Words)
with_rest None words = None
with_rest (Some value) words = Some (value, words)

-- one word, read so
abbrev pub one : {A : Type 0} → (List ℕ → Option A) → Taking A
one read [] = None
one read (word ∷ words) = with_rest (read word) words

-- what is taken from a line, where no word is left
abbrev pub last : {A : Type 0} → A → Words → Option A
last value [] = Some value
last value (word ∷ words) = None

abbrev pub whole : {A : Type 0} → Option (A × Words) → Option A
whole None = None
whole (Some taken) = last taken.0 taken.1

-- how fields are read
abbrev pub Reading : Type 0
Reading = (field : Field) → Taking (Value field)

-- each from one word
abbrev pub word_read : Reading
word_read field words = one (value_in field) words

-- ---- kinds

-- what is told by the values of fields
abbrev pub Telling : Type 0 → List Field → Type 0
Telling A [] = A
Telling A (field ∷ fields) = Value field → Telling A fields

-- a kind of line: the word that it begins with, the fields after it, and what their values tell
pub record Kind (A : Type 0) : Type 0 where
  pub name : List ℕ
  pub fields : List Field
  pub tells : Telling A fields

abbrev pub kind : {A : Type 0} → List ℕ → (fields : List Field) → Telling A fields → Kind A
kind name fields tells = record { name = name; fields = fields; tells = tells }

-- what is taken by fields, one after the other
unfoldable pub taken : {A : Type 0} (read : Reading) (fields : List Field) → Telling A fields → Taking A
taken read [] told words = Some (told, words)
taken read (field ∷ fields) telling words =
    and_then (read field words) (λ value words. taken read fields (telling value) words)

-- the same by the kind of a name
unfoldable pub named : {A : Type 0} → Reading → List (Kind A) → List ℕ → Taking A
named read [] name words = None
named read (kind ∷ kinds) name words =
    if bytes_eq name kind.name then taken read kind.fields kind.tells words else named read kinds name words

-- whether the first word is this one
abbrev pub begins : List ℕ → Words → Bool
begins name [] = false
begins name (word ∷ words) = bytes_eq word name

-- by the kind that the first word names
abbrev pub by_name : {A : Type 0} → Reading → List (Kind A) → Taking A
by_name read kinds [] = None
by_name read kinds (name ∷ words) = named read kinds name words

-- ---- writing

-- a field with its value
pub record Spoken : Type 0 where
  pub field : Field
  pub value : Value field

abbrev pub say : (field : Field) → Value field → Spoken
say field value = record { field = field; value = value }

-- what a line says: its first word, and fields with their values
pub record Line : Type 0 where
  pub name : List ℕ
  pub spoken : List Spoken

abbrev pub line : List ℕ → List Spoken → Line
line name spoken = record { name = name; spoken = spoken }
