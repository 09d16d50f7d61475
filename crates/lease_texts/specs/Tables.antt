-- What tables of lines have to be, and what is true of each line then.
use Rattle.std.specs.Prelude.{◌≡◌, ◌↔◌, ◌⊎◌, ◌<◌, ◌≤◌, ◌^◌, ⊤, ℕ, Bool, true, false, List, [], ◌∷◌, ◌++◌, length, codes, Option}
use Rattle.std.specs.Prelude.{Some, None}
use Rattle.lease_texts.specs.Kinds.{Kind, Line, Spoken, Telling, Value, Words, value_in}
use Rattle.lease_texts.specs.{Lines.line_text, Pieces.fields_of, Pieces.lines_of, Reading.is_passed_over, Requests.request_kinds}
use Rattle.lease_texts.specs.{Requests.request_said, Statuses.known, declared.kinds.Field.Field}
use Rattle.lease_texts.specs.Replies.{plain, reply_kinds, reply_said}
use Rattle.{hex.specs.Hex.IsBytes, lease_state.specs.declared.content.TheConstants.FILE_LIMIT}

abbrev pub IsOneOf : {X : Type 0} → List X → X → Type 0
IsOneOf [] x = ⊥
IsOneOf (y ∷ ys) x = (x ≡ y) ⊎ IsOneOf ys x

-- what holds of each on a list
abbrev pub Each : {X : Type 0} → (X → Type 0) → List X → Type 0
Each P [] = ⊤
Each P (one ∷ others) = P one × Each P others

-- ---- what a line tells

-- What it is that words begin with what says a value of a field, and that the other words stand behind.
abbrev pub Saying : Type 1
Saying = (field : Field) → Words → Value field → Words → Type 0

-- one word says it
abbrev pub WordSays : Saying
WordSays field words value rest = (word : List ℕ) × (words ≡ word ∷ rest) × (value_in field word ≡ Some value)

-- The words begin with one or more for each field, whose values tell it.
abbrev pub Say : {A : Type 0} → Saying → (fields : List Field) → Telling A fields → Words → A → Words → Type 0
Say says [] telling words told rest = (words ≡ rest) × (telling ≡ told)
Say says (field ∷ fields) telling words told rest =
    (value : Value field) × (behind : Words) × says field words value behind × Say says fields (telling value) behind told rest

-- The words begin with the name of one of these kinds, and with what its fields say, which tell it.
pub record Tells {A : Type 0} (says : Saying) (kinds : List (Kind A)) (words : Words) (told : A) (rest : Words) : Type 0 where
  pub kind : Kind A
  pub is_one : IsOneOf kinds kind
  pub behind : Words
  pub are : words ≡ kind.name ∷ behind
  pub say : Say says kind.fields kind.tells behind told rest

-- The word of a durable open stands there; or it is missing, and the line ends.
abbrev pub DurableSays : Words → Bool → Words → Type 0
DurableSays words true rest = words ≡ codes "durable" ∷ rest
DurableSays words false rest = (words ≡ []) × (rest ≡ [])

abbrev pub FieldSays : Saying
FieldSays Field.Durable words durable rest = DurableSays words durable rest
FieldSays Field.Request words asked rest = Tells WordSays request_kinds words asked rest
FieldSays Field.Reply words told rest = Tells WordSays reply_kinds words told rest
FieldSays other words value rest = WordSays other words value rest

-- What a whole line tells, between single spaces.
abbrev pub LineTells : {A : Type 0} → List (Kind A) → List ℕ → A → Type 0
LineTells kinds line told = Tells FieldSays kinds (fields_of line) told []

-- A reader of lines gives exactly what they tell: it refuses those that tell nothing, and none tells two things, or one by two
-- of the kinds.
pub record ReadsExactly {A : Type 0} (kinds : List (Kind A)) (read : List ℕ → Option A) : Type 0 where
  pub told : (line : List ℕ) (told : A) → (read line ≡ Some told) ↔ LineTells kinds line told
  pub refused : (line : List ℕ) → (read line ≡ None) ↔ ((told : A) → LineTells kinds line told → ⊥)
  pub one : (line : List ℕ) (first second : A) → LineTells kinds line first → LineTells kinds line second → first ≡ second
  pub one_kind : (line : List ℕ) (first second : A) (is : LineTells kinds line first) (also : LineTells kinds line second)
      → is.kind ≡ also.kind

-- ---- what can be written

abbrev pub HasBytes : ℕ → List ℕ → Type 0
HasBytes count bytes = (length bytes ≡ count) × IsBytes bytes

-- A word says the value: clients and files are numbered from 1 to 255, numbers and FileIds have 64 bits, offsets 32 and bytes 8,
-- a state has no bits but those with a letter, a GUID and a key have 16 bytes, an acknowledgment 36 and a notification 44, and a
-- status has a name.
abbrev pub HasWord : (field : Field) → Value field → Type 0
HasWord Field.Client client = (1 ≤ client.0) × (client.0 < 256)
HasWord Field.File file = (1 ≤ file.0) × (file.0 < 256)
HasWord Field.FileId fid = fid.0 < 2 ^ 64
HasWord Field.Number number = number < 2 ^ 64
HasWord Field.Offset offset = offset < 2 ^ 32
HasWord Field.Bytes bytes = IsBytes bytes
HasWord Field.Content bytes = IsBytes bytes × (length bytes ≤ FILE_LIMIT)
HasWord Field.State state = state.0 < 8
HasWord Field.Guid guid = HasBytes 16 guid
HasWord Field.Message message = HasBytes 36 message
HasWord Field.Key key = HasBytes 16 key.0
HasWord Field.Notification message = HasBytes 44 message
HasWord Field.Status given = given ≡ known given.status
HasWord Field.Durable durable = ⊥
HasWord Field.Request asked = ⊥
HasWord Field.Reply told = ⊥
HasWord other value = ⊤

abbrev pub EachHasWord : List Spoken → Type 0
EachHasWord spoken = Each (λ one. HasWord one.field one.value) spoken

-- requests and replies are said by several words, and a durable open by one or none
abbrev pub CanBeSaid : (field : Field) → Value field → Type 0
CanBeSaid Field.Durable durable = ⊤
CanBeSaid Field.Request asked = EachHasWord (request_said asked).spoken
CanBeSaid Field.Reply told = EachHasWord (reply_said told.reply).spoken × (told ≡ plain told.reply)
CanBeSaid other value = HasWord other value

-- a line can say it
abbrev pub CanBeWritten : Line → Type 0
CanBeWritten said = Each (λ one. CanBeSaid one.field one.value) said.spoken

-- What is written is one line, which is read so.
pub record IsReadAs {A : Type 0} (read : List ℕ → Option A) (text : List ℕ) (told : A) : Type 0 where
  pub line : List ℕ
  pub written : text ≡ line ++ 10 ∷ []
  pub is_line : (rest : List ℕ) → lines_of (text ++ rest) ≡ line ∷ lines_of rest
  pub counts : is_passed_over line ≡ false
  pub says : read line ≡ Some told

-- What can be written is read back.
abbrev pub AreReadBack : {A : Type 0} → (A → Line) → (List ℕ → Option A) → Type 0
AreReadBack {A} said read = (told : A) → CanBeWritten (said told) → IsReadAs read (line_text (said told)) told
