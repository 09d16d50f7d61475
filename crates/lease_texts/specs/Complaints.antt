-- Where a line leaves the table of its kinds: what is expected in each field, and the first field that holds something else.
use Rattle.std.specs.Prelude.{ℕ, ◌+◌, ◌==◌, ◌++◌, Bool, true, false, if◌then◌else◌, List, [], ◌∷◌, codes, bytes_eq, map, take}
use Rattle.std.specs.Prelude.{Option, Some, None, is_some}
use Rattle.lease_texts.specs.Fields.{number_in, ordinal_in, sized_in}
use Rattle.lease_texts.specs.{Kinds.Kind, Kinds.Words, Kinds.value_in, Pieces.fields_of, Quoting.quoted, Records.fact_kinds}
use Rattle.lease_texts.specs.{Replies.reply_kinds, Requests.request_kinds, Schedules.part_kinds, declared.kinds.Field.Field}
use Rattle.{std.specs.Fmt.decimal, std.specs.List.list_any, std.specs.Option.option_copied, lease_texts.specs.Lines.durable_word}
use Rattle.lease_texts.specs.declared.complaints.finding.Complaint as code
use Rattle.lease_texts.specs.declared.complaints.expected.Expected as expectations
use Rattle.lease_texts.specs.declared.complaints.expected.Expected.TheVariants as expected
use Rattle.lease_texts.specs.declared.kinds.Row as rows
use Rattle.lease_texts.specs.declared.kinds.Table as tables

-- ---- the tables

-- a kind by what is read: its name and its fields
pub record Row : Type 0 where
  pub name : List ℕ
  pub fields : List Field

abbrev pub row : {A : Type 0} → Kind A → Row
row kind = record { name = kind.name; fields = kind.fields }

-- a table: what is said of a word that is to name one of its kinds, and the kinds
pub record Table : Type 0 where
  pub word : List ℕ
  pub rows : List Row

abbrev pub table : {A : Type 0} → List ℕ → List (Kind A) → Table
table word kinds = record { word = word; rows = map row kinds }

abbrev pub fact_table : Table
fact_table = table (codes "a kind of fact") fact_kinds

abbrev pub part_table : Table
part_table = table (codes "a kind of line") part_kinds

abbrev pub request_table : Table
request_table = table (codes "a request") request_kinds

abbrev pub reply_table : Table
reply_table = table (codes "a message of the server") reply_kinds

-- a row of the code, and a table of it
abbrev pub row_of : rows.Row → Row
row_of one = record { name = one.0.now; fields = one.1.now }

abbrev pub table_of : tables.Table → Table
table_of one = record { word = one.0.now; rows = map row_of one.1.now }

unfoldable pub fields_behind : List Row → List ℕ → Option (List Field)
fields_behind [] word = None
fields_behind (row ∷ rows) word = if bytes_eq word row.name then Some row.fields else fields_behind rows word

-- ---- a line along its row

abbrev pub if_fits : Bool → List Field → Option (List Field)
if_fits true rest = Some rest
if_fits false rest = None

-- whether a word says a value of a field that takes one
abbrev pub says : Field → List ℕ → Bool
says Field.Client word = is_some (ordinal_in word)
says Field.File word = is_some (ordinal_in word)
says Field.FileId word = is_some (number_in word)
says Field.Key word = is_some (sized_in 16 word)
says other word = is_some (value_in other word)

-- the fields that are expected after a word, where the word is one that was expected
abbrev pub behind : Field → List ℕ → List Field → Option (List Field)
behind Field.Request word rest = fields_behind request_table.rows word
behind Field.Reply word rest = fields_behind reply_table.rows word
behind Field.Durable word rest = if_fits (is_some (durable_word word)) rest
behind other word rest = if_fits (says other word) rest

-- what is expected in a field: the word of a kind in a table, what the field holds, or no more
pub data Expected : Type 0 where
  Names : (kinds : Table) → Expected
  Holds : (one : Field) → Expected
  End : Expected

abbrev pub expected_of : expectations.Expected → Expected
expected_of (expected.Names kinds) = Expected.Names (table_of kinds)
expected_of (expected.Holds one) = Expected.Holds one
expected_of expected.End = Expected.End

-- What was expected in the field of a number, and what stands there: nothing, where the line ends before it; whether the line
-- ends after it.
pub record Complaint : Type 0 where
  pub field : ℕ
  pub expected : Expected
  pub found : Option (List ℕ)
  pub is_last : Bool

-- a complaint of the code
abbrev pub complaint_of : code.Complaint → Complaint
complaint_of complaint = record {
  field = complaint.field;
  expected = expected_of complaint.expected;
  found = option_copied complaint.found;
  is_last = complaint.is_last;
}

abbrev pub is_nil : {X : Type 0} → List X → Bool
is_nil [] = true
is_nil (x ∷ xs) = false

abbrev pub stands : ℕ → Expected → List ℕ → Words → Complaint
stands number expected word words = record { field = number; expected = expected; found = Some word; is_last = is_nil words }

-- a line may end where no more is expected, or a word that it may lack
abbrev pub at_end : ℕ → List Field → Option Complaint
at_end number [] = None
at_end number (Field.Durable ∷ rest) = None
at_end number (one ∷ rest) =
    Some (record { field = number; expected = Expected.Holds one; found = None; is_last = true })

abbrev pub or_goes_on : Complaint → Option (List Field) → (List Field → Option Complaint) → Option Complaint
or_goes_on complaint None more = Some complaint
or_goes_on complaint (Some rest) more = more rest

-- The first field at which words leave what is expected.
unfoldable pub leaves : ℕ → List Field → Words → Option Complaint
leaves number fields [] = at_end number fields
leaves number [] (word ∷ words) = Some (stands number Expected.End word words)
leaves number (one ∷ rest) (word ∷ words) =
    or_goes_on (stands number (Expected.Holds one) word words) (behind one word rest) (λ fields. leaves (number + 1) fields words)

-- The same from the first word on, which names a kind of the table.
abbrev pub leaves_table : Table → Words → Option Complaint
leaves_table kinds [] = Some (record { field = 1; expected = Expected.Names kinds; found = None; is_last = true })
leaves_table kinds (word ∷ words) =
    or_goes_on (stands 1 (Expected.Names kinds) word words) (fields_behind kinds.rows word) (λ fields. leaves 2 fields words)

-- why a line is none of a table
abbrev pub complaint : Table → List ℕ → Option Complaint
complaint kinds line = leaves_table kinds (fields_of line)

-- ---- in words

-- words one after the other, with the last behind "or"
unfoldable pub listed : List (List ℕ) → List ℕ
listed [] = []
listed (word ∷ []) = word
listed (word ∷ other ∷ []) = word ++ codes " or " ++ other
listed (word ∷ second ∷ third ∷ words) = word ++ codes ", " ++ listed (second ∷ third ∷ words)

abbrev pub table_words : Table → List ℕ
table_words kinds = kinds.word ++ codes ", which is " ++ listed (map (λ row. row.name) kinds.rows)

abbrev pub held_words : Field → List ℕ
held_words Field.Client = codes "a client, which is a number from 1 to 255 without leading zeros"
held_words Field.File = codes "a file, which is a number from 1 to 255 without leading zeros"
held_words Field.FileId = codes "a FileId, which is a number of at most 64 bits without leading zeros"
held_words Field.Number = codes "the number of a write, of at most 64 bits without leading zeros"
held_words Field.Offset = codes "an offset, which is a number of at most 32 bits without leading zeros"
held_words Field.Bytes = codes "bytes, of two hexadecimal digits each, or - for none"
held_words Field.Content = codes "at most 1048576 bytes, of two hexadecimal digits each, or - for none"
held_words Field.State = codes "a state, which is none or letters of RWH in that order"
held_words Field.Access = codes "an access, which is r, w or rw"
held_words Field.Share = codes "what is shared, which is -, r, w or rw"
held_words Field.Rules = codes "rules, which are by-client or by-key, a comma, and as-free or whole"
held_words Field.Way = codes "the way of a write, which is buffered or through"
held_words Field.Outcome = codes "an outcome, which is done, failed, unknown or lost"
held_words Field.Guid = codes "a GUID of 32 hexadecimal digits, hyphenated, in braces or as a URN"
held_words Field.Message = codes "an acknowledgment of 36 bytes, which are 72 hexadecimal digits"
held_words Field.Durable = codes "the word durable or the line's end"
held_words Field.Key = codes "a lease key of 16 bytes, which are 32 hexadecimal digits"
held_words Field.Notification = codes "a notification of 44 bytes, which are 88 hexadecimal digits"
held_words Field.Status = codes "a status, which is a name that begins with STATUS_ or 8 hexadecimal digits"
held_words other = []

-- a table is for what takes all that is left
abbrev pub field_words : Field → List ℕ
field_words Field.Request = table_words request_table
field_words Field.Reply = table_words reply_table
field_words other = held_words other

abbrev pub expected_words : Expected → List ℕ
expected_words (Expected.Names kinds) = table_words kinds
expected_words (Expected.Holds one) = field_words one
expected_words Expected.End = codes "the line's end"

abbrev pub has : ℕ → List ℕ → Bool
has byte word = list_any (λ other. other == byte) word

-- what was put there by mistake
abbrev pub hint : List ℕ → List ℕ
hint word =
    if bytes_eq (take 3 word) (239 ∷ 187 ∷ 191 ∷ []) then codes ", with a byte order mark"
    else if has 13 word then codes ", with the carriage return of a Windows line end"
    else if has 9 word then codes ", with a tab"
    else []

-- an empty field, by its number, and whether it is the last
abbrev pub blank_words : ℕ → Bool → List ℕ
blank_words number last =
    if number == 1 then codes "the line begins with a space or is empty"
    else if last then codes "the line ends with a space"
    else codes "two spaces stand before it"

unfoldable pub word_words : List ℕ → List ℕ
word_words word = codes "it is " ++ quoted word ++ hint word

abbrev pub found_words : Complaint → List ℕ
found_words complaint = words_of complaint.found
  where
    words_of : Option (List ℕ) → List ℕ
    words_of None = codes "the line ends before it"
    words_of (Some []) = blank_words complaint.field complaint.is_last
    words_of (Some (byte ∷ bytes)) = word_words (byte ∷ bytes)

unfoldable pub expected_part : ℕ → Expected → List ℕ
expected_part number expected = codes "field " ++ decimal number ++ codes ": " ++ expected_words expected ++ codes "; "

abbrev pub complaint_words : Complaint → List ℕ
complaint_words complaint = expected_part complaint.field complaint.expected ++ found_words complaint

-- the same as a line, with the number of the line that it is about
unfoldable pub line_words : ℕ → List ℕ
line_words number = codes "line " ++ decimal number ++ codes ", "

abbrev pub complaint_line : ℕ → Complaint → List ℕ
complaint_line number complaint = line_words number ++ complaint_words complaint ++ 10 ∷ []
