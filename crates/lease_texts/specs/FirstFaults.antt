-- What a complaint about a line has to say: the first field that no line of its table has.
use Rattle.std.specs.Prelude.{◌≡◌, ◌↔◌, ◌+◌, ◌++◌, ℕ, Bool, true, false, List, [], ◌∷◌, length, drop, bytes_eq, codes, is_some}
use Rattle.std.specs.Prelude.{Option, Some, None}
use Rattle.lease_texts.specs.Complaints.{Complaint, Expected, Row, Table, is_nil, reply_table, request_table}
use Rattle.lease_texts.specs.{Kinds.Kind, Kinds.Words, Kinds.value_in, Tables.Saying, Tables.Tells, declared.kinds.Field.Field}
use Rattle.{std.specs.List.list_any, lease_texts.specs.Pieces.fields_of}

-- the words of a whole line tell something by the table
abbrev pub AreTold : {A : Type 0} → Saying → List (Kind A) → Words → Type 0
AreTold {A} says kinds words = (told : A) × Tells says kinds words told []

-- with some words behind them they are such
abbrev pub Begin : (Words → Type 0) → Words → Type 0
Begin Are words = (rest : Words) × Are (words ++ rest)

-- No line has the field that stands there, behind those before it; or none ends there.
abbrev pub NoneHas : (Words → Type 0) → Words → Words → Type 0
NoneHas Are before [] = Are before → ⊥
NoneHas Are before (word ∷ words) = Begin Are (before ++ word ∷ []) → ⊥

abbrev pub first_of : Words → Option (List ℕ)
first_of [] = None
first_of (word ∷ words) = Some word

abbrev pub is_name : Table → List ℕ → Bool
is_name kinds word = list_any (λ (row : Row). bytes_eq word row.name) kinds.rows

-- the word is one of those that were expected
abbrev pub is_expected : Expected → List ℕ → Bool
is_expected (Expected.Names kinds) word = is_name kinds word
is_expected (Expected.Holds Field.Durable) word = bytes_eq word (codes "durable")
is_expected (Expected.Holds Field.Request) word = is_name request_table word
is_expected (Expected.Holds Field.Reply) word = is_name reply_table word
is_expected (Expected.Holds other) word = is_some (value_in other word)
is_expected Expected.End word = false

-- The complaint, about words of which the first has this number, is of the first field that no line has: with the fields before
-- it some line begins, with this one behind them none; and the words that may stand there are those that were expected.
pub record IsFirstFault (Are : Words → Type 0) (number : ℕ) (words : Words) (complaint : Complaint) : Type 0 where
  pub before : Words
  pub from : Words
  pub are : words ≡ before ++ from
  pub counted : complaint.field ≡ number + length before
  pub found : complaint.found ≡ first_of from
  pub last : complaint.is_last ≡ is_nil (drop 1 from)
  pub begins : Begin Are before
  pub none : NoneHas Are before from
  pub expected : (word : List ℕ) → Begin Are (before ++ word ∷ []) ↔ (is_expected complaint.expected word ≡ true)

-- There is a complaint exactly where the reader refuses the line, and it is of the line's first fault.
pub record ComplainsExactly {A : Type 0} (says : Saying) (kinds : List (Kind A)) (read : List ℕ → Option A)
    (complain : List ℕ → Option Complaint) : Type 0 where
  pub refused : (line : List ℕ) → (read line ≡ None) ↔ (is_some (complain line) ≡ true)
  pub first : (line : List ℕ) (complaint : Complaint) → complain line ≡ Some complaint
      → IsFirstFault (AreTold says kinds) 1 (fields_of line) complaint
