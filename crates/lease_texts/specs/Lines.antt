-- Lines by the tables of their kinds.
use Rattle.std.specs.Prelude.{ℕ, ◌++◌, Bool, true, false, List, [], ◌∷◌, codes, bytes_eq, if◌then◌else◌, Option, Some, None}
use Rattle.{std.specs.List.flat_map, lease_texts.specs.Pieces.fields_of}
use Rattle.lease_texts.specs.Kinds.{Kind, Line, Spoken, Reading, Taking, Value, Words, by_name, one, value_in, whole, with_rest}
use Rattle.lease_texts.specs.{Kinds.word_for, Replies.arrival_in, Replies.reply_said, declared.kinds.Field.Field}
use Rattle.lease_texts.specs.Requests.{plain_words, request_in, request_said, spaced}

-- the word after a durable open, which others lack
abbrev pub durable_word : List ℕ → Option Bool
durable_word word = if bytes_eq word (codes "durable") then Some true else None

abbrev pub durable_in : Taking Bool
durable_in [] = Some (false, [])
durable_in (word ∷ words) = with_rest (durable_word word) words

-- most fields take one word
abbrev pub field_read : Reading
field_read Field.Durable words = durable_in words
field_read Field.Request words = request_in words
field_read Field.Reply words = arrival_in words
field_read other words = one (value_in other) words

-- what a line tells by a table
unfoldable pub told_in : {A : Type 0} → List (Kind A) → List ℕ → Option A
told_in kinds line = whole (by_name field_read kinds (fields_of line))

-- the words that are written for values
abbrev pub words_for : (field : Field) → Value field → Words
words_for Field.Durable true = codes "durable" ∷ []
words_for Field.Durable false = []
words_for Field.Request asked = plain_words (request_said asked)
words_for Field.Reply told = plain_words (reply_said told.reply)
words_for other value = word_for other value ∷ []

abbrev pub spoken_words : List Spoken → Words
spoken_words spoken = flat_map (λ one. words_for one.field one.value) spoken

-- what a line says, with its line feed
unfoldable pub line_text : Line → List ℕ
line_text said = said.name ++ spaced (spoken_words said.spoken) ++ 10 ∷ []
