-- What is written by a table is read back by it.
use Rattle.std.proofs.Common.{◌&&◌, ◌++◌, ◌∙◌, ◌∷◌, ◌≡◌, Bool, List, ℕ, [], ap, append-nil, append_assoc, arith, false, Some}
use Rattle.std.proofs.Common.{◌||◌, map, not, refl, subst, sym, true}
use Rattle.std.proofs.lemmas.Bool.{and_parts}
use Rattle.lease_state.specs.declared.{reply.Reply.Reply, request.Request.Request}
use Rattle.lease_texts.specs.Kinds.{Kind, Line, Spoken, Telling, Value, Words, kind, word_for}
use Rattle.lease_texts.specs.{Lines.line_text, Lines.spoken_words, Lines.told_in, Lines.words_for, Pieces.all_above}
use Rattle.lease_texts.specs.{Pieces.fields_of, Pieces.lines_of, Reading.is_passed_over, Replies.plain, Replies.reply_kinds}
use Rattle.lease_texts.specs.{Replies.reply_said, declared.kinds.Field.Field, declared.replies.Arrival.Arrival, Complaints.is_nil}
use Rattle.lease_texts.specs.Requests.{spaced, plain_words, request_kinds, request_said}
use Rattle.lease_texts.specs.Tables.{AreReadBack, CanBeSaid, Each, EachHasWord, FieldSays, IsOneOf, Say, Tells, WordSays}
use Rattle.lease_texts.proofs.Tables.{is_of, kind_of, reads_exactly, are_apart, of_one}
use Rattle.lease_texts.proofs.Bytes.{above-append, above-line, piece_first, piece_last}
use Rattle.std.specs.Prelude.{⊤}
use Rattle.{std.specs.List.list_all, lease_texts.proofs.Values.word_above, lease_texts.proofs.Values.word_back}

-- ---- words behind spaces

-- no word has a space in it
abbrev AreWords : Words → Type 0
AreWords words = Each (λ word. all_above 32 word ≡ true) words

fields_spaced : (name : List ℕ) (words : Words) → all_above 32 name ≡ true → AreWords words
    → fields_of (name ++ spaced words) ≡ name ∷ words
fields_spaced name [] above are = rw (append-nil name) (piece_last 32 name above)
fields_spaced name (word ∷ words) above (here, are) = piece_first 32 ([] ∷ []) name (word ++ spaced words) above
    ∙ ap (λ (w : Words). name ∷ w) (fields_spaced word words here are)

spaced_above : (words : Words) → AreWords words → all_above 10 (spaced words) ≡ true
spaced_above [] are = refl
spaced_above (word ∷ words) (here, are) = above-append 10 word (spaced words) (above-line word here) (spaced_above words are)

words_join : (first second : Words) → AreWords first → AreWords second → AreWords (first ++ second)
words_join [] second are also = also
words_join (word ∷ first) second (here, are) also = (here, words_join first second are also)

-- ---- what is written of fields

plain_words_are : (spoken : List Spoken) → EachHasWord spoken
    → AreWords (map (λ (one : Spoken). word_for one.field one.value) spoken)
plain_words_are [] has = tt
plain_words_are (one ∷ others) (here, has) = (word_above one.field one.value here, plain_words_are others has)

request_name_above : (asked : Request) → all_above 32 (request_said asked).name ≡ true
request_name_above asked = grind arith

reply_name_above : (told : Reply) → all_above 32 (reply_said told).name ≡ true
reply_name_above told = grind arith

words_are : (field : Field) (value : Value field) → CanBeSaid field value → AreWords (words_for field value)
words_are Field.Durable true can = (refl, tt)
words_are Field.Durable false can = tt
words_are Field.Request asked can = (request_name_above asked, plain_words_are (request_said asked).spoken can)
words_are Field.Reply told (can, _) = (reply_name_above told.reply, plain_words_are (reply_said told.reply).spoken can)
words_are other value can = (word_above other value can, tt)

all_words : (spoken : List Spoken) → Each (λ (one : Spoken). CanBeSaid one.field one.value) spoken
    → AreWords (spoken_words spoken)
all_words [] can = tt
all_words (one ∷ others) (here, can) =
    words_join (words_for one.field one.value) (spoken_words others) (words_are one.field one.value here) (all_words others can)

-- ---- rows that say it

-- one word says the field
abbrev pub is_plain : Field → Bool
is_plain Field.Durable = false
is_plain Field.Request = false
is_plain Field.Reply = false
is_plain other = true

-- what may be missing, and what takes all that is left, stands last
abbrev pub are_placed : List Field → Bool
are_placed [] = true
are_placed (field ∷ fields) = (is_plain field || is_nil fields) && are_placed fields

-- the fields of a line, and what a kind of these fields tells by their values
abbrev pub spoken_fields : List Spoken → List Field
spoken_fields spoken = map (λ (one : Spoken). one.field) spoken

abbrev pub told_by : {A : Type 0} (spoken : List Spoken) → Telling A (spoken_fields spoken) → A
told_by [] telling = telling
told_by (one ∷ others) telling = told_by others (telling one.value)

-- The line is that of a kind of the table, which tells it.
pub record HasRow {A : Type 0} (kinds : List (Kind A)) (said : Line) (told : A) : Type 0 where
  pub tells : Telling A (spoken_fields said.spoken)
  pub is_one : IsOneOf kinds (kind said.name (spoken_fields said.spoken) tells)
  pub is_told : told_by said.spoken tells ≡ told
  pub placed : are_placed (spoken_fields said.spoken) ≡ true

pub row_by : {A : Type 0} (kinds : List (Kind A)) {said : Line} {told : A} {tells : Telling A (spoken_fields said.spoken)}
    → kind_of kinds said.name ≡ Some (kind said.name (spoken_fields said.spoken) tells) → told_by said.spoken tells ≡ told
    → are_placed (spoken_fields said.spoken) ≡ true → HasRow kinds said told
row_by kinds {said} {told} {tells} e is placed =
    record { tells = tells; is_one = (is_of kinds said.name _ e).0; is_told = is; placed = placed }

-- ---- words that say it

plain_says : (A : Type 0) (spoken : List Spoken) (telling : Telling A (spoken_fields spoken)) (rest : Words) → EachHasWord spoken
    → Say WordSays (spoken_fields spoken) telling (map (λ (one : Spoken). word_for one.field one.value) spoken ++ rest)
    (told_by spoken telling) rest
plain_says A [] telling rest has = (refl, refl)
plain_says A (one ∷ others) telling rest (here, has) = (
  one.value,
  map (λ (one : Spoken). word_for one.field one.value) others ++ rest,
  (word_for one.field one.value, refl, word_back one.field one.value here),
  plain_says A others (telling one.value) rest has,
)

request_row : (asked : Request) → HasRow request_kinds (request_said asked) asked
request_row (Request.Read fid) = row_by request_kinds refl refl refl
request_row other = row_by request_kinds refl refl refl

reply_row : (told : Reply) → HasRow reply_kinds (reply_said told) (plain told)
reply_row (Reply.Closed fid) = row_by reply_kinds refl refl refl
reply_row other = row_by reply_kinds refl refl refl

-- what is said by a row of a table of plain kinds
row_says : {A : Type 0} {kinds : List (Kind A)} {said : Line} {told : A} → HasRow kinds said told → EachHasWord said.spoken
    → (rest : Words) → Tells WordSays kinds (plain_words said ++ rest) told rest
row_says {A} {kinds} {said} {told} row can rest =
    let fields = spoken_fields said.spoken in
    let behind = map (λ (one : Spoken). word_for one.field one.value) said.spoken ++ rest in record {
      kind = kind said.name fields row.tells;
      is_one = row.is_one;
      behind = behind;
      are = refl;
      say = subst (λ (t : A). Say WordSays fields row.tells behind t rest) row.is_told
          (plain_says A said.spoken row.tells rest can);
    }

-- what may be missing stands last
abbrev pub MayStand : Field → Words → Type 0
MayStand Field.Durable behind = behind ≡ []
MayStand other behind = ⊤

pub field_says : (field : Field) (value : Value field) (rest : Words) → CanBeSaid field value → MayStand field rest
    → FieldSays field (words_for field value ++ rest) value rest
field_says Field.Durable true rest can ends = refl
field_says Field.Durable false rest can ends = (ends, ends)
field_says Field.Request asked rest can ends = row_says (request_row asked) can rest
field_says Field.Reply told rest (can, is) ends =
    subst (λ (t : Arrival). Tells WordSays reply_kinds (plain_words (reply_said told.reply) ++ rest) t rest) (sym is)
    (row_says (reply_row told.reply) can rest)
field_says other value rest can ends = (word_for other value, refl, word_back other value can)

nothing_behind : (field : Field) (others : List Spoken) → (is_plain field || is_nil (spoken_fields others)) ≡ true
    → MayStand field (spoken_words others)
nothing_behind Field.Durable [] placed = refl
nothing_behind Field.Durable (one ∷ others) placed = let c : ⊥ = cc in absurd c
nothing_behind other others placed = tt

says_back : (A : Type 0) (spoken : List Spoken) (telling : Telling A (spoken_fields spoken))
    → are_placed (spoken_fields spoken) ≡ true → Each (λ (one : Spoken). CanBeSaid one.field one.value) spoken
    → Say FieldSays (spoken_fields spoken) telling (spoken_words spoken) (told_by spoken telling) []
says_back A [] telling placed can = (refl, refl)
says_back A (one ∷ others) telling placed (here, can) =
    let parts = and_parts (is_plain one.field || is_nil (spoken_fields others)) _ placed in (
      one.value,
      spoken_words others,
      field_says one.field one.value (spoken_words others) here (nothing_behind one.field others parts.0),
      says_back A others (telling one.value) parts.1 can,
    )

-- ---- lines

-- Names of kinds are words, and lines that begin with them are no remarks.
abbrev pub is_name : List ℕ → Bool
is_name name = all_above 32 name && not (is_passed_over name)

abbrev pub are_names : {A : Type 0} → List (Kind A) → Bool
are_names kinds = list_all (λ (kind : Kind _). is_name kind.name) kinds

begins : (name rest : List ℕ) → not (is_passed_over name) ≡ true → is_passed_over (name ++ rest) ≡ false
begins name rest counts = grind arith

pub read_back : {A : Type 0} (kinds : List (Kind A)) (said : A → Line) → are_apart kinds ≡ true → are_names kinds ≡ true
    → ((told : A) → HasRow kinds (said told) told) → AreReadBack said (told_in kinds)
unfolding line_text
read_back {A} kinds said apart names rows told can = record {
  line = line;
  written = refl;
  is_line = λ rest. ap (λ (whole : List ℕ). lines_of whole) (append_assoc line (10 ∷ []) rest) ∙ piece_first 10 [] line rest
      (above-append 10 (said told).name (spaced words) (above-line (said told).name good.0) (spaced_above words are));
  counts = begins (said told).name (spaced words) good.1;
  says = ((reads_exactly kinds apart).told line told).1 (record {
    kind = kind (said told).name fields row.tells;
    is_one = row.is_one;
    behind = words;
    are = fields_spaced (said told).name words good.0 are;
    say = subst (λ (t : A). Say FieldSays fields row.tells words t []) row.is_told
        (says_back A (said told).spoken row.tells row.placed can);
  });
}
  where
    row : HasRow kinds (said told) told
    row = rows told

    fields : List Field
    fields = spoken_fields (said told).spoken

    words : Words
    words = spoken_words (said told).spoken

    line : List ℕ
    line = (said told).name ++ spaced (spoken_words (said told).spoken)

    are : AreWords (spoken_words (said told).spoken)
    are = all_words (said told).spoken can

    good : (all_above 32 (said told).name ≡ true) × (not (is_passed_over (said told).name) ≡ true)
    good = and_parts _ _ (of_one (λ (kind : Kind A). is_name kind.name) kinds _ names (rows told).is_one)
