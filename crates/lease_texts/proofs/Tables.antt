-- A reader by a table whose kinds have names of their own reads exactly what lines tell.
use Rattle.std.proofs.Common.{◌&&◌, ◌∙◌, ◌∷◌, ◌≡◌, ◌↔◌, Bool, List, None, Option, Some, ℕ, [], ap, arith, bytes_eq, codes, false}
use Rattle.std.proofs.Common.{if◌then◌else◌, inl, inr, not, refl, sym, true}
use Rattle.lease_texts.specs.Kinds.{Kind, Reading, Telling, Value, Words, and_then, by_name, named, one, taken, whole, word_read}
use Rattle.lease_texts.specs.Lines.{durable_in, field_read, told_in}
use Rattle.lease_texts.specs.{Pieces.fields_of, Replies.reply_kinds, Requests.request_kinds, declared.kinds.Field.Field}
use Rattle.lease_texts.specs.Tables.{DurableSays, FieldSays, IsOneOf, LineTells, ReadsExactly, Say, Saying, Tells, WordSays}
use Rattle.{std.proofs.lemmas.Bool.and_parts, std.proofs.lemmas.Slice.Eq.bytes_eq-Decides, std.specs.List.list_all}

-- ---- small steps

pub same_told : {A : Type 0} (first second : A) → Some first ≡ Some second → first ≡ second
same_told first second e = cc

pub none_told : {A : Type 0} (told : A) → None ≡ Some told → ⊥
none_told told e = cc

same_pair : {A : Type 0} (first second : A × Words) → Some first ≡ Some second → (first.0 ≡ second.0) × (first.1 ≡ second.1)
same_pair first second e = (cc, cc)

pub no_more : {X : Type 0} {word : List ℕ} {words : Words} → word ∷ words ≡ [] → X
no_more e = let c : ⊥ = cc in absurd c

-- ---- fields

-- Words are read as what they say.
pub record Fits (read : Reading) (says : Saying) : Type 0 where
  pub same : (field : Field) (words : Words) (value : Value field) (rest : Words)
      → (read field words ≡ Some (value, rest)) ↔ says field words value rest

words_read : (field : Field) (words : Words) (value : Value field) (rest : Words)
    → (word_read field words ≡ Some (value, rest)) ↔ WordSays field words value rest
words_read field [] value rest = (λ e. absurd (none_told (value, rest) e), λ (word, are, is). no_more (sym are))
words_read field (word ∷ words) value rest = (λ e. (word, grind arith, grind arith), λ (found, are, is). grind arith)

pub words_fit : Fits word_read WordSays
words_fit = record { same = words_read }

pub taken_says : {A : Type 0} {read : Reading} {says : Saying} (fits : Fits read says) (fields : List Field)
    (telling : Telling A fields) (words : Words) (told : A) (rest : Words)
    → (taken read fields telling words ≡ Some (told, rest)) ↔ Say says fields telling words told rest
unfolding taken
taken_says fits [] telling words told rest = (λ e. (grind arith, grind arith), λ (same, is). grind arith)
taken_says {A} {read} {says} fits (field ∷ fields) telling words told rest = (
  of_value (read field words) refl (λ value behind. (taken_says fits fields (telling value) behind told rest).0),
  λ (value, behind, is, say).
      let got = (fits.same field words value behind).1 is in
      let more = (taken_says fits fields (telling value) behind told rest).1 say in grind arith,
)
  where
    of_value : (got : Option (Value field × Words)) → read field words ≡ got
        → ((value : Value field) (behind : Words) → taken read fields (telling value) behind ≡ Some (told, rest)
        → Say says fields (telling value) behind told rest)
        → and_then got (λ value words. taken read fields (telling value) words) ≡ Some (told, rest)
        → Say says (field ∷ fields) telling words told rest
    of_value None is more e = absurd (none_told (told, rest) e)
    of_value (Some found) is more e =
        (found.0, found.1, (fits.same field words found.0 found.1).0 is, more found.0 found.1 e)

-- ---- kinds with names of their own

unfoldable pub are_apart : {A : Type 0} → List (Kind A) → Bool
are_apart [] = true
are_apart (one ∷ kinds) = list_all (λ (other : Kind _). not (bytes_eq one.name other.name)) kinds && are_apart kinds

pub of_one : {X : Type 0} (test : X → Bool) (xs : List X) (x : X) → list_all test xs ≡ true → IsOneOf xs x → test x ≡ true
of_one test [] x all is = absurd is
of_one test (y ∷ ys) x all (inl same) = ap test same ∙ (and_parts (test y) (list_all test ys) all).0
of_one test (y ∷ ys) x all (inr later) = of_one test ys x (and_parts (test y) (list_all test ys) all).1 later

other_name : {A : Type 0} (name : List ℕ) (kinds : List (Kind A)) (kind : Kind A)
    → list_all (λ (other : Kind A). not (bytes_eq name other.name)) kinds ≡ true → IsOneOf kinds kind → name ≡ kind.name → ⊥
other_name name [] kind differ is same = is
other_name name (one ∷ kinds) kind differ (inl first) same = let equal = bytes_eq-Decides name one.name in grind arith
other_name name (one ∷ kinds) kind differ (inr later) same = other_name name kinds kind (grind (arith, differ)) later same

-- the kind of a name
abbrev pub kind_of : {A : Type 0} → List (Kind A) → List ℕ → Option (Kind A)
kind_of [] name = None
kind_of (one ∷ kinds) name = if bytes_eq name one.name then Some one else kind_of kinds name

pub is_of : {A : Type 0} (kinds : List (Kind A)) (name : List ℕ) (kind : Kind A) → kind_of kinds name ≡ Some kind
    → IsOneOf kinds kind × (name ≡ kind.name)
is_of [] name kind e = absurd (none_told kind e)
is_of {A} (one ∷ kinds) name kind e = by_name (bytes_eq name one.name) refl (is_of kinds name kind) e
  where
    by_name : (b : Bool) → bytes_eq name one.name ≡ b
        → (kind_of kinds name ≡ Some kind → IsOneOf kinds kind × (name ≡ kind.name))
        → (if b then Some one else kind_of kinds name) ≡ Some kind → IsOneOf (one ∷ kinds) kind × (name ≡ kind.name)
    by_name true same later e =
        let is = same_told one kind e in
        (inl (sym is), (bytes_eq-Decides name one.name).0 same ∙ ap (λ (k : Kind A). k.name) is)
    by_name false other later e = (inr (later e).0, (later e).1)

pub kind_at : {A : Type 0} (kinds : List (Kind A)) (kind : Kind A) → are_apart kinds ≡ true → IsOneOf kinds kind
    → kind_of kinds kind.name ≡ Some kind
unfolding are_apart
kind_at [] kind apart is = absurd is
kind_at (one ∷ kinds) kind apart (inl first) = let same = bytes_eq-Decides kind.name one.name in grind arith
kind_at (one ∷ kinds) kind apart (inr later) =
    let others = kind_at kinds kind (grind (arith, apart)) later in
    let never = other_name one.name kinds kind (grind (arith, apart)) later in
    let same = bytes_eq-Decides kind.name one.name in grind arith

pub one_of_a_name : {A : Type 0} (kinds : List (Kind A)) (first second : Kind A) → are_apart kinds ≡ true → IsOneOf kinds first
    → IsOneOf kinds second → first.name ≡ second.name → first ≡ second
one_of_a_name kinds first second apart is also same = same_told first second
    (sym (kind_at kinds first apart is) ∙ ap (λ (n : List ℕ). kind_of kinds n) same ∙ kind_at kinds second apart also)

-- what is read by a name is read by its kind
abbrev read_by : {A : Type 0} → Reading → Option (Kind A) → Words → Option (A × Words)
read_by read None words = None
read_by read (Some kind) words = taken read kind.fields kind.tells words

named_is : {A : Type 0} (read : Reading) (kinds : List (Kind A)) (name : List ℕ) (words : Words)
    → named read kinds name words ≡ read_by read (kind_of kinds name) words
unfolding named
named_is read [] name words = refl
named_is read (one ∷ kinds) name words = let later = named_is read kinds name words in grind arith

-- ---- what words tell by a table

pub words_tell : {A : Type 0} {read : Reading} {says : Saying} (fits : Fits read says) (kinds : List (Kind A))
    → are_apart kinds ≡ true → (words : Words) (told : A) (rest : Words)
    → (by_name read kinds words ≡ Some (told, rest)) ↔ Tells says kinds words told rest
words_tell fits kinds apart [] told rest = (λ e. absurd (none_told (told, rest) e), λ is. no_more (sym is.are))
words_tell {A} {read} {says} fits kinds apart (name ∷ words) told rest =
    (λ e. of_kind (kind_of kinds name) refl (sym (named_is read kinds name words) ∙ e), of_words)
  where
    of_kind : (got : Option (Kind A)) → kind_of kinds name ≡ got → read_by read got words ≡ Some (told, rest)
        → Tells says kinds (name ∷ words) told rest
    of_kind None is e = absurd (none_told (told, rest) e)
    of_kind (Some kind) is e =
        let found = is_of kinds name kind is in record {
          kind = kind;
          is_one = found.0;
          behind = words;
          are = ap (λ (n : List ℕ). n ∷ words) found.1;
          say = (taken_says fits kind.fields kind.tells words told rest).0 e;
        }

    of_words : Tells says kinds (name ∷ words) told rest → by_name read kinds (name ∷ words) ≡ Some (told, rest)
    of_words is = ap (λ (w : Words). by_name read kinds w) is.are ∙ named_is read kinds is.kind.name is.behind
        ∙ ap (λ (o : Option (Kind A)). read_by read o is.behind) (kind_at kinds is.kind apart is.is_one)
        ∙ (taken_says fits is.kind.fields is.kind.tells is.behind told rest).1 is.say

abbrev name_in : Words → List ℕ
name_in [] = []
name_in (name ∷ words) = name

-- ---- whole lines

whole_is : {A : Type 0} (got : Option (A × Words)) (told : A) → (whole got ≡ Some told) ↔ (got ≡ Some (told, []))
whole_is None told = (λ e. cc, λ e. cc)
whole_is (Some (value, [])) told = (λ e. grind arith, λ e. grind arith)
whole_is (Some (value, word ∷ words)) told = (λ e. cc, λ e. grind arith)

reads_lines : {A : Type 0} {says : Saying} (fits : Fits field_read says) (kinds : List (Kind A)) → are_apart kinds ≡ true
    → (line : List ℕ) (told : A) → (told_in kinds line ≡ Some told) ↔ Tells says kinds (fields_of line) told []
unfolding told_in
reads_lines fits kinds apart line told =
    let is = whole_is (by_name field_read kinds (fields_of line)) told in
    let tell = words_tell fits kinds apart (fields_of line) told [] in (λ e. tell.0 (is.0 e), λ say. is.1 (tell.1 say))

-- ---- the fields of lines

pub same_parts : {word other : List ℕ} {words others : Words} → word ∷ words ≡ other ∷ others → (word ≡ other) × (words ≡ others)
same_parts e = (cc, cc)

durable_read : (words : Words) (durable : Bool) (rest : Words)
    → (durable_in words ≡ Some (durable, rest)) ↔ DurableSays words durable rest
durable_read [] true rest = (λ e. grind arith, λ e. cc)
durable_read [] false rest = (λ e. (refl, grind arith), λ (_, is). grind arith)
durable_read (word ∷ words) true rest =
    let same = bytes_eq-Decides word (codes "durable") in (λ e. grind arith, λ are. grind arith)
durable_read (word ∷ words) false rest = (λ e. grind arith, λ (are, _). cc)

pub requests_apart : are_apart request_kinds ≡ true
unfolding are_apart
requests_apart = refl

pub replies_apart : are_apart reply_kinds ≡ true
unfolding are_apart
replies_apart = refl

fields_read : (field : Field) (words : Words) (value : Value field) (rest : Words)
    → (field_read field words ≡ Some (value, rest)) ↔ FieldSays field words value rest
fields_read Field.Durable words durable rest = durable_read words durable rest
fields_read Field.Request words asked rest = words_tell words_fit request_kinds requests_apart words asked rest
fields_read Field.Reply words told rest = words_tell words_fit reply_kinds replies_apart words told rest
fields_read other words value rest = words_read other words value rest

pub reads_exactly : {A : Type 0} (kinds : List (Kind A)) → are_apart kinds ≡ true → ReadsExactly kinds (told_in kinds)
reads_exactly {A} kinds apart = record {
  told = is;
  refused = λ line. (λ e told say. none_told told (sym e ∙ (is line told).1 say), none line (told_in kinds line) refl);
  one = λ line first second say also. same_told first second (sym ((is line first).1 say) ∙ (is line second).1 also);
  one_kind = λ line first second say also. one_of_a_name kinds say.kind also.kind apart say.is_one also.is_one
      (ap name_in (sym say.are ∙ also.are));
}
  where
    is : (line : List ℕ) (told : A) → (told_in kinds line ≡ Some told) ↔ LineTells kinds line told
    is = reads_lines (record { same = fields_read }) kinds apart

    none : (line : List ℕ) (got : Option A) → told_in kinds line ≡ got → ((told : A) → LineTells kinds line told → ⊥)
        → told_in kinds line ≡ None
    none line None e never = e
    none line (Some told) e never = absurd (never told ((is line told).0 e))
