-- A complaint about a line by a table whose kinds have names of their own is of the first field that no line has.
use Rattle.std.proofs.Common.{◌&&◌, ◌++◌, ◌+◌, ◌∙◌, ◌∷◌, ◌≡◌, ◌↔◌, Bool, List, None, Option, Some, ℕ, [], ap, arith, append-nil}
use Rattle.std.proofs.Common.{append_assoc, bytes_eq, codes, false, if◌then◌else◌, inl, map, not, refl, subst, suc, sym, true}
use Rattle.std.proofs.Common.{zero}
use Rattle.std.proofs.lemmas.{Bool.and_parts, Slice.Eq.bytes_eq-Decides}
use Rattle.std.specs.Prelude.{is_some, length, drop}
use Rattle.std.specs.{Option.option_map, List.list_all, List.list_any}
use Rattle.lease_state.specs.{Rules.profile_rules, declared.access.Access.Access, declared.access.Share.Share}
use Rattle.lease_state.specs.{declared.reply.Reply.Reply, declared.request.Request.Request, declared.status.Status.Status}
use Rattle.lease_texts.specs.{Fields.state_of_wire, Lines.words_for, Pieces.fields_of, Statuses.known, Replies.plain}
use Rattle.lease_texts.specs.{Replies.reply_kinds, Requests.request_kinds, declared.kinds.Field.Field}
use Rattle.lease_texts.specs.Complaints.{Complaint, Expected, Row, Table, fields_behind, if_fits, is_nil, leaves, leaves_table}
use Rattle.lease_texts.specs.Complaints.{or_goes_on, reply_table, request_table, row, stands}
use Rattle.lease_texts.specs.FirstFaults.{AreTold, Begin, ComplainsExactly, IsFirstFault, NoneHas, first_of, is_expected, is_name}
use Rattle.lease_texts.specs.Kinds.{Kind, Telling, Value, Words, client_no, file_id, file_no, lease_key, value_in}
use Rattle.lease_texts.specs.Tables.{CanBeSaid, FieldSays, HasBytes, IsOneOf, ReadsExactly, Say, Saying, Tells, WordSays}
use Rattle.lease_texts.proofs.Tables.{is_of, kind_at, kind_of, are_apart, no_more, none_told, of_one, one_of_a_name}
use Rattle.lease_texts.proofs.Tables.{replies_apart, requests_apart, same_parts}
use Rattle.lease_texts.proofs.ReadBack.{are_placed, field_says, is_plain}
use Rattle.{lease_client.specs.declared.values.note.Settlement.Settlement, hex.specs.Hex.IsBytes}
use Rattle.lease_texts.specs.Complaints as complaints

-- ---- words that fields say

-- The words are said by the fields, one after the other, and none is left.
abbrev Fill : Saying → List Field → Words → Type 0
Fill says [] words = words ≡ []
Fill says (field ∷ fields) words =
    (value : Value field) × (behind : Words) × says field words value behind × Fill says fields behind

fill_told : {A : Type 0} (says : Saying) (fields : List Field) (telling : Telling A fields) (words : Words) (told : A)
    → Say says fields telling words told [] → Fill says fields words
fill_told says [] telling words told (are, is) = are
fill_told says (field ∷ fields) telling words told (value, behind, said, more) =
    (value, behind, said, fill_told says fields (telling value) behind told more)

told_filled : {A : Type 0} (says : Saying) (fields : List Field) (telling : Telling A fields) (words : Words)
    → Fill says fields words → (told : A) × Say says fields telling words told []
told_filled says [] telling words are = (telling, (are, refl))
told_filled says (field ∷ fields) telling words (value, behind, said, more) =
    let rest = told_filled says fields (telling value) behind more in (rest.0, (value, behind, said, rest.1))

-- ---- tables that complaints are about

abbrev pub all_placed : {A : Type 0} → List (Kind A) → Bool
all_placed kinds = not (is_nil kinds) && list_all (λ (kind : Kind _). are_placed kind.fields) kinds

abbrev all_plain : {A : Type 0} → List (Kind A) → Bool
all_plain kinds = list_all (λ (kind : Kind _). list_all is_plain kind.fields) kinds

-- ---- each field can be said

abbrev zeros : ℕ → List ℕ
zeros zero = []
zeros (suc count) = 0 ∷ zeros count

zeros_count : (count : ℕ) → length (zeros count) ≡ count
zeros_count zero = refl
zeros_count (suc count) = ap suc (zeros_count count)

zeros_bytes : (count : ℕ) → IsBytes (zeros count)
zeros_bytes zero i = omega arith
zeros_bytes (suc count) zero = omega arith
zeros_bytes (suc count) (suc i) = zeros_bytes count i

has_zeros : (count : ℕ) → HasBytes count (zeros count)
has_zeros count = (zeros_count count, zeros_bytes count)

sample : (field : Field) → (value : Value field) × CanBeSaid field value
sample Field.Client = (client_no 1, (omega arith, omega arith))
sample Field.File = (file_no 1, (omega arith, omega arith))
sample Field.FileId = (file_id 0, omega arith)
sample Field.Number = (0, omega arith)
sample Field.Offset = (0, omega arith)
sample Field.Bytes = ([], zeros_bytes 0)
sample Field.Content = ([], (zeros_bytes 0, omega arith))
sample Field.State = (state_of_wire 0, omega arith)
sample Field.Access = (Access.Read, tt)
sample Field.Share = (Share.Nothing, tt)
sample Field.Rules = (profile_rules, tt)
sample Field.Way = (true, tt)
sample Field.Outcome = (Settlement.Done, tt)
sample Field.Guid = (zeros 16, has_zeros 16)
sample Field.Message = (zeros 36, has_zeros 36)
sample Field.Key = (lease_key (zeros 16), has_zeros 16)
sample Field.Notification = (zeros 44, has_zeros 44)
sample Field.Status = (known Status.Unsuccessful, refl)
sample Field.Durable = (false, tt)
sample Field.Request = (Request.Close (file_id 0), (omega arith, tt))
sample Field.Reply = (plain (Reply.Closed (file_id 0)), ((omega arith, tt), refl))

-- fields in their places can all be said
completed : (fields : List Field) → are_placed fields ≡ true → (words : Words) × Fill FieldSays fields words
completed [] placed = ([], refl)
completed (Field.Durable ∷ []) placed = ([], (false, [], (refl, refl), refl))
completed (Field.Durable ∷ next ∷ fields) placed = let c : ⊥ = cc in absurd c
completed (field ∷ fields) placed = let rest = completed fields (grind (arith, placed)) in
    let one = sample field in
    (words_for field one.0 ++ rest.0, (one.0, rest.0, field_says field one.0 rest.0 one.1 tt, rest.1))

-- ---- what may follow a word

-- A word leads from what is said to what these fields say, or to nothing.
abbrev Leads : Option (List Field) → (Words → Type 0) → List ℕ → Type 0
Leads None Are word = (words : Words) → Are (word ∷ words) → ⊥
Leads (Some fields) Are word =
    (are_placed fields ≡ true) × ((words : Words) → Are (word ∷ words) ↔ Fill FieldSays fields words)

-- what leads on can be expected
abbrev May : (Words → Type 0) → List ℕ → Bool → Type 0
May Are word expected = Begin Are (word ∷ []) ↔ (expected ≡ true)

may_lead : (Are : Words → Type 0) (word : List ℕ) (to : Option (List Field)) → Leads to Are word → May Are word (is_some to)
may_lead Are word None never = (λ (rest, are). absurd (never rest are), λ e. let c : ⊥ = cc in absurd c)
may_lead Are word (Some fields) (placed, same) =
    (λ _. refl, λ _. let done = completed fields placed in (done.0, (same done.0).1 done.1))

-- ---- one word for a field

plain_says : (field : Field) → is_plain field ≡ true → (words : Words) (value : Value field) (rest : Words)
    → FieldSays field words value rest ↔ WordSays field words value rest
plain_says Field.Durable alone words value rest = let c : ⊥ = cc in absurd c
plain_says Field.Request alone words value rest = let c : ⊥ = cc in absurd c
plain_says Field.Reply alone words value rest = let c : ⊥ = cc in absurd c
plain_says other alone words value rest = (λ said. said, λ said. said)

fill_plain : (fields : List Field) → list_all is_plain fields ≡ true → (words : Words)
    → Fill WordSays fields words ↔ Fill FieldSays fields words
fill_plain [] alone words = (λ are. are, λ are. are)
fill_plain (field ∷ fields) alone words =
    let parts = and_parts (is_plain field) (list_all is_plain fields) alone in (
      λ (value, behind, said, more).
          (value, behind, (plain_says field parts.0 words value behind).1 said, (fill_plain fields parts.1 behind).0 more),
      λ (value, behind, said, more).
          (value, behind, (plain_says field parts.0 words value behind).0 said, (fill_plain fields parts.1 behind).1 more),
    )

one_leads : (field : Field) (fields : List Field) (word : List ℕ) → is_plain field ≡ true → are_placed fields ≡ true
    → Leads (if_fits (is_some (value_in field word)) fields) (Fill FieldSays (field ∷ fields)) word
one_leads field fields word alone placed = by_value (value_in field word) refl
  where
    by_value : (got : Option (Value field)) → value_in field word ≡ got
        → Leads (if_fits (is_some got) fields) (Fill FieldSays (field ∷ fields)) word
    by_value None is = λ words (value, behind, said, more).
        let found = (plain_says field alone (word ∷ words) value behind).0 said in
        none_told value (sym is ∙ ap (λ (w : List ℕ). value_in field w) (same_parts found.1).0 ∙ found.2)
    by_value (Some value) is = (
      placed,
      λ words. (
        λ (other, behind, said, more).
            let found = (plain_says field alone (word ∷ words) other behind).0 said in
            subst (λ (w : Words). Fill FieldSays fields w) (sym (same_parts found.1).1) more,
        λ more. (value, words, (plain_says field alone (word ∷ words) value words).1 (word, refl, is), more),
      ),
    )

-- ---- the word that names a kind

fields_of_kind : {A : Type 0} (kinds : List (Kind A)) (name : List ℕ)
    → fields_behind (map row kinds) name ≡ option_map (λ (kind : Kind A). kind.fields) (kind_of kinds name)
unfolding fields_behind
fields_of_kind [] name = refl
fields_of_kind (one ∷ kinds) name = let later = fields_of_kind kinds name in grind arith

-- what a saying and that of lines have alike
abbrev Alike : {A : Type 0} → Saying → List (Kind A) → Type 0
Alike {A} says kinds = (kind : Kind A) → IsOneOf kinds kind → (words : Words)
    → Fill says kind.fields words ↔ Fill FieldSays kind.fields words

table_leads : {A : Type 0} (says : Saying) (kinds : List (Kind A)) → are_apart kinds ≡ true
    → list_all (λ (kind : Kind A). are_placed kind.fields) kinds ≡ true → Alike says kinds → (word : List ℕ)
    → Leads (fields_behind (map row kinds) word) (AreTold says kinds) word
table_leads {A} says kinds apart placed alike word =
    subst (λ (to : Option (List Field)). Leads to (AreTold says kinds) word) (sym (fields_of_kind kinds word))
    (by_kind (kind_of kinds word) refl)
  where
    by_kind : (got : Option (Kind A)) → kind_of kinds word ≡ got
        → Leads (option_map (λ (kind : Kind A). kind.fields) got) (AreTold says kinds) word
    by_kind None none = λ words (told, tells). none_told tells.kind (sym none
        ∙ ap (λ (n : List ℕ). kind_of kinds n) (same_parts tells.are).0 ∙ kind_at kinds tells.kind apart tells.is_one)
    by_kind (Some kind) is = let found = is_of kinds word kind is in (
      of_one (λ (kind : Kind A). are_placed kind.fields) kinds kind placed found.0,
      λ words. (
        λ (told, tells).
            let parts = same_parts tells.are in
            let one = one_of_a_name kinds tells.kind kind apart tells.is_one found.0 (sym parts.0 ∙ found.1) in
            subst (λ (w : Words). Fill FieldSays kind.fields w) (sym parts.1)
            (subst (λ (k : Kind A). Fill FieldSays k.fields tells.behind) one
            ((alike tells.kind tells.is_one tells.behind).0
            (fill_told says tells.kind.fields tells.kind.tells tells.behind told tells.say))),
        λ filled.
            let all = told_filled says kind.fields kind.tells words ((alike kind found.0 words).1 filled) in (
              all.0,
              record { kind = kind; is_one = found.0; behind = words; are = ap (λ (n : List ℕ). n ∷ words) found.1; say = all.1 },
            ),
      ),
    )

-- ---- the word of a field

-- what takes all that is left, by a table of its own
plain_leads : {A : Type 0} (kinds : List (Kind A)) → are_apart kinds ≡ true
    → list_all (λ (kind : Kind A). are_placed kind.fields) kinds ≡ true → all_plain kinds ≡ true → (word : List ℕ)
    → Leads (fields_behind (map row kinds) word)
    (λ words. (told : A) × (rest : Words) × Tells WordSays kinds words told rest × (rest ≡ [])) word
plain_leads {A} kinds apart placed alone word =
    all_of (fields_behind (map row kinds) word) (table_leads WordSays kinds apart placed (λ kind is words.
    fill_plain kind.fields (of_one (λ (kind : Kind A). list_all is_plain kind.fields) kinds kind alone is) words) word)
  where
    all_of : (to : Option (List Field)) → Leads to (AreTold WordSays kinds) word
        → Leads to (λ words. (told : A) × (rest : Words) × Tells WordSays kinds words told rest × (rest ≡ [])) word
    all_of None never = λ words (told, rest, tells, none).
        never words (told, subst (λ (w : Words). Tells WordSays kinds (word ∷ words) told w) none tells)
    all_of (Some fields) (placed, leads) = (
      placed,
      λ words. (
        λ (told, rest, tells, none).
            (leads words).0 (told, subst (λ (w : Words). Tells WordSays kinds (word ∷ words) told w) none tells),
        λ filled. let all = (leads words).1 filled in (all.0, [], all.1, refl),
      ),
    )

durable_leads : (word : List ℕ) → Leads (complaints.behind Field.Durable word []) (Fill FieldSays (Field.Durable ∷ [])) word
durable_leads word = by_word (bytes_eq word (codes "durable")) refl
  where
    said_it : (words behind : Words) (durable : Bool) → FieldSays Field.Durable (word ∷ words) durable behind
        → word ∷ words ≡ codes "durable" ∷ behind
    said_it words behind true are = are
    said_it words behind false (are, _) = no_more are

    by_word : (b : Bool) → bytes_eq word (codes "durable") ≡ b
        → Leads (if_fits (is_some (if b then Some true else None)) []) (Fill FieldSays (Field.Durable ∷ [])) word
    by_word true same = (
      refl,
      λ words. (
        λ (durable, behind, said, are). (same_parts (said_it words behind durable said)).1 ∙ are,
        λ are. (true, words, ap (λ (w : List ℕ). w ∷ words) ((bytes_eq-Decides word (codes "durable")).0 same), are),
      ),
    )
    by_word false other = λ words (durable, behind, said, are).
        let same = (bytes_eq-Decides word (codes "durable")).1 (same_parts (said_it words behind durable said)).0 in
        let c : ⊥ = cc in c

says_is : (field : Field) (word : List ℕ) → is_plain field ≡ true → complaints.says field word ≡ is_some (value_in field word)
says_is Field.Client word alone = grind arith
says_is other word alone = grind arith

field_leads : (field : Field) (fields : List Field) (word : List ℕ) → are_placed (field ∷ fields) ≡ true
    → Leads (complaints.behind field word fields) (Fill FieldSays (field ∷ fields)) word
field_leads Field.Durable [] word placed = durable_leads word
field_leads Field.Request [] word placed = plain_leads request_kinds requests_apart refl refl word
field_leads Field.Reply [] word placed = plain_leads reply_kinds replies_apart refl refl word
field_leads Field.Durable (next ∷ fields) word placed = let c : ⊥ = cc in absurd c
field_leads Field.Request (next ∷ fields) word placed = let c : ⊥ = cc in absurd c
field_leads Field.Reply (next ∷ fields) word placed = let c : ⊥ = cc in absurd c
field_leads other fields word placed =
    subst (λ (b : Bool). Leads (if_fits b fields) (Fill FieldSays (other ∷ fields)) word) (sym (says_is other word refl))
    (one_leads other fields word refl (grind (arith, placed)))

-- ---- what is expected

is_named : (rows : List Row) (word : List ℕ)
    → is_some (fields_behind rows word) ≡ list_any (λ (row : Row). bytes_eq word row.name) rows
unfolding fields_behind
is_named [] word = refl
is_named (one ∷ rows) word = let later = is_named rows word in grind arith

if_some : (b : Bool) (fields : List Field) → is_some (if_fits b fields) ≡ b
if_some b fields = grind arith

is_behind : (field : Field) (fields : List Field) (word : List ℕ)
    → is_some (complaints.behind field word fields) ≡ is_expected (Expected.Holds field) word
is_behind Field.Durable fields word = grind arith
is_behind Field.Request fields word = is_named request_table.rows word
is_behind Field.Reply fields word = is_named reply_table.rows word
is_behind other fields word = if_some (complaints.says other word) fields ∙ says_is other word refl

field_may : (field : Field) (fields : List Field) (word : List ℕ) → are_placed (field ∷ fields) ≡ true
    → May (Fill FieldSays (field ∷ fields)) word (is_expected (Expected.Holds field) word)
field_may field fields word placed =
    subst (λ (b : Bool). May (Fill FieldSays (field ∷ fields)) word b) (is_behind field fields word)
    (may_lead (Fill FieldSays (field ∷ fields)) word (complaints.behind field word fields) (field_leads field fields word placed))

-- ---- the first fault

-- With no complaint the words are those of a line, and a complaint is of their first fault.
abbrev Follows : Option Complaint → (Words → Type 0) → ℕ → Words → Type 0
Follows None Are number words = Are words
Follows (Some complaint) Are number words = IsFirstFault Are number words complaint

a_word_on : (Are Next : Words → Type 0) (number : ℕ) (word : List ℕ) (words : Words) (got : Option Complaint)
    → ((rest : Words) → Are (word ∷ rest) ↔ Next rest) → Follows got Next (number + 1) words
    → Follows got Are number (word ∷ words)
a_word_on Are Next number word words None same are = (same words).1 are
a_word_on Are Next number word words (Some complaint) same fault = record {
  before = word ∷ fault.before;
  from = fault.from;
  are = ap (λ (w : Words). word ∷ w) fault.are;
  counted = let is = fault.counted in omega arith;
  found = fault.found;
  last = fault.last;
  begins = (fault.begins.0, (same (fault.before ++ fault.begins.0)).1 fault.begins.1);
  none = none fault.before fault.from fault.none;
  expected = λ other. (
    λ (rest, are). (fault.expected other).0 (rest, (same ((fault.before ++ other ∷ []) ++ rest)).0 are),
    λ is. let goes = (fault.expected other).1 is in (goes.0, (same ((fault.before ++ other ∷ []) ++ goes.0)).1 goes.1),
  );
}
  where
    none : (before from : Words) → NoneHas Next before from → NoneHas Are (word ∷ before) from
    none before [] never = λ are. never ((same before).0 are)
    none before (other ∷ from) never = λ (rest, are). never (rest, (same ((before ++ other ∷ []) ++ rest)).0 are)

-- a fault of the first word, or at the end
at_once : (Are : Words → Type 0) (number : ℕ) (expected : Expected) (from : Words) → Begin Are [] → NoneHas Are [] from
    → ((word : List ℕ) → May Are word (is_expected expected word))
    → IsFirstFault Are number from
    (record { field = number; expected = expected; found = first_of from; is_last = is_nil (drop 1 from) })
at_once Are number expected from begins none may = record {
  before = [];
  from = from;
  are = refl;
  counted = omega arith;
  found = refl;
  last = refl;
  begins = begins;
  none = none;
  expected = may;
}

-- by what a word leads to
on_from : (Are : Words → Type 0) (number : ℕ) (expected : Expected) (word : List ℕ) (words : Words) (to : Option (List Field))
    → Leads to Are word → Begin Are [] → ((other : List ℕ) → May Are other (is_expected expected other))
    → ((fields : List Field) → are_placed fields ≡ true
    → Follows (leaves (number + 1) fields words) (Fill FieldSays fields) (number + 1) words)
    → Follows (or_goes_on (stands number expected word words) to (λ fields. leaves (number + 1) fields words)) Are number
    (word ∷ words)
on_from Are number expected word words None never begins may more =
    at_once Are number expected (word ∷ words) begins (λ (rest, are). never rest are) may
on_from Are number expected word words (Some fields) (placed, same) begins may more =
    a_word_on Are (Fill FieldSays fields) number word words (leaves (number + 1) fields words) same (more fields placed)

no_words : (one : Field) (fields : List Field) → (one ≡ Field.Durable → ⊥) → Fill FieldSays (one ∷ fields) [] → ⊥
no_words Field.Durable fields other filled = other refl
no_words Field.Request fields other (value, behind, tells, more) = no_more (sym tells.are)
no_words Field.Reply fields other (value, behind, tells, more) = no_more (sym tells.are)
no_words other fields differs (value, behind, (word, are, is), more) = no_more (sym are)

ends : (number : ℕ) (one : Field) (fields : List Field) → are_placed (one ∷ fields) ≡ true → (one ≡ Field.Durable → ⊥)
    → IsFirstFault (Fill FieldSays (one ∷ fields)) number []
    (record { field = number; expected = Expected.Holds one; found = None; is_last = true })
ends number one fields placed other = at_once (Fill FieldSays (one ∷ fields)) number (Expected.Holds one) []
    (completed (one ∷ fields) placed) (no_words one fields other) (λ word. field_may one fields word placed)

follows : (words : Words) (number : ℕ) (fields : List Field) → are_placed fields ≡ true
    → Follows (leaves number fields words) (Fill FieldSays fields) number words
unfolding leaves
follows [] number [] placed = refl
follows [] number (Field.Durable ∷ []) placed = (false, [], (refl, refl), refl)
follows [] number (Field.Durable ∷ next ∷ fields) placed = let c : ⊥ = cc in absurd c
follows [] number (field ∷ fields) placed = ends number field fields placed (λ same. cc)
follows (word ∷ words) number [] placed = at_once (Fill FieldSays []) number Expected.End (word ∷ words) ([], refl)
    (λ (rest, are). no_more are) (λ other. (λ (rest, are). no_more are, λ is. let c : ⊥ = cc in absurd c))
follows (word ∷ words) number (field ∷ fields) placed =
    on_from (Fill FieldSays (field ∷ fields)) number (Expected.Holds field) word words (complaints.behind field word fields)
    (field_leads field fields word placed) (completed (field ∷ fields) placed) (λ other. field_may field fields other placed)
    (λ fields placed. follows words (number + 1) fields placed)

-- ---- whole lines

begins_some : {A : Type 0} (kinds : List (Kind A)) → all_placed kinds ≡ true → Begin (AreTold FieldSays kinds) []
begins_some [] placed = let c : ⊥ = cc in absurd c
begins_some (kind ∷ kinds) placed =
    let words = completed kind.fields (and_parts _ _ placed).0 in
    let all = told_filled FieldSays kind.fields kind.tells words.0 words.1 in
    (kind.name ∷ words.0, (all.0, record { kind = kind; is_one = inl refl; behind = words.0; are = refl; say = all.1 }))

table_follows : {A : Type 0} (kinds : List (Kind A)) (names : Table) → names.rows ≡ map row kinds → are_apart kinds ≡ true
    → all_placed kinds ≡ true → (words : Words) → Follows (leaves_table names words) (AreTold FieldSays kinds) 1 words
table_follows {A} kinds names rows apart placed = go
  where
    may : (word : List ℕ) → Leads (fields_behind names.rows word) (AreTold FieldSays kinds) word
        → May (AreTold FieldSays kinds) word (is_name names word)
    may word leads = subst (λ (b : Bool). May (AreTold FieldSays kinds) word b) (is_named names.rows word)
        (may_lead (AreTold FieldSays kinds) word (fields_behind names.rows word) leads)

    leads : (word : List ℕ) → Leads (fields_behind names.rows word) (AreTold FieldSays kinds) word
    leads word = subst (λ (rs : List Row). Leads (fields_behind rs word) (AreTold FieldSays kinds) word) (sym rows)
        (table_leads FieldSays kinds apart (grind (arith, placed))
        (λ kind is words. (λ filled. filled, λ filled. filled)) word)

    go : (words : Words) → Follows (leaves_table names words) (AreTold FieldSays kinds) 1 words
    go [] = at_once (AreTold FieldSays kinds) 1 (Expected.Names names) [] (begins_some kinds placed)
        (λ (told, tells). no_more (sym tells.are)) (λ word. may word (leads word))
    go (word ∷ words) = on_from (AreTold FieldSays kinds) 1 (Expected.Names names) word words (fields_behind names.rows word)
        (leads word) (begins_some kinds placed) (λ other. may other (leads other))
        (λ fields placed. follows words 2 fields placed)

-- a first fault is that of words that are no line
faulty : (Are : Words → Type 0) (number : ℕ) (words : Words) (complaint : Complaint) → IsFirstFault Are number words complaint
    → Are words → ⊥
faulty Are number words complaint fault are = no_line fault.before fault.from fault.are fault.none
  where
    no_line : (before from : Words) → words ≡ before ++ from → NoneHas Are before from → ⊥
    no_line before [] same none = none (subst (λ (w : Words). Are w) (same ∙ append-nil before) are)
    no_line before (word ∷ from) same none =
        none (from, subst (λ (w : Words). Are w) (same ∙ sym (append_assoc before (word ∷ []) from)) are)

pub complains_exactly : {A : Type 0} (kinds : List (Kind A)) (read : List ℕ → Option A) (names : Table)
    → names.rows ≡ map row kinds → are_apart kinds ≡ true → all_placed kinds ≡ true → ReadsExactly kinds read
    → ComplainsExactly FieldSays kinds read (complaints.complaint names)
complains_exactly {A} kinds read names rows apart placed reads = record {
  refused = λ line. by_got line (complaints.complaint names line) (table_follows kinds names rows apart placed (fields_of line));
  first = λ line told is. subst (λ (got : Option Complaint). Follows got (AreTold FieldSays kinds) 1 (fields_of line)) is
      (table_follows kinds names rows apart placed (fields_of line));
}
  where
    by_got : (line : List ℕ) (got : Option Complaint) → Follows got (AreTold FieldSays kinds) 1 (fields_of line)
        → (read line ≡ None) ↔ (is_some got ≡ true)
    by_got line None (told, tells) = (λ e. absurd ((reads.refused line).0 e told tells), λ e. let c : ⊥ = cc in absurd c)
    by_got line (Some complaint) fault = (
      λ _. refl,
      λ _. (reads.refused line).1
          (λ told tells. faulty (AreTold FieldSays kinds) 1 (fields_of line) complaint fault (told, tells)),
    )
