-- The word that is written for a value says that value, and has no space in it.
use Rattle.std.proofs.Common.{append_assoc, ◌*◌, ◌++◌, ◌+◌, ◌/◌, ◌%◌, ◌<◌, ◌^◌, ◌∙◌, ◌∷◌, ◌≡◌, ◌≤◌}
use Rattle.std.proofs.Common.{All, List, Option, Some, ℕ, [], ap, arith}
use Rattle.std.proofs.Common.{decimal, inl, length, option_map, refl, slice_index, subst, suc, sym, true, zero}
use Rattle.std.proofs.lemmas.{Bool.Decides.nat_tests, List.get_or_default}
use Rattle.std.proofs.lemmas.Fmt.{decimal_by_steps, decimal_digit, decimal_step, decimal_nonempty, first_decimal}
use Rattle.hex.specs.Hex.{IsBytes, encode_with, encode_lower}
use Rattle.hex.proofs.HexLemmas.{decode_of-encode_lower, decode_sized-encode_lower}
use Rattle.lease_state.specs.{State.State, State.bits_of_state, State.state_of, declared.status.Status.Status}
use Rattle.lease_texts.specs.Fields.{bytes_in, content_in, digit_behind, number_after, number_in, offset_in, ordinal_in, sized_in}
use Rattle.lease_texts.specs.Fields.{state_in, state_of_wire}
use Rattle.lease_texts.specs.Kinds.{Value, client_no, file_id, file_no, lease_key, value_in, word_for}
use Rattle.lease_texts.specs.{Statuses.given_word, Statuses.known, Statuses.status_in, Statuses.status_word, Tables.HasWord}
use Rattle.lease_texts.specs.{Words.digits_word, Words.of_word, Words.state_word, declared.kinds.Field.Field, Pieces.all_above}
use Rattle.lease_texts.proofs.Bytes.{above-append, hexadecimal_above, hyphenated_above}
use Rattle.{lease_state.specs.declared.state.LeaseState.LeaseState, lease_texts.specs.declared.status.GivenStatus.GivenStatus}
use Rattle.{lease_state.proofs.StateLemmas.bits_of_state-small, uuid.specs.Text.lower, uuid.proofs.RoundTrips.parses_hyphenated}

-- ---- numbers

after-append : (value : Option ℕ) (digits : List ℕ) (digit : ℕ)
    → number_after value (digits ++ digit ∷ []) ≡ number_after (number_after value digits) (digit ∷ [])
unfolding number_after
after-append (Some value) (first ∷ digits) digit = after-append (digit_behind value first) digits digit
after-append value digits digit = refl

one_digit : (value digit : ℕ) → digit < 10 → value * 10 + digit < 2 ^ 64
    → number_after (Some value) ((48 + digit) ∷ []) ≡ Some (value * 10 + digit)
unfolding number_after
one_digit value digit small fits = grind (arith, nat_tests)

decimal_after : (number : ℕ) → number < 2 ^ 64 → number < 2 ^ 64 → number_after (Some 0) (decimal number) ≡ Some number
decimal_after = decimal_by_steps (λ n ds. n < 2 ^ 64 → number_after (Some 0) ds ≡ Some n)
    (λ n small fits. one_digit 0 n small (omega (arith, fits)) ∙ ap (λ (v : ℕ). Some v) (omega arith))
    (λ n ds large front fits.
    let before = front (omega (arith, fits)) in
    let whole : n / 10 * 10 + n % 10 ≡ n = omega arith in
    after-append (Some 0) ds (48 + n % 10) ∙ ap (λ (o : Option ℕ). number_after o ((48 + n % 10) ∷ [])) before
    ∙ one_digit (n / 10) (n % 10) (omega arith) (omega (arith, whole, fits)) ∙ ap Some whole)

decimal_above : (number : ℕ) → number < 2 ^ 64 → all_above 32 (decimal number) ≡ true
decimal_above = decimal_by_steps (λ n ds. all_above 32 ds ≡ true)
    (λ n small. grind (arith, nat_tests))
    (λ n ds large front. above-append 32 ds ((48 + n % 10) ∷ []) front (grind (arith, nat_tests)))

-- A number of one digit is that digit.
pub decimal_one : (old all : List ℕ) (n : ℕ) → n < 10 → all ≡ old ++ (48 + n) ∷ [] → all ≡ old ++ decimal n
decimal_one old all n one is = rw (decimal_digit n one) is

-- The digits of a number of several are those of its tenth, and its last one.
pub decimal_last : (old mid all : List ℕ) (n : ℕ) → 10 ≤ n → n < 2 ^ 64 → mid ≡ old ++ decimal (n / 10)
    → all ≡ mid ++ (48 + n % 10) ∷ [] → all ≡ old ++ decimal n
decimal_last old mid all n several small is whole = let step = decimal_step n several small in grind (arith, append_assoc)

no_zero : (digits : List ℕ) → 0 < length digits → 48 < slice_index digits 0 → number_in digits ≡ number_after (Some 0) digits
unfolding number_in
no_zero digits some first = grind arith

number_back : (number : ℕ) → number < 2 ^ 64 → number_in (decimal number) ≡ Some number
unfolding number_in number_after
number_back zero fits = rw (decimal_digit 0 (omega arith)) refl
number_back (suc number) fits =
    no_zero (decimal (suc number)) (decimal_nonempty (suc number) fits) (first_decimal (suc number) (omega arith) fits)
    ∙ decimal_after (suc number) fits fits

ordinal_back : (number : ℕ) → 1 ≤ number → number < 256 → ordinal_in (decimal number) ≡ Some number
ordinal_back number some small =
    let read = number_back number (omega (arith, small)) in grind (arith, nat_tests)

offset_back : (number : ℕ) → number < 2 ^ 32 → offset_in (decimal number) ≡ Some number
offset_back number small =
    let read = number_back number (omega (arith, small)) in grind (arith, nat_tests)

-- ---- bytes

digits_above : (bytes : List ℕ) → IsBytes bytes → all_above 32 (digits_word bytes) ≡ true
digits_above [] bytes = refl
digits_above (byte ∷ rest) bytes = hexadecimal_above (byte ∷ rest) bytes

bytes_back : (bytes : List ℕ) → IsBytes bytes → bytes_in (digits_word bytes) ≡ Some bytes
unfolding bytes_in encode_with
bytes_back [] bytes = refl
bytes_back (byte ∷ rest) bytes = let back = decode_of-encode_lower (byte ∷ rest) bytes in grind arith

content_back : (bytes : List ℕ) → IsBytes bytes → length bytes ≤ 1048576 → content_in (digits_word bytes) ≡ Some bytes
content_back bytes are short = let read = bytes_back bytes are in grind (arith, nat_tests)

-- ---- other values

letters_back : (s : State) → state_in (state_word s) ≡ Some (state_of_wire (bits_of_state s))
unfolding of_word
letters_back s = grind arith

state_back : (state : LeaseState) → state.0 < 8 → state_in (state_word (state_of state)) ≡ Some state
state_back state small = letters_back (state_of state)
    ∙ ap (λ (bits : ℕ). Some (state_of_wire bits)) (bits_of_state-small state.0 (omega (arith, small)))

pub letters_above : (s : State) → all_above 32 (state_word s) ≡ true
letters_above s = grind arith

all_bytes : (bytes : List ℕ) → IsBytes bytes → All (λ b. b < 256) bytes
all_bytes bytes are k d inside = subst (λ b. b < 256) (get_or_default bytes k 0 d inside) (are k)

sized_back : (size : ℕ) (bytes : List ℕ) → length bytes ≡ size → IsBytes bytes → sized_in size (encode_lower bytes) ≡ Some bytes
sized_back size bytes long are = rw (decode_sized-encode_lower bytes size long are) refl

name_back : (status : Status) → status_in (status_word status) ≡ Some (known status)
unfolding status_in status_word of_word
name_back status = grind arith

name_above : (status : Status) → all_above 32 (status_word status) ≡ true
unfolding status_word
name_above status = grind arith

-- ---- any field of one word

pub word_back : (field : Field) (value : Value field) → HasWord field value → value_in field (word_for field value) ≡ Some value
unfolding of_word
word_back Field.Client client (some, small) = ap (λ (o : Option ℕ). option_map client_no o) (ordinal_back client.0 some small)
word_back Field.File file (some, small) = ap (λ (o : Option ℕ). option_map file_no o) (ordinal_back file.0 some small)
word_back Field.FileId fid fits = ap (λ (o : Option ℕ). option_map file_id o) (number_back fid.0 fits)
word_back Field.Number number fits = number_back number fits
word_back Field.Offset offset small = offset_back offset small
word_back Field.Bytes bytes are = bytes_back bytes are
word_back Field.Content bytes (are, fit) = content_back bytes are fit
word_back Field.State state small = state_back state small
word_back Field.Guid guid (long, bytes) = sym (parses_hyphenated lower guid (inl refl) long (all_bytes guid bytes))
word_back Field.Message message (long, bytes) = sized_back 36 message long bytes
word_back Field.Key key (long, bytes) =
    ap (λ (o : Option (List ℕ)). option_map lease_key o) (sized_back 16 key.0 long bytes)
word_back Field.Notification message (long, bytes) = sized_back 44 message long bytes
word_back Field.Status given named =
    subst (λ (g : GivenStatus). status_in (given_word g.other g.status) ≡ Some g) (sym named) (name_back given.status)
word_back other value has = grind arith

pub word_above : (field : Field) (value : Value field) → HasWord field value → all_above 32 (word_for field value) ≡ true
word_above Field.Client client (some, small) = decimal_above client.0 (omega (arith, small))
word_above Field.File file (some, small) = decimal_above file.0 (omega (arith, small))
word_above Field.FileId fid fits = decimal_above fid.0 fits
word_above Field.Number number fits = decimal_above number fits
word_above Field.Offset offset small = decimal_above offset (omega (arith, small))
word_above Field.Bytes bytes are = digits_above bytes are
word_above Field.Content bytes (are, fit) = digits_above bytes are
word_above Field.State state small = letters_above (state_of state)
word_above Field.Guid guid is = hyphenated_above guid
word_above Field.Message message (long, bytes) = hexadecimal_above message bytes
word_above Field.Key key (long, bytes) = hexadecimal_above key.0 bytes
word_above Field.Notification message (long, bytes) = hexadecimal_above message bytes
word_above Field.Status given named =
    subst (λ (g : GivenStatus). all_above 32 (given_word g.other g.status) ≡ true) (sym named) (name_above given.status)
word_above other value has = grind arith
