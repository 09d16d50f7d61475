-- No word that is written for a value has a line feed in it, so that what is written by a table is one line.
use Rattle.std.proofs.Common.{◌/◌, ◌%◌}
use Rattle.lease_laws.proofs.Words.{◌++◌, ◌+◌, ◌==◌, ◌∷◌, ◌≡◌, List, None, Option, Some, ℕ, [], arith, decimal, false}
use Rattle.lease_laws.proofs.Words.{map, nat_lt, nat_tests, not, refl, slice_index, suc, true, zero}
use Rattle.lease_laws.proofs.server.Lists.{and_both, if_cases}
use Rattle.std.specs.Fmt.{digit_glyph, digits, digits_onto}
use Rattle.hex.specs.Hex.{encode_lower, encode_with, lower_digits}
use Rattle.lease_state.specs.{State.State, State.state_of, declared.status.Status.Status, declared.reply.Reply.Reply}
use Rattle.lease_texts.specs.{Kinds.Spoken, Kinds.Value, Kinds.word_for, Kinds.Words, Pieces.all_above, Requests.spaced}
use Rattle.lease_texts.specs.{Replies.reply_said, Requests.plain_words, Statuses.given_word, Statuses.status_word}
use Rattle.lease_texts.specs.{Words.digits_word, Words.state_word, declared.kinds.Field.Field, Tables.Each}
use Rattle.lease_texts.proofs.Bytes.{hyphenated_above}
use Rattle.text_laws.specs.Remarked.{is_one_line}

pub one_line-append : (first second : List ℕ) → is_one_line first ≡ true → is_one_line second ≡ true
    → is_one_line (first ++ second) ≡ true
one_line-append [] second one also = also
one_line-append (byte ∷ first) second one also =
    let rest = one_line-append first second (grind (arith, one)) also in grind (arith, one)

-- what is above a space is no line feed
above_one : (word : List ℕ) → all_above 32 word ≡ true → is_one_line word ≡ true
above_one [] above = refl
above_one (byte ∷ word) above = let rest = above_one word (grind (arith, above)) in grind (arith, nat_tests, above)

-- ---- digits

glyph_one : (d : ℕ) → not (digit_glyph false d == 10) ≡ true
glyph_one d = if_cases (λ (c : ℕ). not (c == 10) ≡ true) (nat_lt d 10) (48 + d) (87 + d) (λ e. grind (arith, nat_tests))
    (λ e. grind (arith, nat_tests))

digits_one : (count number : ℕ) (behind : List ℕ) → is_one_line behind ≡ true
    → is_one_line (digits_onto count 10 false number behind) ≡ true
digits_one zero number behind one = one
digits_one (suc count) number behind one =
    let more : is_one_line (digit_glyph false (number % 10) ∷ behind) ≡ true =
    and_both (not (digit_glyph false (number % 10) == 10)) (is_one_line behind) (glyph_one (number % 10)) one in
    if_cases (λ (t : List ℕ). is_one_line t ≡ true) (number / 10 == 0) (digit_glyph false (number % 10) ∷ behind)
    (digits_onto count 10 false (number / 10) (digit_glyph false (number % 10) ∷ behind)) (λ e. more)
    (λ e. digits_one count (number / 10) (digit_glyph false (number % 10) ∷ behind) more)

pub decimal_one_line : (number : ℕ) → is_one_line (decimal number) ≡ true
unfolding digits
decimal_one_line number = digits_one 64 number [] refl

byte_one : (text : List ℕ) (place : ℕ) → is_one_line text ≡ true → not (slice_index text place == 10) ≡ true
byte_one [] place one = refl
byte_one (byte ∷ text) zero one = grind (arith, one)
byte_one (byte ∷ text) (suc place) one = byte_one text place (grind (arith, one))

hexadecimal_one : (bytes : List ℕ) → is_one_line (encode_lower bytes) ≡ true
unfolding encode_with
hexadecimal_one [] = refl
hexadecimal_one (byte ∷ rest) =
    let high = byte_one lower_digits (byte / 16) refl in
    let low = byte_one lower_digits (byte % 16) refl in
    and_both _ _ high (and_both _ _ low (hexadecimal_one rest))

-- ---- words

letters_one : (s : State) → is_one_line (state_word s) ≡ true
letters_one s = grind arith

status_one : (status : Status) → is_one_line (status_word status) ≡ true
unfolding status_word
status_one status = grind arith

bytes_one : (bytes : List ℕ) → is_one_line (digits_word bytes) ≡ true
bytes_one [] = refl
bytes_one (byte ∷ bytes) = hexadecimal_one (byte ∷ bytes)

given_one : (other : Option ℕ) (status : Status) → is_one_line (given_word other status) ≡ true
given_one None status = status_one status
given_one (Some number) status = hexadecimal_one _

pub word_one_line : (field : Field) (value : Value field) → is_one_line (word_for field value) ≡ true
word_one_line Field.Client client = decimal_one_line client.0
word_one_line Field.File file = decimal_one_line file.0
word_one_line Field.FileId fid = decimal_one_line fid.0
word_one_line Field.Number number = decimal_one_line number
word_one_line Field.Offset offset = decimal_one_line offset
word_one_line Field.Bytes bytes = bytes_one bytes
word_one_line Field.Content bytes = bytes_one bytes
word_one_line Field.State state = letters_one (state_of state)
word_one_line Field.Guid guid = above_one (word_for Field.Guid guid) (hyphenated_above guid)
word_one_line Field.Message message = hexadecimal_one message
word_one_line Field.Key key = hexadecimal_one key.0
word_one_line Field.Notification message = hexadecimal_one message
word_one_line Field.Status given = given_one given.other given.status
word_one_line other value = grind arith

-- ---- lines

pub spaced_one_line : (words : Words) → Each (λ word. is_one_line word ≡ true) words → is_one_line (spaced words) ≡ true
spaced_one_line [] each = refl
spaced_one_line (word ∷ words) (one, each) = one_line-append word (spaced words) one (spaced_one_line words each)

plain_one : (spoken : List Spoken)
    → Each (λ word. is_one_line word ≡ true) (map (λ (one : Spoken). word_for one.field one.value) spoken)
plain_one [] = tt
plain_one (one ∷ others) = (word_one_line one.field one.value, plain_one others)

reply_name_one : (told : Reply) → is_one_line (reply_said told).name ≡ true
reply_name_one told = grind arith

-- the words of a message
pub reply_one_line : (told : Reply) → Each (λ word. is_one_line word ≡ true) (plain_words (reply_said told))
reply_one_line told = (reply_name_one told, plain_one (reply_said told).spoken)
