-- Words of bytes above a separator, and the pieces that they are.
use Rattle.std.proofs.Common.{◌++◌, ◌+◌, ◌-◌, ◌/◌, ◌%◌, ◌<◌, ◌∷◌, ◌≡◌, Bool, List, ℕ, [], arith, if◌then◌else◌, nat_lt, refl}
use Rattle.std.proofs.Common.{slice_index, suc, true, zero}
use Rattle.std.proofs.lemmas.Bool.Decides.{nat_tests}
use Rattle.hex.specs.Hex.{IsBytes, encode_with, encode_lower, lower_digits}
use Rattle.uuid.specs.Text.{by_index, hyphenated_text, lower}
use Rattle.lease_texts.specs.Pieces.{all_above, pieces, longer}

pub above-append : (low : ℕ) (one two : List ℕ) → all_above low one ≡ true → all_above low two ≡ true
    → all_above low (one ++ two) ≡ true
above-append low [] two first second = second
above-append low (byte ∷ one) two first second =
    let rest = above-append low one two (grind (arith, first)) second in grind (arith, first)

-- words are parts of lines
pub above-line : (word : List ℕ) → all_above 32 word ≡ true → all_above 10 word ≡ true
above-line [] above = refl
above-line (byte ∷ word) above =
    let rest = above-line word (grind (arith, above)) in grind (arith, nat_tests, above)

-- what stands before a separator is the first piece
pub piece_first : (separator : ℕ) (last : List (List ℕ)) (word rest : List ℕ) → all_above separator word ≡ true
    → pieces separator last (word ++ separator ∷ rest) ≡ word ∷ pieces separator last rest
unfolding pieces longer
piece_first separator last [] rest above = grind (arith, nat_tests)
piece_first separator last (byte ∷ word) rest above =
    let later = piece_first separator last word rest (grind (arith, above)) in grind (arith, nat_tests, above)

-- what has no separator is the last
pub piece_last : (separator : ℕ) (word : List ℕ) → all_above separator word ≡ true → pieces separator ([] ∷ []) word ≡ word ∷ []
unfolding pieces longer
piece_last separator [] above = refl
piece_last separator (byte ∷ word) above =
    let later = piece_last separator word (grind (arith, above)) in grind (arith, nat_tests, above)

-- ---- digits

digit_above : (digit : ℕ) → digit < 16 → nat_lt 32 (slice_index lower_digits digit) ≡ true
digit_above digit small = grind arith

pub hexadecimal_above : (bytes : List ℕ) → IsBytes bytes → all_above 32 (encode_lower bytes) ≡ true
unfolding encode_with
hexadecimal_above [] bytes = refl
hexadecimal_above (byte ∷ rest) bytes =
    let small = bytes 0 in
    let high = digit_above (byte / 16) (omega (arith, small)) in
    let low = digit_above (byte % 16) (omega arith) in
    rw (high, low) (hexadecimal_above rest (λ i. bytes (suc i)))

-- ---- identifiers between hyphens

by_index_above : (count : ℕ) (byte : ℕ → ℕ) → ((k : ℕ) → nat_lt 32 (byte k) ≡ true) → all_above 32 (by_index count byte) ≡ true
unfolding by_index
by_index_above zero byte above = refl
by_index_above (suc count) byte above =
    let last : all_above 32 (byte count ∷ []) ≡ true = rw (above count) refl in
    above-append 32 (by_index count byte) (byte count ∷ []) (by_index_above count byte above) last

pub hyphenated_above : (guid : List ℕ) → all_above 32 (hyphenated_text lower guid) ≡ true
hyphenated_above guid = by_index_above 36 _ (λ k. grind arith)
  where
    digit : (small : Bool) (d : ℕ) → nat_lt d 10 ≡ small → nat_lt 32 (if small then 48 + d else 97 + d - 10) ≡ true
    digit small d e = grind arith
