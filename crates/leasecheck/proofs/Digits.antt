-- How the digits of an argument are taken from its text.
use Rattle.lease_laws.proofs.Words.{◌++◌, ◌-◌, ◌<◌, ◌∙◌, ◌∷◌, ◌≡◌, ◌≤◌, List, Ok, ℕ, [], and_parts, ap, arith, drop, false}
use Rattle.lease_laws.proofs.Words.{length, list_all, refl, slice_index, subst, sym, take, take_all, true}
use Rattle.std.proofs.lemmas.List.Sums.{list_all-from_AllPass}
use Rattle.hex.specs.Hex.{decode_of, is_hex_digit}
use Rattle.hex.proofs.HexLemmas.{decode_of-ok}
use Rattle.leasecheck.specs.Arguments.{is_separator, digits_in, without_prefix, argument_bytes}

-- a byte and another one, with and without a separator between them
separated : (a b c d : ℕ) (rest : List ℕ) → is_separator c ≡ true
    → digits_in (a ∷ b ∷ c ∷ d ∷ rest) ≡ a ∷ b ∷ digits_in (d ∷ rest)
unfolding digits_in
separated a b c d rest is = rw is refl

joined : (a b c d : ℕ) (rest : List ℕ) → is_separator c ≡ false
    → digits_in (a ∷ b ∷ c ∷ d ∷ rest) ≡ a ∷ b ∷ digits_in (c ∷ d ∷ rest)
unfolding digits_in
joined a b c d rest is = rw is refl

pub split_separated : (text front behind : List ℕ) (n : ℕ) → 3 < length text → front ≡ take 2 text → behind ≡ drop 2 text
    → n ≡ length behind - 1 → is_separator (slice_index behind 0) ≡ true
    → digits_in text ≡ front ++ digits_in (take n (drop 1 behind))
split_separated [] front behind n more fore aft all is = absurd (omega arith)
split_separated (a ∷ []) front behind n more fore aft all is = absurd (omega arith)
split_separated (a ∷ b ∷ []) front behind n more fore aft all is = absurd (omega arith)
split_separated (a ∷ b ∷ c ∷ []) front behind n more fore aft all is = absurd (omega arith)
split_separated (a ∷ b ∷ c ∷ d ∷ rest) front behind n more fore aft all is =
    let count : n ≡ length (c ∷ d ∷ rest) - 1 = subst (λ t. n ≡ length t - 1) aft all in
    let whole : take n (d ∷ rest) ≡ d ∷ rest = take_all n (d ∷ rest) (omega (arith, count)) in
    rw (fore, aft) (separated a b c d rest (subst (λ t. is_separator (slice_index t 0) ≡ true) aft is)
    ∙ ap (λ t. a ∷ b ∷ digits_in t) (sym whole))

pub split_joined : (text front behind : List ℕ) → 3 < length text → front ≡ take 2 text → behind ≡ drop 2 text
    → is_separator (slice_index behind 0) ≡ false → digits_in text ≡ front ++ digits_in behind
split_joined [] front behind more fore aft is = absurd (omega arith)
split_joined (a ∷ []) front behind more fore aft is = absurd (omega arith)
split_joined (a ∷ b ∷ []) front behind more fore aft is = absurd (omega arith)
split_joined (a ∷ b ∷ c ∷ []) front behind more fore aft is = absurd (omega arith)
split_joined (a ∷ b ∷ c ∷ d ∷ rest) front behind more fore aft is =
    rw (fore, aft) (joined a b c d rest (subst (λ t. is_separator (slice_index t 0) ≡ false) aft is))

-- what is too short to have two bytes and a separator
last : (text : List ℕ) → length text ≤ 3 → digits_in text ≡ text
unfolding digits_in
last [] few = refl
last (a ∷ []) few = refl
last (a ∷ b ∷ []) few = refl
last (a ∷ b ∷ c ∷ []) few = refl
last (a ∷ b ∷ c ∷ d ∷ rest) few = absurd (omega arith)

-- where so little is left all digits were taken with it
pub digits_end : (digits rest all : List ℕ) → length rest ≤ 3 → digits ++ digits_in rest ≡ all → digits ++ rest ≡ all
digits_end digits rest all few whole = ap (λ t. digits ++ t) (sym (last rest few)) ∙ whole

-- digits alone have nothing before or between them
no_separator : (c : ℕ) → is_hex_digit c ≡ true → is_separator c ≡ false
no_separator c digit = grind arith

no_prefix : (a b : ℕ) (rest : List ℕ) → is_hex_digit b ≡ true → without_prefix (a ∷ b ∷ rest) ≡ a ∷ b ∷ rest
no_prefix a b rest digit = grind arith

one_digit : (a : ℕ) → without_prefix (a ∷ []) ≡ a ∷ []
one_digit a = grind arith

without_more : (text : List ℕ) → list_all is_hex_digit text ≡ true → without_prefix text ≡ text
without_more [] all = refl
without_more (a ∷ []) all = one_digit a
without_more (a ∷ b ∷ rest) all = no_prefix a b rest (and_parts _ _ (and_parts _ _ all).1).0

plain_digits : (text : List ℕ) → list_all is_hex_digit text ≡ true → digits_in text ≡ text
plain_digits [] all = last [] (omega arith)
plain_digits (a ∷ []) all = last (a ∷ []) (omega arith)
plain_digits (a ∷ b ∷ []) all = last (a ∷ b ∷ []) (omega arith)
plain_digits (a ∷ b ∷ c ∷ []) all = last (a ∷ b ∷ c ∷ []) (omega arith)
plain_digits (a ∷ b ∷ c ∷ d ∷ rest) all =
    let behind = (and_parts _ _ (and_parts _ _ all).1).1 in
    joined a b c d rest (no_separator c (and_parts _ _ behind).0) ∙ ap (λ t. a ∷ b ∷ t) (plain_digits (c ∷ d ∷ rest) behind)

pub plain_argument : (text bytes : List ℕ) → decode_of text ≡ Ok bytes → argument_bytes text ≡ Ok bytes
unfolding argument_bytes
plain_argument text bytes plain =
    let all = list_all-from_AllPass is_hex_digit text (decode_of-ok text bytes plain).1 in
    rw (without_more text all, plain_digits text all) plain
