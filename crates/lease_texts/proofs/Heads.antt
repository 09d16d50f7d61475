-- The first field of a line, where it stands.
use Rattle.std.proofs.Common.{append-nil, ◌++◌, ◌-◌, ◌<◌, ◌==◌, ◌∙◌, ◌∷◌, ◌≡◌, ◌≢◌, ◌≤◌, List, None, Some, ℕ, [], ap, arith}
use Rattle.std.proofs.Common.{bytes_eq, drop, false, length, refl, slice_index_or, sym, take, true, option_map, true≢false}
use Rattle.std.proofs.lemmas.{Bool.Decides.nat_tests, List.length-take, List.take_all, Slice.Eq.bytes_eq-Decides}
use Rattle.lease_state.specs.{State.state_of, declared.state.LeaseState.LeaseState}
use Rattle.lease_texts.specs.Fields.{number_after, number_in, ordinal_in, state_in}
use Rattle.lease_texts.specs.Kinds.{Words, begins, one, with_rest}
use Rattle.lease_texts.specs.{Words.of_word, Words.state_word, Pieces.all_above, Pieces.longer, Pieces.pieces}
use Rattle.lease_texts.proofs.{Bytes.piece_first, Bytes.piece_last, Cut.pieces_some, Values.letters_above}

abbrev fields : List ℕ → Words
fields line = pieces 32 ([] ∷ []) line

-- A line begins with its first field.
begins_with : (line word : List ℕ) (words : Words) → fields line ≡ word ∷ words → take (length word) line ≡ word
unfolding pieces longer
begins_with [] word words are = grind arith
begins_with (byte ∷ line) [] words are = refl
begins_with (byte ∷ line) (first ∷ word) words are =
    let some = pieces_some 32 line in
    let again = begins_with line word words in grind arith

-- Where another byte than a space follows a word, the first field is longer.
goes_on : (word rest : List ℕ) (byte : ℕ) → all_above 32 word ≡ true → (byte == 32) ≡ false → (words : Words)
    → fields (word ++ byte ∷ rest) ≡ word ∷ words → ⊥
unfolding pieces longer
goes_on [] rest byte above other words e = grind arith
goes_on (first ∷ word) rest byte above other words e =
    let some = pieces_some 32 (word ++ byte ∷ rest) in
    let again = goes_on word rest byte (grind (arith, above)) other words in grind (arith, nat_tests)

-- ---- whether a word is the first field

not_begun : (word : List ℕ) (all : Words) → ((words : Words) → all ≡ word ∷ words → ⊥) → begins word all ≡ false
not_begun word [] never = refl
not_begun word (first ∷ words) never =
    let same = bytes_eq-Decides first word in
    let other = never words in grind arith

pub too_short : (word line : List ℕ) → length line < length word → begins word (pieces 32 ([] ∷ []) line) ≡ false
too_short word line short = not_begun word (fields line)
    (λ words e.
    let long = length-take (length word) line in
    let same = ap (λ (l : List ℕ). length l) (begins_with line word words e) in omega (arith, short, long, same))

pub other_head : (word line head : List ℕ) → head ≡ take (length word) line → bytes_eq head word ≡ false
    → begins word (pieces 32 ([] ∷ []) line) ≡ false
other_head word line head is differs = not_begun word (fields line)
    (λ words e.
    true≢false (sym ((bytes_eq-Decides head word).1 (is ∙ begins_with line word words e)) ∙ differs))

same_line : (word line head tail : List ℕ) → line ≡ head ++ tail → bytes_eq head word ≡ true → line ≡ word ++ tail
same_line word line head tail is same = is ∙ ap (λ (h : List ℕ). h ++ tail) ((bytes_eq-Decides head word).0 same)

pub whole_line : (word line head tail : List ℕ) → all_above 32 word ≡ true → line ≡ head ++ tail
    → bytes_eq head word ≡ true → length tail < 1 → pieces 32 ([] ∷ []) line ≡ word ∷ []
whole_line word line head [] above is same none =
    ap fields (same_line word line head [] is same ∙ append-nil word) ∙ piece_last 32 word above
whole_line word line head (byte ∷ tail) above is same none = absurd (omega (arith, none))

pub word_first : (word line head tail : List ℕ) → all_above 32 word ≡ true → line ≡ head ++ tail
    → bytes_eq head word ≡ true → 1 ≤ length tail → slice_index_or tail 0 0 ≡ 32
    → pieces 32 ([] ∷ []) line ≡ word ∷ pieces 32 ([] ∷ []) (take (length tail - 1) (drop 1 tail))
word_first word line head [] above is same some space = absurd (omega (arith, some))
word_first word line head (byte ∷ tail) above is same some space =
    let rest : take (length (byte ∷ tail) - 1) (drop 1 (byte ∷ tail)) ≡ tail = take_all _ tail (omega arith) in
    ap fields (same_line word line head (byte ∷ tail) is same) ∙ ap (λ (b : ℕ). fields (word ++ b ∷ tail)) space
    ∙ piece_first 32 ([] ∷ []) word tail above ∙ ap (λ (t : List ℕ). word ∷ fields t) (sym rest)

pub longer_word : (word line head tail : List ℕ) → all_above 32 word ≡ true → line ≡ head ++ tail
    → bytes_eq head word ≡ true → 1 ≤ length tail → slice_index_or tail 0 0 ≢ 32
    → begins word (pieces 32 ([] ∷ []) line) ≡ false
longer_word word line head [] above is same some space = absurd (omega (arith, some))
longer_word word line head (byte ∷ tail) above is same some space =
    let other : (byte == 32) ≡ false = grind (arith, nat_tests, space) in not_begun word (fields line)
    (λ words e.
    goes_on word tail byte above other words (ap fields (sym (same_line word line head (byte ∷ tail) is same)) ∙ e))

-- whether the first field is a word, by how the line begins
pub ruleset first_word = (too_short, other_head, whole_line, word_first, longer_word)

-- ---- ordinals of one digit

no_space : (digit : ℕ) → (digit == 32) ≡ true → ordinal_in (digit ∷ []) ≡ None
unfolding number_in number_after
no_space digit is = grind (arith, nat_tests, is)

pub digit_alone : (line : List ℕ) → 1 ≤ length line → length line < 2
    → one ordinal_in (pieces 32 ([] ∷ []) line) ≡ with_rest (ordinal_in (slice_index_or line 0 0 ∷ [])) []
unfolding pieces longer number_in
digit_alone [] some few = absurd (omega (arith, some))
digit_alone (digit ∷ other ∷ rest) some few = absurd (omega (arith, few))
digit_alone (digit ∷ []) some few = let none = no_space digit in grind (arith, nat_tests)

pub digit_first : (line : List ℕ) → 2 ≤ length line → slice_index_or line 1 0 ≡ 32
    → one ordinal_in (pieces 32 ([] ∷ []) line)
    ≡ with_rest (ordinal_in (slice_index_or line 0 0 ∷ [])) (pieces 32 ([] ∷ []) (take (length line - 2) (drop 2 line)))
unfolding pieces longer number_in
digit_first [] some space = absurd (omega (arith, some))
digit_first (digit ∷ []) some space = absurd (omega (arith, some))
digit_first (digit ∷ next ∷ rest) some space =
    let whole : take (length (digit ∷ next ∷ rest) - 2) (drop 2 (digit ∷ next ∷ rest)) ≡ rest = take_all _ rest (omega arith) in
    let here : (next == 32) ≡ true = grind (arith, nat_tests, space) in
    let none = no_space digit in rw (here, whole) (grind (arith, nat_tests))

-- ---- an ordinal is that of a client or of a file

pub ordinal_taken : {A : Type 0} (wrap : ℕ → A) (words rest : Words) (number : ℕ) → one ordinal_in words ≡ Some (number, rest)
    → one (λ word. option_map wrap (ordinal_in word)) words ≡ Some (wrap number, rest)
ordinal_taken wrap words rest number e = grind (arith, e)

pub no_ordinal : {A : Type 0} (wrap : ℕ → A) (words : Words) → one ordinal_in words ≡ None
    → one (λ word. option_map wrap (ordinal_in word)) words ≡ None
no_ordinal wrap words e = grind (arith, e)

-- ---- a state at the end of a line

word_of_one : {X : Type 0} (word_of : X → List ℕ) (xs : List X) (word : List ℕ) (x : X) → of_word word_of xs word ≡ Some x
    → word ≡ word_of x
unfolding of_word
word_of_one word_of [] word x e = cc
word_of_one word_of (y ∷ ys) word x e =
    let same = bytes_eq-Decides word (word_of y) in
    let later = word_of_one word_of ys word x in grind arith

pub last_state : (word : List ℕ) (state : LeaseState) → state_in word ≡ Some state → pieces 32 ([] ∷ []) word ≡ word ∷ []
last_state word state e = piece_last 32 word
    (ap (all_above 32) (word_of_one (λ s. state_word (state_of s)) _ word state e) ∙ letters_above (state_of state))
