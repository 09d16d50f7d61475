-- How the text of a name begins.
use Rattle.std.proofs.Common.{◌≡◌, ◌++◌, ◌<◌, ◌≤◌, ◌-◌, ◌∷◌, ◌∙◌, [], ℕ, Bool, List, true, false, length, take, drop, slice_index_or}
use Rattle.std.proofs.Common.{refl, ap, sym, subst, arith, append-nil}
use Rattle.std.proofs.lemmas.List.{take_all}
use Rattle.capture_texts.specs.Texts.{are_pair, letter_text, name_text, pair_of, unit}

paired : (low high next last : ℕ) (behind : List ℕ) → are_pair (unit low high) (unit next last) ≡ true
    → name_text (low ∷ high ∷ next ∷ last ∷ behind) ≡ letter_text (pair_of (unit low high) (unit next last)) ++ name_text behind
unfolding name_text
paired low high next last behind is = rw is refl

alone : (low high next last : ℕ) (behind : List ℕ) → are_pair (unit low high) (unit next last) ≡ false
    → name_text (low ∷ high ∷ next ∷ last ∷ behind) ≡ letter_text (unit low high) ++ name_text (next ∷ last ∷ behind)
unfolding name_text
alone low high next last behind is = rw is refl

second_tried : (low high next last letter : ℕ) (behind rest : List ℕ) (is : Bool) → are_pair (unit low high) (unit next last) ≡ is
    → (are_pair (unit low high) (unit next last) ≡ true → (letter ≡ pair_of (unit low high) (unit next last)) × (rest ≡ behind))
    → (are_pair (unit low high) (unit next last) ≡ false → (letter ≡ unit low high) × (rest ≡ next ∷ last ∷ behind))
    → name_text (low ∷ high ∷ next ∷ last ∷ behind) ≡ letter_text letter ++ name_text rest
second_tried low high next last letter behind rest true is pair one =
    paired low high next last behind is ∙ (ap (λ l. letter_text l ++ name_text behind) (sym (pair is).0)
    ∙ ap (λ t. letter_text letter ++ name_text t) (sym (pair is).1))
second_tried low high next last letter behind rest false is pair one =
    alone low high next last behind is ∙ (ap (λ l. letter_text l ++ name_text (next ∷ last ∷ behind)) (sym (one is).0)
    ∙ ap (λ t. letter_text letter ++ name_text t) (sym (one is).1))

-- Whether a second unit belongs to the first one or not.
pub with_second : (low high first second letter : ℕ) (behind rest : List ℕ) → 2 ≤ length behind → first ≡ unit low high
    → second ≡ unit (slice_index_or behind 0 0) (slice_index_or behind 1 0)
    → (are_pair first second ≡ true → (letter ≡ pair_of first second) × (rest ≡ take (length behind - 2) (drop 2 behind)))
    → (are_pair first second ≡ false → (letter ≡ first) × (rest ≡ behind))
    → name_text (low ∷ high ∷ behind) ≡ letter_text letter ++ name_text rest
with_second low high first second letter [] rest long is-first is-second pair one = absurd (omega (arith, long))
with_second low high first second letter (next ∷ []) rest long is-first is-second pair one = absurd (omega (arith, long))
with_second low high first second letter (next ∷ last ∷ behind) rest long is-first is-second pair one =
    let whole : take (length (next ∷ last ∷ behind) - 2) behind ≡ behind
    = take_all (length (next ∷ last ∷ behind) - 2) behind (omega arith) in
    let paired-here : are_pair (unit low high) (unit next last) ≡ true
    → (letter ≡ pair_of (unit low high) (unit next last)) × (rest ≡ behind)
    = subst (λ r. are_pair (unit low high) (unit next last) ≡ true
    → (letter ≡ pair_of (unit low high) (unit next last)) × (rest ≡ r)) whole
    (subst (λ s. are_pair (unit low high) s ≡ true → (letter ≡ pair_of (unit low high) s)
    × (rest ≡ take (length (next ∷ last ∷ behind) - 2) behind)) is-second
    (subst (λ f. are_pair f second ≡ true → (letter ≡ pair_of f second)
    × (rest ≡ take (length (next ∷ last ∷ behind) - 2) behind)) is-first pair)) in
    let alone-here : are_pair (unit low high) (unit next last) ≡ false → (letter ≡ unit low high) × (rest ≡ next ∷ last ∷ behind)
    = subst (λ s. are_pair (unit low high) s ≡ false → (letter ≡ unit low high) × (rest ≡ next ∷ last ∷ behind)) is-second
    (subst (λ f. are_pair f second ≡ false → (letter ≡ f) × (rest ≡ next ∷ last ∷ behind)) is-first one) in
    second_tried low high next last letter behind rest (are_pair (unit low high) (unit next last)) refl paired-here alone-here

-- A name that is read to its end, or to half a unit.
pub nothing_left : (text rest all : List ℕ) → length rest < 1 → text ++ name_text rest ≡ all → text ≡ all
unfolding name_text
nothing_left text [] all few whole = sym (append-nil text) ∙ whole
nothing_left text (byte ∷ rest) all few whole = absurd (omega (arith, few))

pub unit_last : (low high first : ℕ) (behind : List ℕ) → length behind < 2 → first ≡ unit low high
    → name_text (low ∷ high ∷ behind) ≡ letter_text first ++ name_text behind
unfolding name_text
unit_last low high first [] few is-first = ap (λ l. letter_text l) (sym is-first) ∙ sym (append-nil (letter_text first))
unit_last low high first (one ∷ []) few is-first = ap (λ l. letter_text l ++ name_text (one ∷ [])) (sym is-first)
unit_last low high first (one ∷ other ∷ rest) few is-first = absurd (omega (arith, few))
