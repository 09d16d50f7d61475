-- Texts of whole lines, and the lines of what is put after them.
use Rattle.lease_laws.proofs.Words.{◌++◌, ◌+◌, ◌<◌, ◌==◌, ◌∷◌, ◌≡◌, ◌≢◌, ◌≤◌, List, ℕ, [], add-one, ap, append_assoc, arith}
use Rattle.lease_laws.proofs.Words.{false, if◌then◌else◌, inl, inr, length, refl, slice_index, subst, suc, sym, take, true, zero}
use Rattle.lease_texts.specs.Pieces.{pieces, longer, lines_of}
use Rattle.leasecheck.specs.Judging.{EndsLine}

if_cases : {X : Type 0} (P : X → Type 0) (b : _) (x y : X) → (b ≡ true → P x) → (b ≡ false → P y) → P (if b then x else y)
if_cases P true x y then_case else_case = then_case refl
if_cases P false x y then_case else_case = else_case refl

longer_some : (byte : ℕ) (rest : List (List ℕ)) → longer byte rest ≢ []
unfolding longer
longer_some byte [] = λ same. cc
longer_some byte (piece ∷ rest) = λ same. cc

-- a text that isn't empty has a line
lines_some : (byte : ℕ) (text : List ℕ) → pieces 10 [] (byte ∷ text) ≢ []
unfolding pieces
lines_some byte text = if_cases (λ all. all ≢ []) (byte == 10) ([] ∷ pieces 10 [] text) (longer byte (pieces 10 [] text))
    (λ _. λ same. cc) (λ _. longer_some byte (pieces 10 [] text))

longer_append : (byte : ℕ) (some more : List (List ℕ)) → some ≢ [] → longer byte (some ++ more) ≡ longer byte some ++ more
unfolding longer
longer_append byte [] more is = absurd (is refl)
longer_append byte (piece ∷ some) more is = refl

front_some : (front : List ℕ) → pieces 10 [] (front ++ 10 ∷ []) ≢ []
front_some [] = lines_some 10 []
front_some (byte ∷ front) = lines_some byte (front ++ 10 ∷ [])

behind_front : (front text : List ℕ)
    → pieces 10 [] ((front ++ 10 ∷ []) ++ text) ≡ pieces 10 [] (front ++ 10 ∷ []) ++ pieces 10 [] text
unfolding pieces
behind_front [] text = refl
behind_front (byte ∷ front) text =
    let rest = behind_front front text in
    if_cases (λ all. all ≡ (if byte == 10 then [] ∷ pieces 10 [] (front ++ 10 ∷ [])
    else longer byte (pieces 10 [] (front ++ 10 ∷ []))) ++ pieces 10 [] text)
    (byte == 10) ([] ∷ pieces 10 [] ((front ++ 10 ∷ []) ++ text)) (longer byte (pieces 10 [] ((front ++ 10 ∷ []) ++ text)))
    (λ same. rw (same, rest) refl)
    (λ other. rw (other, rest) (longer_append byte (pieces 10 [] (front ++ 10 ∷ [])) (pieces 10 [] text) (front_some front)))

-- The lines of whole lines and what follows them are their lines, and those of what follows.
pub lines_behind : (text more : List ℕ) → EndsLine text → lines_of (text ++ more) ≡ lines_of text ++ lines_of more
unfolding pieces
lines_behind text more (inl none) = rw none refl
lines_behind text more (inr (front, is)) = rw is (behind_front front more)

-- whole lines behind whole lines are whole lines
pub ends_behind : (text front : List ℕ) → EndsLine (text ++ (front ++ 10 ∷ []))
ends_behind text front = inr (text ++ front, sym (append_assoc text front (10 ∷ [])))

-- There are no more lines than bytes.
longer_counts : (byte : ℕ) (rest : List (List ℕ)) → length (longer byte rest) ≤ suc (length rest)
unfolding longer
longer_counts byte [] = omega arith
longer_counts byte (piece ∷ rest) = omega arith

pub lines_count : (text : List ℕ) → length (lines_of text) ≤ length text
unfolding pieces
lines_count [] = omega arith
lines_count (byte ∷ text) =
    let rest = lines_count text in
    if_cases (λ all. length all ≤ suc (length text)) (byte == 10) ([] ∷ pieces 10 [] text) (longer byte (pieces 10 [] text))
    (λ _. omega (arith, rest)) (λ _. omega (arith, rest, longer_counts byte (pieces 10 [] text)))

-- A text up to and with a line feed is whole lines.
pub cut_at : (text : List ℕ) (place : ℕ) → place < length text → slice_index text place ≡ 10
    → (front : List ℕ) × (take (suc place) text ≡ front ++ 10 ∷ [])
cut_at [] place inside is = absurd (omega (arith, inside))
cut_at (byte ∷ text) zero inside is = ([], ap (λ b. b ∷ []) is)
cut_at (byte ∷ text) (suc place) inside is =
    let rest = cut_at text place (omega (arith, inside)) is in
    (byte ∷ rest.0, ap (λ t. byte ∷ t) rest.1)

pub ends_with_take : (text block : List ℕ) (place : ℕ) → place < length block → slice_index block place ≡ 10
    → EndsLine (text ++ take (place + 1) block)
ends_with_take text block place inside is =
    let cut = cut_at block place inside is in
    let same : take (place + 1) block ≡ cut.0 ++ 10 ∷ [] = rw (add-one place) cut.1 in
    subst (λ t. EndsLine (text ++ t)) (sym same) (ends_behind text cut.0)
