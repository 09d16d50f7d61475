-- Lines of a text, and tokens of JSON that are written one after another.
use Rattle.std.proofs.Common.{◌≡◌, ◌≢◌, ◌<◌, ℕ, List, [], ◌∷◌, ◌++◌, length, refl, ap, ◌∙◌, arith, lit<, suc}
use Rattle.std.proofs.Common.{Bor, get_or, Option, Some, None}
use Rattle.std.proofs.lemmas.Bool.Decides.{nat_tests}
use Rattle.std.proofs.lemmas.List.{append_assoc}
use Rattle.std.proofs.lemmas.Str.Pattern.{IsSplitOnceResult, split_parts}
use Rattle.std.specs.Prelude.{◌==◌, true, MatchOption, map}
use Rattle.json.specs.Token.{Token, string}
use Rattle.lease_texts.specs.Pieces.{lines_of, longer, pieces}
use Rattle.lease_texts.proofs.Cut.{lines_whole}

-- a line feed behind bytes of which none is one
line_cut : (line rest : List ℕ) → ((i : ℕ) → i < length line → get_or line i 0 ≢ 10)
    → lines_of (line ++ (10 ∷ rest)) ≡ line ∷ lines_of rest
unfolding pieces longer
line_cut [] rest none = refl
line_cut (byte ∷ line) rest none =
    let first = none 0 (omega arith) in
    let others = line_cut line rest (λ i below. none (suc i) (omega (arith, below))) in grind (arith, nat_tests)

longer_whole : (line rest : List ℕ) → length rest < length (line ++ (10 ∷ rest))
longer_whole [] rest = omega arith
longer_whole (byte ∷ line) rest = let more = longer_whole line rest in omega (arith, more)

pub line_split : (text : List ℕ) (found : Option (Bor (List ℕ) × Bor (List ℕ))) → text ≢ [] → IsSplitOnceResult 10 text found
    → MatchOption found (lines_of text ≡ text ∷ [])
    (λ parts. (lines_of text ≡ parts.0.now ∷ lines_of parts.1.now) × (length parts.1.now < length text))
line_split text None some is = lines_whole text some (split_parts 10 text None is (lit< tt))
line_split text (Some parts) some is =
    let cut = split_parts 10 text (Some parts) is (lit< tt) in (
      ap lines_of cut.0 ∙ line_cut parts.0.now parts.1.now cut.1,
      rw cut.0 (longer_whole parts.0.now parts.1.now),
    )

-- no line is left
pub none_left : (text : List ℕ) → (length text == 0) ≡ true → map (λ line. string line) (lines_of text) ≡ []
unfolding pieces
none_left [] empty = refl
none_left (byte ∷ text) empty = absurd (grind (arith, nat_tests, empty))

regroup : (first : List Token) (a b : Token) (many : List Token) (c d : Token)
    → ((((first ++ (a ∷ [])) ++ (b ∷ [])) ++ many) ++ (c ∷ [])) ++ (d ∷ []) ≡ first ++ (a ∷ b ∷ many ++ (c ∷ d ∷ []))
regroup first a b many c d = simp append_assoc

-- tokens behind which five more are written, the third of which are many
pub five_more : (first one two three four five many : List Token) (a b c d : Token) → one ≡ first ++ (a ∷ [])
    → two ≡ one ++ (b ∷ []) → three ≡ two ++ many → four ≡ three ++ (c ∷ []) → five ≡ four ++ (d ∷ [])
    → five ≡ first ++ (a ∷ b ∷ many ++ (c ∷ d ∷ []))
five_more first one two three four five many a b c d is-one is-two is-three is-four is-five =
    is-five ∙ (ap (λ (t : List Token). t ++ (d ∷ [])) (is-four ∙ ap (λ (t : List Token). t ++ (c ∷ [])) (is-three
    ∙ ap (λ (t : List Token). t ++ many) (is-two ∙ ap (λ (t : List Token). t ++ (b ∷ [])) is-one)))
    ∙ regroup first a b many c d)
