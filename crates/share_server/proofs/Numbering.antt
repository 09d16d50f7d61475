-- Files numbered from 1.
use Rattle.lease_laws.proofs.Words.{◌+◌, ◌<◌, ◌∙◌, ◌∷◌, ◌≡◌, ◌≤◌, List, ℕ, [], ap, arith, cond, fun_ext, get_or, length, nat_tests}
use Rattle.lease_laws.proofs.Words.{numbered, put, refl, suc, sym, unwrap_or, zero}
use Rattle.std.proofs.Common.{eqb}
use Rattle.std.proofs.Math.ListN.{set}
use Rattle.std.specs.List.{slice_get}

abbrev at_place : List (List ℕ) → ℕ → List ℕ
at_place contents place = unwrap_or (slice_get contents place) []

none_there : (contents : List (List ℕ)) (place : ℕ) → length contents ≤ place → [] ≡ at_place contents place
none_there [] place out = refl
none_there (x ∷ xs) zero out = absurd (omega (arith, out))
none_there (x ∷ xs) (suc place) out = none_there xs place (omega (arith, out))

-- a number without a file
pub zero_is_none : (contents : List (List ℕ)) (n : ℕ) → n ≤ 0 → [] ≡ numbered [] contents n
unfolding numbered
zero_is_none contents zero low = refl
zero_is_none contents (suc n) low = absurd (omega (arith, low))

pub past_is_none : (contents : List (List ℕ)) (n : ℕ) → length contents < n → [] ≡ numbered [] contents n
unfolding numbered
past_is_none contents zero out = refl
past_is_none contents (suc n) out = none_there contents n (omega (arith, out))

there : (contents : List (List ℕ)) (place : ℕ) (x : List ℕ) → place < length contents → x ≡ get_or contents place x
    → x ≡ at_place contents place
there [] place x inside is = absurd (omega (arith, inside))
there (y ∷ ys) zero x inside is = is
there (y ∷ ys) (suc place) x inside is = there ys place x (omega (arith, inside)) is

-- the file of a number
pub is_numbered : (contents : List (List ℕ)) (n place : ℕ) (x : List ℕ) → n ≡ place + 1 → place < length contents
    → x ≡ get_or contents place x → x ≡ numbered [] contents n
unfolding numbered
is_numbered contents n place x same inside is =
    let e : n ≡ suc place = omega (arith, same) in rw e (there contents place x inside is)

place_set : (contents : List (List ℕ)) (place n : ℕ) (x : List ℕ) → place < length contents
    → at_place (set contents place x) n ≡ cond (eqb n place) x (at_place contents n)
place_set [] place n x inside = absurd (omega (arith, inside))
place_set (y ∷ ys) zero zero x inside = refl
place_set (y ∷ ys) zero (suc n) x inside = grind (arith, nat_tests)
place_set (y ∷ ys) (suc place) zero x inside = grind (arith, nat_tests)
place_set (y ∷ ys) (suc place) (suc n) x inside = let later = place_set ys place n x (omega (arith, inside)) in grind arith

set_one : (contents : List (List ℕ)) (place n : ℕ) (x : List ℕ) → place < length contents
    → numbered [] (set contents place x) n ≡ put (numbered [] contents) (suc place) x n
unfolding numbered put
set_one contents place zero x inside = grind (arith, nat_tests)
set_one contents place (suc n) x inside = let at = place_set contents place n x inside in grind (arith, nat_tests, at)

-- another content of one file, made of the one that it had
pub content_edit : (edit : List ℕ → List ℕ) (contents : List (List ℕ)) (n place : ℕ) (old : List ℕ) → n ≡ place + 1
    → place < length contents → old ≡ get_or contents place old
    → numbered [] (set contents place (edit old)) ≡ put (numbered [] contents) n (edit (numbered [] contents n))
content_edit edit contents n place old same inside is =
    let e : n ≡ suc place = omega (arith, same) in
    fun_ext (λ m. set_one contents place m (edit old) inside)
    ∙ ap (λ x. put (numbered [] contents) (suc place) (edit x)) (is_numbered contents n place old same inside is)
    ∙ ap (λ k. put (numbered [] contents) k (edit (numbered [] contents n))) (sym e)
