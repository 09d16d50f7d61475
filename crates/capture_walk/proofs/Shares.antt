-- What stands behind the last backslash of a path, by one more unit of two bytes.
use Rattle.std.proofs.Common.{◌≡◌, ℕ, ◌-◌, ◌≤◌, ◌==◌, ◌&&◌, if◌then◌else◌, List, [], ◌∷◌, length, drop, take, slice_index_or, arith, refl, ap, ◌∙◌, sym, subst}
use Rattle.capture_walk.specs.Files.{behind_backslash, share_of}

all_of : (xs : List ℕ) → take (length xs) xs ≡ xs
all_of [] = refl
all_of (x ∷ xs) = ap (λ ys. x ∷ ys) (all_of xs)

two_less : (low high : ℕ) (behind : List ℕ) → length (low ∷ high ∷ behind) - 2 ≡ length behind
two_less low high behind = omega arith

pub unit_next : (path share rest found : List ℕ) → 2 ≤ length rest
    → found ≡ (if slice_index_or rest 0 0 == 92 && slice_index_or rest 1 0 == 0
    then take (length rest - 2) (drop 2 rest) else share)
    → behind_backslash share rest ≡ share_of path
    → behind_backslash found (take (length rest - 2) (drop 2 rest)) ≡ share_of path
unit_next path share [] found long is before = grind (arith, long)
unit_next path share (one ∷ []) found long is before = grind (arith, long)
unit_next path share (low ∷ high ∷ behind) found long is before =
    let same = ap (λ n. take n behind) (two_less low high behind) ∙ all_of behind in
    let chosen = is ∙ ap (λ ys. if low == 92 && high == 0 then ys else share) same in
    subst (λ ys. behind_backslash found ys ≡ share_of path) (sym same)
    (subst (λ ys. behind_backslash ys behind ≡ share_of path) (sym chosen) before)
