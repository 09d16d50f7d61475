-- Findings, one after the other.
use Rattle.std.proofs.Common.{◌≡◌, ℕ, ◌+◌, ◌<◌, List, [], ◌∷◌, ◌++◌, length, map, take, get_or, sym, ap, ◌∙◌}
use Rattle.std.proofs.lemmas.List.{take_more, map-append}
use Rattle.std.specs.List.{AllZip}

zip_push : {A B : Type 0} (R : A → B → Type 0) (xs : List A) (ys : List B) (x : A) (y : B) → AllZip R xs ys → R x y
    → AllZip R (xs ++ x ∷ []) (ys ++ y ∷ [])
zip_push R [] [] x y all one = (one, tt)
zip_push R [] (b ∷ ys) x y all one = absurd all
zip_push R (a ∷ xs) [] x y all one = absurd all
zip_push R (a ∷ xs) (b ∷ ys) x y all one = (all.0, zip_push R xs ys x y all.1 one)

pub zip_more : {A B : Type 0} (R : A → B → Type 0) (xs : List A) (ys : List B) (i : ℕ) (d : A) (y : B) → i < length xs
    → AllZip R (take i xs) ys → R (get_or xs i d) y → AllZip R (take (i + 1) xs) (ys ++ y ∷ [])
zip_more R xs ys i d y inside all one = rw (take_more xs i d inside) (zip_push R (take i xs) ys (get_or xs i d) y all one)

pub map_more : {A B : Type 0} (f : A → B) (xs : List A) (ys : List B) (x : A) (i : ℕ) (d : B) → i < length ys
    → map f xs ≡ take i ys → f x ≡ get_or ys i d → map f (xs ++ x ∷ []) ≡ take (i + 1) ys
map_more f xs ys x i d inside all one =
    map-append f xs (x ∷ []) ∙ (ap (λ (zs : List _). zs ++ f x ∷ []) all ∙ (ap (λ y. take i ys ++ y ∷ []) one
    ∙ sym (take_more ys i d inside)))
