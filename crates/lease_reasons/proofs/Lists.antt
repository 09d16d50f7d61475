-- Lists of which something is true throughout, or somewhere.
use Rattle.lease_laws.proofs.Words.{◌&&◌, ◌++◌, ◌+◌, ◌||◌, ◌∙◌, ◌∷◌, ◌≡◌, Bool, List, None, Some, ℕ, [], ap, arith, both_ways}
use Rattle.lease_laws.proofs.Words.{length, list_any, refl, subst, sym, true}
use Rattle.std.specs.Prelude.{◌<◌, get_or, take}
use Rattle.std.specs.List.{All, filter, find}
use Rattle.std.proofs.lemmas.List.{take_more}
use Rattle.std.proofs.lemmas.List.Elements.{All-nil, All-cons, All-head, All-tail}
use Rattle.lease_reasons.specs.Beliefs.{Each}

pub each_more : {X : Type 0} (P Q : X → Type 0) (xs : List X) → ((x : X) → P x → Q x) → Each P xs → Each Q xs
each_more P Q [] f all = tt
each_more P Q (x ∷ xs) f all = (f x all.0, each_more P Q xs f all.1)

pub each-append : {X : Type 0} (P : X → Type 0) (xs : List X) (x : X) → Each P xs → P x → Each P (xs ++ x ∷ [])
each-append P [] x all one = (one, tt)
each-append P (y ∷ xs) x all one = (all.0, each-append P xs x all.1 one)

-- one more of a list was looked at
pub each-next : {X : Type 0} (P : X → Type 0) (xs : List X) (i : ℕ) (d : X) → i < length xs → Each P (take i xs)
    → P (get_or xs i d) → Each P (take (i + 1) xs)
each-next P xs i d inside all one = subst (λ ys. Each P ys) (sym (take_more xs i d inside)) (each-append P (take i xs) _ all one)

pub each-filter : {X : Type 0} (P : X → Type 0) (t : X → Bool) (xs : List X) → Each P xs
    → Each (λ x. P x × (t x ≡ true)) (filter t xs)
each-filter P t [] all = tt
each-filter P t (x ∷ xs) all = go (t x) refl (each-filter P t xs all.1)
  where
    go : (b : Bool) → t x ≡ b → Each (λ x. P x × (t x ≡ true)) (filter t xs) → Each (λ x. P x × (t x ≡ true)) (filter t (x ∷ xs))
    go b e rest = grind arith

pub any-append : {X : Type 0} (t : X → Bool) (xs ys : List X) → list_any t (xs ++ ys) ≡ (list_any t xs || list_any t ys)
any-append t [] ys = refl
any-append t (x ∷ xs) ys = ap (λ (b : Bool). t x || b) (any-append t xs ys) ∙ (grind arith)

-- each of a list, also by indexes
pub each-all : {X : Type 0} (P : X → Type 0) (xs : List X) → Each P xs → All P xs
each-all P [] each = All-nil P
each-all P (x ∷ xs) each = All-cons P x xs each.0 (each-all P xs each.1)

pub all-each : {X : Type 0} (P : X → Type 0) (xs : List X) → All P xs → Each P xs
all-each P [] all = tt
all-each P (x ∷ xs) all = (All-head P x xs all, all-each P xs (All-tail P x xs all))

-- what passes two tests is among those that pass the one
pub any-filter : {X : Type 0} (m t : X → Bool) (xs : List X) → list_any (λ x. m x && t x) xs ≡ true
    → list_any t (filter m xs) ≡ true
any-filter m t [] there = there
any-filter m t (x ∷ xs) there = go (m x) refl (any-filter m t xs)
  where
    go : (b : Bool) → m x ≡ b → (list_any (λ x. m x && t x) xs ≡ true → list_any t (filter m xs) ≡ true)
        → list_any t (filter m (x ∷ xs)) ≡ true
    go b e later = grind arith

pub find-some : {X : Type 0} (t : X → Bool) (xs : List X) → list_any t xs ≡ true → find t xs ≡ None → ⊥
find-some t [] there none = both_ways _ refl there
find-some t (x ∷ xs) there none = go (t x) refl (λ e n. find-some t xs e n)
  where
    go : (b : Bool) → t x ≡ b → (list_any t xs ≡ true → find t xs ≡ None → ⊥) → ⊥
    go b e later = grind arith

pub find-each : {X : Type 0} (P : X → Type 0) (t : X → Bool) (xs : List X) (found : X) → Each P xs → find t xs ≡ Some found
    → P found × (t found ≡ true)
find-each P t [] found all e = let no : ⊥ = cc in absurd no
find-each P t (x ∷ xs) found all e = go (t x) refl (λ f. find-each P t xs found all.1 f)
  where
    go : (b : Bool) → t x ≡ b → (find t xs ≡ Some found → P found × (t found ≡ true)) → P found × (t found ≡ true)
    go b h later = grind arith

-- tests that agree
pub filter_alike : {X : Type 0} (p q : X → Bool) (xs : List X) → ((x : X) → p x ≡ q x) → filter p xs ≡ filter q xs
filter_alike p q [] same = refl
filter_alike p q (x ∷ xs) same = rw (same x, filter_alike p q xs same) refl
