-- What is on a list: after an append, a filter and a map; and what `list_any` says of it.
use Rattle.lease_laws.proofs.Words.{◌&&◌, ◌++◌, ◌||◌, ◌∙◌, ◌∷◌, ◌≡◌, ◌⊎◌, Among, Bool, List, Some, ⊎_elim, [], ap, cond, false}
use Rattle.std.proofs.Common.{arith}
use Rattle.lease_laws.proofs.Words.{filter, find, inl, inr, list_all, list_any, map, not, refl, sym, true, true≢false}
use Rattle.lease_laws.proofs.Words.{ap₂, unmarked}

-- to choose by a test keeps what holds of both
pub if_cases : {X : Type 0} (P : X → Type 0) (b : Bool) (x y : X) → (b ≡ true → P x) → (b ≡ false → P y) → P (cond b x y)
if_cases P b x y at_true at_false = grind arith

-- a test is true or false
pub either : {P : Type 0} (b : Bool) → (b ≡ true → P) → (b ≡ false → P) → P
either b at_true at_false = grind arith

-- a Bool that isn't false is true, and the other way round
pub not_false : (b : Bool) → (b ≡ false → ⊥) → b ≡ true
not_false b never = either b (λ e. e) (λ e. absurd (never e))

-- a Bool that isn't true is false
pub not_true : (b : Bool) → (b ≡ true → ⊥) → b ≡ false
not_true b never = either b (λ e. absurd (never e)) (λ e. e)

-- a Bool isn't both
pub clash : {P : Type 0} (b : Bool) → b ≡ true → b ≡ false → P
clash b e f = absurd (true≢false (sym e ∙ f))

-- one of two is true
pub or_true : (a b : Bool) → (a || b) ≡ true → (a ≡ true) ⊎ (b ≡ true)
or_true a b e = grind arith

-- the first is true
pub true_or : (a b : Bool) → a ≡ true → (a || b) ≡ true
true_or a b e = rw e refl

-- the second is true
pub or_of_true : (a b : Bool) → b ≡ true → (a || b) ≡ true
or_of_true a b e = grind arith

-- both are true
pub and_parts : (a b : Bool) → (a && b) ≡ true → (a ≡ true) × (b ≡ true)
and_parts a b e = grind arith

-- both are true, so they are together
pub and_both : (a b : Bool) → a ≡ true → b ≡ true → (a && b) ≡ true
and_both a b e f = rw (e, f) refl

-- what is not true is false
pub not_parts : (a : Bool) → not a ≡ true → a ≡ false
not_parts a e = grind arith

-- on an append it is on the one list or on the other
pub among_append : {X : Type 0} (x : X) (xs ys : List X) → Among x (xs ++ ys) → Among x xs ⊎ Among x ys
among_append x [] ys h = inr h
among_append x (y ∷ xs) ys (inl e) = inl (inl e)
among_append x (y ∷ xs) ys (inr h) = ⊎_elim (λ a. inl (inr a)) (λ b. inr b) (among_append x xs ys h)

-- an element of the first list is on the append
pub among_before : {X : Type 0} (x : X) (xs ys : List X) → Among x xs → Among x (xs ++ ys)
among_before x [] ys h = absurd h
among_before x (y ∷ xs) ys (inl e) = inl e
among_before x (y ∷ xs) ys (inr h) = inr (among_before x xs ys h)

-- an element of the second list is on the append
pub among_behind : {X : Type 0} (x : X) (xs ys : List X) → Among x ys → Among x (xs ++ ys)
among_behind x [] ys h = h
among_behind x (y ∷ xs) ys h = inr (among_behind x xs ys h)

-- what passes the filter was on the list
pub among_filter : {X : Type 0} (test : X → Bool) (x : X) (xs : List X) → Among x (filter test xs)
    → (Among x xs) × (test x ≡ true)
among_filter test x [] h = absurd h
among_filter test x (y ∷ xs) h =
    let later : Among x (filter test xs) → (Among x (y ∷ xs)) × (test x ≡ true) =
    λ k. let rest = among_filter test x xs k in (inr rest.0, rest.1) in
    if_cases (λ l. Among x l → (Among x (y ∷ xs)) × (test x ≡ true)) (test y) (y ∷ filter test xs) (filter test xs)
    (λ e k. ⊎_elim (λ same. (inl same, ap test same ∙ e)) later k) (λ e. later) h

-- what was on the list and passes is on the filtered list
pub among_filtered : {X : Type 0} (test : X → Bool) (x : X) (xs : List X) → Among x xs → test x ≡ true → Among x (filter test xs)
among_filtered test x [] h e = absurd h
among_filtered test x (y ∷ xs) h e =
    let later : Among x xs → Among x (filter test xs) = λ k. among_filtered test x xs k e in
    if_cases (λ l. Among x l) (test y) (y ∷ filter test xs) (filter test xs)
    (λ t. ⊎_elim (λ same. inl same) (λ k. inr (later k)) h)
    (λ t. ⊎_elim (λ same. clash (test x) e (ap test same ∙ t)) later h)

-- an element of a mapped list comes from one of the list
pub among_map : {X Y : Type 0} (f : X → Y) (y : Y) (xs : List X) → Among y (map f xs) → (x : X) × (Among x xs) × (y ≡ f x)
among_map f y [] h = absurd h
among_map f y (x ∷ xs) (inl e) = (x, inl refl, e)
among_map f y (x ∷ xs) (inr h) = let rest = among_map f y xs h in (rest.0, inr rest.1, rest.2)

-- where the test is true of some element, that one is on the list
pub any_has : {X : Type 0} (test : X → Bool) (xs : List X) → list_any test xs ≡ true → (x : X) × (Among x xs) × (test x ≡ true)
any_has test [] h = absurd (true≢false (sym h))
any_has {X} test (y ∷ xs) h =
    let later : list_any test xs ≡ true → (x : X) × (Among x (y ∷ xs)) × (test x ≡ true) =
    λ k. let rest = any_has test xs k in (rest.0, inr rest.1, rest.2) in
    ⊎_elim (λ e. (y, inl refl, e)) later (or_true (test y) (list_any test xs) h)

-- where it is true of one on the list, it is true of some
pub has_any : {X : Type 0} (test : X → Bool) (x : X) (xs : List X) → Among x xs → test x ≡ true → list_any test xs ≡ true
has_any test x [] h e = absurd h
has_any test x (y ∷ xs) (inl same) e = true_or (test y) (list_any test xs) (ap test (sym same) ∙ e)
has_any test x (y ∷ xs) (inr h) e = or_of_true (test y) (list_any test xs) (has_any test x xs h e)

-- where it is true of none, it is false of each on the list
pub none_has : {X : Type 0} (test : X → Bool) (x : X) (xs : List X) → list_any test xs ≡ false → Among x xs → test x ≡ false
none_has test x xs none h = not_true (test x) (λ e. clash (list_any test xs) (has_any test x xs h e) none)

-- where it is false of each on the list, it is true of none
pub has_none : {X : Type 0} (test : X → Bool) (xs : List X) → ((x : X) → Among x xs → test x ≡ false) → list_any test xs ≡ false
has_none test xs each = not_true (list_any test xs)
    (λ e. let found = any_has test xs e in clash (test found.0) found.2 (each found.0 found.1))

-- what is found is on the list and passes
pub find_has : {X : Type 0} (test : X → Bool) (x : X) (xs : List X) → find test xs ≡ Some x → (Among x xs) × (test x ≡ true)
find_has test x [] h = absurd (cc)
find_has test x (y ∷ xs) h = if_cases (λ o. o ≡ Some x → (Among x (y ∷ xs)) × (test x ≡ true)) (test y) (Some y) (find test xs)
    (λ e k. let same : x ≡ y = cc in (inl same, ap test same ∙ e))
    (λ e k. let rest = find_has test x xs k in (inr rest.0, rest.1)) h

-- where the test is true of each on the list, it is true of all
pub each_all : {X : Type 0} (test : X → Bool) (xs : List X) → ((x : X) → Among x xs → test x ≡ true) → list_all test xs ≡ true
each_all test [] each = refl
each_all test (x ∷ xs) each = and_both (test x) (list_all test xs) (each x (inl refl)) (each_all test xs (λ y a. each y (inr a)))

-- where the test is true of all, it is true of each on the list
pub all_each : {X : Type 0} (test : X → Bool) (x : X) (xs : List X) → list_all test xs ≡ true → Among x xs → test x ≡ true
all_each test x [] all a = absurd a
all_each test x (y ∷ xs) all a = let parts = and_parts (test y) (list_all test xs) all in
    ⊎_elim (λ same. ap test same ∙ parts.0) (λ later. all_each test x xs parts.1 later) a

-- what isn't marked is on the list
pub among_unmarked : {X : Type 0} (x : X) (marks : List Bool) (xs : List X) → Among x (unmarked marks xs) → Among x xs
among_unmarked x [] xs a = a
among_unmarked x (mark ∷ marks) [] a = a
among_unmarked x (mark ∷ marks) (y ∷ xs) a =
    if_cases (λ left. Among x left → Among x (y ∷ xs)) mark (unmarked marks xs) (y ∷ unmarked marks xs)
    (λ e b. inr (among_unmarked x marks xs b))
    (λ e b. ⊎_elim (λ same. inl same) (λ later. inr (among_unmarked x marks xs later)) b) a

-- two lists that begin and go on are one: so are their beginnings
heads : {X : Type 0} (x y : X) (xs ys : List X) → x ∷ xs ≡ y ∷ ys → x ≡ y
heads x y xs ys e = cc

-- and what they go on with
tails : {X : Type 0} (x y : X) (xs ys : List X) → x ∷ xs ≡ y ∷ ys → xs ≡ ys
tails x y xs ys e = cc

-- there is nothing on an empty list
pub nothing_there : {X : Type 0} (before : List X) (x : X) (behind : List X) → [] ≡ before ++ x ∷ behind → ⊥
nothing_there [] x behind e = absurd (cc)
nothing_there (y ∷ before) x behind e = absurd (cc)

-- an element of a list with one more at its end stands on the list, or is that one
pub split_more : {X : Type 0} (xs : List X) (y : X) (before : List X) (x : X) (behind : List X)
    → xs ++ y ∷ [] ≡ before ++ x ∷ behind → ((more : List X) × (xs ≡ before ++ x ∷ more)) ⊎ ((xs ≡ before) × (x ≡ y))
split_more [] y [] x behind e = inr (refl, sym (heads y x [] behind e))
split_more [] y (b ∷ before) x behind e = absurd (nothing_there before x behind (tails y b [] (before ++ x ∷ behind) e))
split_more (z ∷ xs) y [] x behind e = inl (xs, ap (λ h. h ∷ xs) (heads z x (xs ++ y ∷ []) behind e))
split_more (z ∷ xs) y (b ∷ before) x behind e =
    let first = heads z b (xs ++ y ∷ []) (before ++ x ∷ behind) e in
    ⊎_elim (λ l. inl (l.0, ap₂ (λ h t. h ∷ t) first l.1)) (λ r. inr (ap₂ (λ h t. h ∷ t) first r.0, r.1))
    (split_more xs y before x behind (tails z b (xs ++ y ∷ []) (before ++ x ∷ behind) e))
