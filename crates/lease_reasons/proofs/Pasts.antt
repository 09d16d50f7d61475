-- Facts as a past, one more after the other.
use Rattle.lease_laws.proofs.Words.{◌++◌, ◌+◌, ◌<◌, ◌∙◌, ◌∷◌, ◌≡◌, ◌≤◌, List, ℕ, [], ap, get_or, length, length-map}
use Rattle.lease_laws.proofs.Words.{length-reverse, length-take-le, map, map-append, reverse, reverse-append, sym, take}
use Rattle.lease_laws.proofs.Words.{take-length}
use Rattle.std.proofs.lemmas.List.{take_more}
use Rattle.lease_facts.specs.Facts.{fact_of}
use Rattle.lease_facts.specs.declared.fact.Fact as code
use Rattle.lease_reasons.specs.Places.{past_of}

pub past-append : (xs : List code.Fact) (x : code.Fact) → past_of (xs ++ x ∷ []) ≡ fact_of x ∷ past_of xs
past-append xs x = ap (λ ys. reverse ys) (map-append fact_of xs (x ∷ [])) ∙ reverse-append (map fact_of xs) (fact_of x ∷ [])

-- one fact more was looked at
pub past-next : (xs : List code.Fact) (i : ℕ) (x : code.Fact) → i < length xs → x ≡ get_or xs i x
    → past_of (take (i + 1) xs) ≡ fact_of x ∷ past_of (take i xs)
past-next xs i x inside is =
    ap (λ ys. past_of ys) (take_more xs i x inside ∙ ap (λ y. take i xs ++ y ∷ []) (sym is)) ∙ past-append (take i xs) x

pub past-length : (xs : List code.Fact) → length (past_of xs) ≡ length xs
past-length xs = length-reverse (map fact_of xs) ∙ length-map xs fact_of

pub taken-length : (xs : List code.Fact) (i : ℕ) → i ≤ length xs → length (past_of (take i xs)) ≡ i
taken-length xs i inside = past-length (take i xs) ∙ length-take-le i xs inside

pub past_all : (xs : List code.Fact) → past_of (take (length xs) xs) ≡ past_of xs
past_all xs = ap (λ ys. past_of ys) (take-length xs)
