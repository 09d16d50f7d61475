-- Places that are looked for, after one fact more.
use Rattle.lease_laws.proofs.Words.{◌&&◌, ◌+◌, ◌<◌, ◌≡◌, Bool, Fact, List, None, Some, ℕ, [], arith, get_or, if◌then◌else◌}
use Rattle.lease_laws.proofs.Words.{length, nat_le, refl, take}
use Rattle.lease_facts.specs.Facts.{fact_of}
use Rattle.lease_facts.specs.declared.fact.Fact as code
use Rattle.lease_reasons.specs.Places.{past_of, last_place, first_place, earlier}
use Rattle.lease_reasons.proofs.Pasts.{past-next, taken-length}

pub last-none : (test : Fact → Bool) → last_place test [] ≡ None
unfolding last_place
last-none test = refl

pub last-next : (test : Fact → Bool) (xs : List code.Fact) (i : ℕ) (x : code.Fact) → i < length xs → x ≡ get_or xs i x
    → last_place test (past_of (take (i + 1) xs)) ≡ (if test (fact_of x) then Some (i + 1) else last_place test (past_of (take i
    xs)))
unfolding last_place
last-next test xs i x inside is =
    let e : length (past_of (take i xs)) ≡ i = taken-length xs i (omega arith) in
    rw (past-next xs i x inside is, e) refl

pub first-none : (test : Fact → Bool) (behind : ℕ) → first_place test behind [] ≡ None
unfolding first_place
first-none test behind = refl

pub first-next : (test : Fact → Bool) (behind : ℕ) (xs : List code.Fact) (i : ℕ) (x : code.Fact) → i < length xs → x ≡ get_or xs i
    x → first_place test behind (past_of (take (i + 1) xs))
    ≡ earlier (first_place test behind (past_of (take i xs))) (if nat_le behind i && test (fact_of x) then Some (i + 1) else None)
unfolding first_place
first-next test behind xs i x inside is =
    let e : length (past_of (take i xs)) ≡ i = taken-length xs i (omega arith) in
    rw (past-next xs i x inside is, e) refl
