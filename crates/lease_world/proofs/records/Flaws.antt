-- What the definitions say of one fact, from what is known of each of the tests.
use Rattle.lease_laws.proofs.Words.{◌++◌, ◌+◌, ◌∙◌, ◌∷◌, ◌≡◌, Fact, List, OneWriteCache, Verdict, ℕ, [], ap, arith, false}
use Rattle.lease_laws.proofs.Words.{flaw_at, has_two_caches, is_false_done, is_late_write, is_stale_read, is_well_formed, length}
use Rattle.lease_laws.proofs.Words.{or_else, refl, reverse, reverse_aux, suc, true, verdict, verdict_from}
use Rattle.lease_laws.proofs.records.VerdictLemmas.{two_caches-test}

pub malformed-here : (place : ℕ) (fact : Fact) (past : List Fact) → is_well_formed fact past ≡ false
    → flaw_at place fact past ≡ Verdict.Malformed place
unfolding flaw_at
malformed-here place fact past w = rw w refl

pub two-here : (place : ℕ) (fact : Fact) (past : List Fact) → is_well_formed fact past ≡ true
    → has_two_caches (fact ∷ past) ≡ true → flaw_at place fact past ≡ Verdict.Unsafe place 1
unfolding flaw_at
two-here place fact past w two = rw (w, two) refl

pub stale-here : (place : ℕ) (fact : Fact) (past : List Fact) → is_well_formed fact past ≡ true → OneWriteCache (fact ∷ past)
    → is_stale_read fact past ≡ true → flaw_at place fact past ≡ Verdict.Unsafe place 2
unfolding flaw_at
stale-here place fact past w one stale = rw (w, two_caches-test (fact ∷ past) one, stale) refl

pub late-here : (place : ℕ) (fact : Fact) (past : List Fact) → is_well_formed fact past ≡ true → OneWriteCache (fact ∷ past)
    → is_stale_read fact past ≡ false → is_late_write fact past ≡ true → flaw_at place fact past ≡ Verdict.Unsafe place 3
unfolding flaw_at
late-here place fact past w one stale late = rw (w, two_caches-test (fact ∷ past) one, stale, late) refl

pub false-here : (place : ℕ) (fact : Fact) (past : List Fact) → is_well_formed fact past ≡ true → OneWriteCache (fact ∷ past)
    → is_stale_read fact past ≡ false → is_late_write fact past ≡ false → is_false_done fact past ≡ true
    → flaw_at place fact past ≡ Verdict.Unsafe place 4
unfolding flaw_at
false-here place fact past w one stale late done = rw (w, two_caches-test (fact ∷ past) one, stale, late, done) refl

pub safe-here : (place : ℕ) (fact : Fact) (past : List Fact) → is_well_formed fact past ≡ true → OneWriteCache (fact ∷ past)
    → is_stale_read fact past ≡ false → is_late_write fact past ≡ false → is_false_done fact past ≡ false
    → flaw_at place fact past ≡ Verdict.Safe
unfolding flaw_at
safe-here place fact past w one stale late done = rw (w, two_caches-test (fact ∷ past) one, stale, late, done) refl

-- ---- one fact more

counted : (n m : ℕ) → (n + 1) + m ≡ n + suc m
counted n m = omega arith

verdict-push : (place : ℕ) (past facts : List Fact) (fact : Fact) → verdict_from place past (facts ++ fact ∷ [])
    ≡ or_else (verdict_from place past facts) (flaw_at (place + length facts) fact (reverse_aux facts past))
unfolding verdict_from
verdict-push place past [] fact = grind arith
verdict-push place past (x ∷ facts) fact = let later = verdict-push (place + 1) (x ∷ past) facts fact in grind arith

one_and : (n : ℕ) → 1 + n ≡ n + 1
one_and n = omega arith

-- the verdict on a record with one fact more
pub verdict-more : (facts : List Fact) (fact : Fact)
    → verdict (facts ++ fact ∷ []) ≡ or_else (verdict facts) (flaw_at (length facts + 1) fact (reverse facts))
verdict-more facts fact = verdict-push 1 [] facts fact
    ∙ ap (λ (n : ℕ). or_else (verdict facts) (flaw_at n fact (reverse facts))) (one_and (length facts))
