-- The first bad fact of a record, by what is known of the verdict.
use Rattle.lease_laws.proofs.Words.{◌++◌, ◌+◌, ◌<◌, ◌∙◌, ◌∷◌, ◌≡◌, ◌≤◌, ◌⊎◌, Bool, Fact, List, Option, Verdict, ℕ, [], ap, arith}
use Rattle.lease_laws.proofs.Words.{drop, false, flaw_at, get_or, has_two_caches, if◌then◌else◌, is_false_done}
use Rattle.lease_laws.proofs.Words.{is_late_write, is_stale_read, is_well_formed, length, length-append, length-map}
use Rattle.lease_laws.proofs.Words.{length-take-le, map, map-append, not, or_else, refl, reverse, reverse_aux, suc, sym, take}
use Rattle.lease_laws.proofs.Words.{true, verdict, verdict_from}
use Rattle.std.proofs.lemmas.List.{take-append-drop}
use Rattle.lease_facts.specs.Facts.{fact_of}
use Rattle.lease_facts.specs.declared.fact.Fact as code
use Rattle.lease_facts.proofs.Places.{drop_rest}
use Rattle.lease_facts.specs.declared.verdict.Rule.{Rule}
use Rattle.lease_reasons.specs.Places.{past_of}
use Rattle.lease_reasons.specs.Reasons.{Told, IsReasonAt}
use Rattle.lease_reasons.specs.declared.reason.Reason.{Reason}

-- a fact behind others has this flaw, whose place counts on from one
record BadFrom (place : ℕ) (past facts : List Fact) (told : Verdict) : Type 0 where
  before : List Fact
  fact : Fact
  later : List Fact
  parts : facts ≡ before ++ fact ∷ later
  flaw : flaw_at (place + length before) fact (reverse_aux before past) ≡ told

bad-from : (place : ℕ) (past facts : List Fact) (told : Verdict) → verdict_from place past facts ≡ told → (told ≡ Verdict.Safe →
    ⊥) → BadFrom place past facts told
unfolding verdict_from
bad-from place past [] told e unsafe = absurd (unsafe (sym e))
bad-from place past (one ∷ facts) told e unsafe =
    go (flaw_at place one past) refl e (λ h. bad-from (place + 1) (one ∷ past) facts told h unsafe)
  where
    here : (flaw : Verdict) → flaw_at place one past ≡ flaw → flaw ≡ told → BadFrom place past (one ∷ facts) told
    here flaw at same = record {
      before = [];
      fact = one;
      later = facts;
      parts = refl;
      flaw = ap (λ (n : ℕ). flaw_at n one past) (none place) ∙ (at ∙ same);
    }
      where
        none : (n : ℕ) → n + 0 ≡ n
        none n = omega arith

    go : (flaw : Verdict) → flaw_at place one past ≡ flaw → or_else flaw (verdict_from (place + 1) (one ∷ past) facts) ≡ told
        → (verdict_from (place + 1) (one ∷ past) facts ≡ told → BadFrom (place + 1) (one ∷ past) facts told)
        → BadFrom place past (one ∷ facts) told
    go Verdict.Safe at same rest =
        let bad : BadFrom (place + 1) (one ∷ past) facts told = rest same in
        record {
          before = one ∷ bad.before;
          fact = bad.fact;
          later = bad.later;
          parts = ap (λ (fs : List Fact). one ∷ fs) bad.parts;
          flaw = ap (λ (n : ℕ). flaw_at n bad.fact (reverse_aux bad.before (one ∷ past))) (more place (length bad.before)) ∙
              bad.flaw;
        }
      where
        more : (n k : ℕ) → n + suc k ≡ (n + 1) + k
        more n k = omega arith
    go (Verdict.Unsafe p r) at same rest = here (Verdict.Unsafe p r) at same
    go (Verdict.Malformed p) at same rest = here (Verdict.Malformed p) at same

-- ---- which flaw

abbrev flaw_of : ℕ → Bool → Bool → Bool → Bool → Bool → Verdict
flaw_of place w t s l d = if not w then Verdict.Malformed place else (if t then Verdict.Unsafe place 1
    else (if s then Verdict.Unsafe place 2 else (if l then Verdict.Unsafe place 3 else (if d then Verdict.Unsafe place 4
    else Verdict.Safe))))

malformed-of : (n p : ℕ) (w t s l d : Bool) → flaw_of n w t s l d ≡ Verdict.Malformed p → (p ≡ n) × (w ≡ false)
malformed-of n p w t s l d e = grind arith

abbrev ByRule : ℕ → Bool → Bool → Bool → Bool → Type 0
ByRule r t s l d = ((r ≡ 1) × (t ≡ true)) ⊎ (((r ≡ 2) × (s ≡ true)) ⊎ (((r ≡ 3) × (l ≡ true)) ⊎ ((r ≡ 4) × (d ≡ true))))

unsafe-of : (n p r : ℕ) (w t s l d : Bool) → flaw_of n w t s l d ≡ Verdict.Unsafe p r → (p ≡ n) × ByRule r t s l d
unsafe-of n p r w t s l d e = grind arith

-- ---- the fact at an index

same-split : (a b : List Fact) (x y : Fact) (c d : List Fact) → a ++ x ∷ c ≡ b ++ y ∷ d → length a ≡ length b → (a ≡ b) × (x ≡ y)
same-split [] [] x y c d e l = let same : x ≡ y = cc in (refl, same)
same-split [] (z ∷ b) x y c d e l = absurd (omega arith)
same-split (z ∷ a) [] x y c d e l = absurd (omega arith)
same-split (u ∷ a) (v ∷ b) x y c d e l =
    let head : u ≡ v = cc in
    let tail : a ++ x ∷ c ≡ b ++ y ∷ d = cc in
    let rest : (a ≡ b) × (x ≡ y) = same-split a b x y c d tail (omega arith) in
    (ap (λ (w : Fact). w ∷ a) head ∙ ap (λ (fs : List Fact). v ∷ fs) rest.0, rest.1)

pub parts-at : (xs : List code.Fact) (k : ℕ) (x : code.Fact) → k < length xs → x ≡ get_or xs k x
    → map fact_of xs ≡ map fact_of (take k xs) ++ fact_of x ∷ map fact_of (drop (k + 1) xs)
parts-at xs k x inside is = ap (map fact_of) (sym (take-append-drop k xs) ∙ ap (λ (ys : List code.Fact). take k xs ++ ys)
    (drop_rest xs k x inside ∙ ap (λ (y : code.Fact). y ∷ drop (k + 1) xs) (sym is)))
    ∙ map-append fact_of (take k xs) (x ∷ drop (k + 1) xs)

length-before : (xs : List code.Fact) (k : ℕ) → k < length xs → length (map fact_of (take k xs)) ≡ k
length-before xs k inside = length-map (take k xs) fact_of ∙ length-take-le k xs (omega arith)

flaw-at : (xs : List code.Fact) (k : ℕ) (x : code.Fact) (told : Verdict) → k < length xs → x ≡ get_or xs k x
    → (bad : BadFrom 1 [] (map fact_of xs) told) → length bad.before ≡ k
    → flaw_at (1 + k) (fact_of x) (past_of (take k xs)) ≡ told
flaw-at xs k x told inside is bad at =
    let same : (map fact_of (take k xs) ≡ bad.before) × (fact_of x ≡ bad.fact) =
    same-split (map fact_of (take k xs)) bad.before (fact_of x) bad.fact (map fact_of (drop (k + 1) xs)) bad.later
    (sym (parts-at xs k x inside is) ∙ bad.parts) (length-before xs k inside ∙ sym at) in
    ap (λ (n : ℕ). flaw_at (1 + n) (fact_of x) (past_of (take k xs))) (sym at)
    ∙ (ap (λ (fact : Fact). flaw_at (1 + length bad.before) fact (past_of (take k xs))) same.1
    ∙ (ap (λ (fs : List Fact). flaw_at (1 + length bad.before) bad.fact (reverse fs)) same.0 ∙ bad.flaw))

pub malformed-at : (xs : List code.Fact) (k : ℕ) (x : code.Fact) → k < length xs → x ≡ get_or xs k x
    → verdict (map fact_of xs) ≡ Verdict.Malformed (k + 1) → is_well_formed (fact_of x) (past_of (take k xs)) ≡ false
unfolding flaw_at
malformed-at xs k x inside is e =
    let bad : BadFrom 1 [] (map fact_of xs) (Verdict.Malformed (k + 1)) =
    bad-from 1 [] (map fact_of xs) (Verdict.Malformed (k + 1)) e (λ h. let no : ⊥ = cc in no) in
    let place : (k + 1 ≡ 1 + length bad.before) × (is_well_formed bad.fact (reverse_aux bad.before []) ≡ false) =
    malformed-of (1 + length bad.before) (k + 1) (is_well_formed bad.fact (reverse_aux bad.before [])) _ _ _ _ bad.flaw in
    (malformed-of (1 + k) (k + 1) (is_well_formed (fact_of x) (past_of (take k xs))) _ _ _ _
    (flaw-at xs k x (Verdict.Malformed (k + 1)) inside is bad (omega (arith, place.0)))).1

pub unsafe-at : (xs : List code.Fact) (k : ℕ) (x : code.Fact) (r : ℕ) → k < length xs → x ≡ get_or xs k x
    → verdict (map fact_of xs) ≡ Verdict.Unsafe (k + 1) r
    → ByRule r (has_two_caches (fact_of x ∷ past_of (take k xs))) (is_stale_read (fact_of x) (past_of (take k xs)))
    (is_late_write (fact_of x) (past_of (take k xs))) (is_false_done (fact_of x) (past_of (take k xs)))
unfolding flaw_at
unsafe-at xs k x r inside is e =
    let bad : BadFrom 1 [] (map fact_of xs) (Verdict.Unsafe (k + 1) r) =
    bad-from 1 [] (map fact_of xs) (Verdict.Unsafe (k + 1) r) e (λ h. let no : ⊥ = cc in no) in
    let place : k + 1 ≡ 1 + length bad.before =
    (unsafe-of (1 + length bad.before) (k + 1) r (is_well_formed bad.fact (reverse_aux bad.before [])) _ _ _ _ bad.flaw).0 in
    (unsafe-of (1 + k) (k + 1) r (is_well_formed (fact_of x) (past_of (take k xs))) _ _ _ _
    (flaw-at xs k x (Verdict.Unsafe (k + 1) r) inside is bad (omega (arith, place)))).1

pub by-one : (r : ℕ) (t s l d : Bool) → r ≡ 1 → ByRule r t s l d → t ≡ true
by-one r t s l d e x7 = grind arith

pub by-two : (r : ℕ) (t s l d : Bool) → r ≡ 2 → ByRule r t s l d → s ≡ true
by-two r t s l d e x7 = grind arith

pub by-three : (r : ℕ) (t s l d : Bool) → r ≡ 3 → ByRule r t s l d → l ≡ true
by-three r t s l d e x7 = grind arith

pub by-four : (r : ℕ) (t s l d : Bool) → r ≡ 4 → ByRule r t s l d → d ≡ true
by-four r t s l d e x7 = grind arith

-- the reason of a fact is one of its place
pub reason-at : (xs : List code.Fact) (k : ℕ) (x : code.Fact) (broken : Option Rule) (told : Option Reason) → k < length xs
    → x ≡ get_or xs k x → Told (fact_of x) (past_of (take k xs)) broken told → IsReasonAt (map fact_of xs) (k + 1) broken told
reason-at xs k x broken told inside is t = record {
  before = map fact_of (take k xs);
  fact = fact_of x;
  later = map fact_of (drop (k + 1) xs);
  parts = parts-at xs k x inside is;
  place_is = ap (λ (n : ℕ). n + 1) (sym (length-before xs k inside));
  reason = t;
}

-- the place of a flaw is one of the record
pub place-inside : (xs : List code.Fact) (p r : ℕ) → verdict (map fact_of xs) ≡ Verdict.Unsafe p r → (1 ≤ p) × (p ≤ length xs)
unfolding flaw_at
place-inside xs p r e =
    let bad : BadFrom 1 [] (map fact_of xs) (Verdict.Unsafe p r) =
    bad-from 1 [] (map fact_of xs) (Verdict.Unsafe p r) e (λ h. let no : ⊥ = cc in no) in
    let place : p ≡ 1 + length bad.before =
    (unsafe-of (1 + length bad.before) p r (is_well_formed bad.fact (reverse_aux bad.before [])) _ _ _ _ bad.flaw).0 in
    let all : length xs ≡ length bad.before + length (bad.fact ∷ bad.later) =
    sym (length-map xs fact_of) ∙ (ap (λ (fs : List Fact). length fs) bad.parts ∙ length-append bad.before (bad.fact ∷ bad.later))
    in
    (omega arith, omega arith)

pub place-inside-malformed : (xs : List code.Fact) (p : ℕ) → verdict (map fact_of xs) ≡ Verdict.Malformed p → (1 ≤ p) × (p ≤
    length xs)
unfolding flaw_at
place-inside-malformed xs p e =
    let bad : BadFrom 1 [] (map fact_of xs) (Verdict.Malformed p) =
    bad-from 1 [] (map fact_of xs) (Verdict.Malformed p) e (λ h. let no : ⊥ = cc in no) in
    let place : p ≡ 1 + length bad.before =
    (malformed-of (1 + length bad.before) p (is_well_formed bad.fact (reverse_aux bad.before [])) _ _ _ _ bad.flaw).0 in
    let all : length xs ≡ length bad.before + length (bad.fact ∷ bad.later) =
    sym (length-map xs fact_of) ∙ (ap (λ (fs : List Fact). length fs) bad.parts ∙ length-append bad.before (bad.fact ∷ bad.later))
    in
    (omega arith, omega arith)
