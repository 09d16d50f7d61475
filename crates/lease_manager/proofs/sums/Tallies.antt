-- How counts of opens change with one open more or less, and what they tell.
use Rattle.lease_laws.proofs.Words.{◌&&◌, ◌++◌, ◌+◌, ◌||◌, ◌∙◌, ◌∷◌, ◌≡◌, ◌≤◌, Access, Bool, List, Open, Share, [], allowed_by}
use Rattle.lease_laws.proofs.Words.{ap, ap₂, arith, conflict, false, if◌then◌else◌, length, list_any, nat_tests, not, refl, sym}
use Rattle.lease_laws.proofs.Words.{uses_of}
use Rattle.lease_manager.specs.Tallies.{count, tally_of, tally_conflicts, is_counted}
use Rattle.lease_manager.specs.declared.tables.tally.Tally.{Tally}

pub count_more : (test : Open → Bool) (before behind : List Open) (one : Open)
    → count test (before ++ one ∷ behind) ≡ count test (before ++ behind) + (if test one then 1 else 0)
count_more test [] behind one = grind (arith)
count_more test (x ∷ before) behind one = let e = count_more test before behind one in grind (arith, e)

pub any_more : (test : Open → Bool) (before behind : List Open) (one : Open)
    → list_any test (before ++ one ∷ behind) ≡ (test one || list_any test (before ++ behind))
any_more test [] behind one = refl
any_more test (x ∷ before) behind one = let e = any_more test before behind one in grind (arith, e)

pub any_counted : (test : Open → Bool) (opens : List Open) → list_any test opens ≡ is_counted (count test opens)
any_counted test [] = grind (arith, nat_tests)
any_counted test (one ∷ opens) = let e = any_counted test opens in grind (arith, nat_tests, e)

pub count_less : (test : Open → Bool) (opens : List Open) → count test opens ≤ length opens
count_less test [] = grind (arith)
count_less test (one ∷ opens) = let e = count_less test opens in grind (arith, e)

-- where no open passes

pub none_both : (test other : Open → Bool) (opens : List Open) → list_any test opens ≡ false
    → list_any (λ one. test one && other one) opens ≡ false
none_both test other [] none = refl
none_both test other (one ∷ opens) none = let later = none_both test other opens in grind arith

pub none_counted : (test : Open → Bool) (opens : List Open) → list_any test opens ≡ false → count test opens ≡ 0
none_counted test [] none = refl
none_counted test (one ∷ opens) none = let e = none_counted test opens in grind (arith, e)

abbrev none : Tally
none = record { opens = 0; reads = 0; writes = 0; refuses_reads = 0; refuses_writes = 0 }

pub none_tallied : (test : Open → Bool) (opens : List Open) → list_any test opens ≡ false → none ≡ tally_of test opens
none_tallied test opens nobody = rw (
  none_counted test opens nobody,
  none_counted _ opens (none_both test (λ one. (uses_of one.access).read) opens nobody),
  none_counted _ opens (none_both test (λ one. (uses_of one.access).write) opens nobody),
  none_counted _ opens (none_both test (λ one. not (allowed_by one.share).read) opens nobody),
  none_counted _ opens (none_both test (λ one. not (allowed_by one.share).write) opens nobody),
) refl

-- ---- conflicts

any_either : (test : Open → Bool) (one_test other_test : Open → Bool) (opens : List Open)
    → list_any (λ one. test one && (one_test one || other_test one)) opens
    ≡ (list_any (λ one. test one && one_test one) opens || list_any (λ one. test one && other_test one) opens)
any_either test one_test other_test [] = refl
any_either test one_test other_test (one ∷ opens) = let e = any_either test one_test other_test opens in grind (arith, e)

any_if : (test : Open → Bool) (b : Bool) (other : Open → Bool) (opens : List Open)
    → list_any (λ one. test one && (b && other one)) opens ≡ (b && list_any (λ one. test one && other one) opens)
any_if test b other [] = grind (arith)
any_if test b other (one ∷ opens) = let e = any_if test b other opens in grind (arith, e)

-- a conflict, by what either does and refuses
abbrev conflicts_by : Access → Share → Open → Bool
conflicts_by access share one = (not (allowed_by share).read && (uses_of one.access).read)
    || ((not (allowed_by share).write && (uses_of one.access).write)
    || (((uses_of access).read && not (allowed_by one.share).read)
    || ((uses_of access).write && not (allowed_by one.share).write)))

parts : (a b c d e f g h : Bool) → (not ((not a || b) && (not c || d)) || not ((not e || f) && (not g || h)))
    ≡ ((not f && e) || ((not h && g) || ((a && not b) || (c && not d))))
parts a b c d e f g h = grind (arith)

conflict_parts : (access : Access) (share : Share) (one : Open)
    → conflict access share one.access one.share ≡ conflicts_by access share one
conflict_parts access share one = grind arith

any_same : (test other : Open → Bool) (opens : List Open) → ((one : Open) → test one ≡ other one)
    → list_any test opens ≡ list_any other opens
any_same test other [] same = refl
any_same test other (one ∷ opens) same = rw (same one, any_same test other opens same) refl

pub conflicts_are : (access : Access) (share : Share) (test : Open → Bool) (opens : List Open)
    → tally_conflicts access share (tally_of test opens)
    ≡ list_any (λ one. test one && conflict access share one.access one.share) opens
conflicts_are access share test opens =
    let a = any_counted (λ one. test one && (uses_of one.access).read) opens in
    let b = any_counted (λ one. test one && (uses_of one.access).write) opens in
    let c = any_counted (λ one. test one && not (allowed_by one.share).read) opens in
    let d = any_counted (λ one. test one && not (allowed_by one.share).write) opens in
    let e = any_same (λ one. test one && conflict access share one.access one.share) _ opens
    (λ one. ap (λ x. test one && x) (conflict_parts access share one)) in
    let f = any_either test (λ one. not (allowed_by share).read && (uses_of one.access).read) _ opens in
    let g = any_either test (λ one. not (allowed_by share).write && (uses_of one.access).write) _ opens in
    let h = any_either test (λ one. (uses_of access).read && not (allowed_by one.share).read)
    (λ one. (uses_of access).write && not (allowed_by one.share).write) opens in
    let i = any_if test (not (allowed_by share).read) (λ one. (uses_of one.access).read) opens in
    let j = any_if test (not (allowed_by share).write) (λ one. (uses_of one.access).write) opens in
    let k = any_if test (uses_of access).read (λ one. not (allowed_by one.share).read) opens in
    let l = any_if test (uses_of access).write (λ one. not (allowed_by one.share).write) opens in
    sym (e ∙ f ∙ ap₂ ◌||◌ (i ∙ ap (λ x. not (allowed_by share).read && x) a)
    (g ∙ ap₂ ◌||◌ (j ∙ ap (λ x. not (allowed_by share).write && x) b)
    (h ∙ ap₂ ◌||◌ (k ∙ ap (λ x. (uses_of access).read && x) c) (l ∙ ap (λ x. (uses_of access).write && x) d))))
