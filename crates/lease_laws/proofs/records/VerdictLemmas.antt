-- The verdict, which computes, against what is promised.
use Rattle.lease_laws.proofs.Words.{◌&&◌, ◌+◌, ◌==◌, ◌||◌, ◌∙◌, ◌∷◌, ◌≡◌, ◌≢◌, Believer, Bool, EachBeginning, EachFact, Fact}
use Rattle.lease_laws.proofs.Words.{FreshRead, IsFalseDone, IsFirstBad, IsLateWrite, IsMalformed, IsStaleRead, List}
use Rattle.lease_laws.proofs.Words.{MakesTwoCaches, NoFalseDone, NoLateWrite, None, OneWriteCache, Option, Safe, Says}
use Rattle.lease_laws.proofs.Words.{Some, State, Verdict, WellFormed, ℕ, [], and_from, and_parts, ap, arith, believed, believers}
use Rattle.lease_laws.proofs.Words.{both_ways, bytes_decides, caches, caches_writes, cases_Bool, content_at, eq-eqb, eqb-true}
use Rattle.lease_laws.proofs.Words.{false, flaw_at, has_two_caches, holds_any, if◌then◌else◌, inl, inr, is_false_done, is_fresh}
use Rattle.lease_laws.proofs.Words.{is_good, is_late_write, is_rival, is_stale_read, is_well_formed, last_sending, length}
use Rattle.lease_laws.proofs.Words.{length-reverse, list_any, not, not-true, nothing_cached, or_cases, or_else, patches, refl}
use Rattle.lease_laws.proofs.Words.{reverse, reverse-reverse, reverse_aux, reverse_aux-eq, subst, sym, true, unanswered, verdict}
use Rattle.lease_laws.proofs.Words.{verdict_from}

-- ---- tests

holds_any-write : (s : State) → s.write ≡ true → holds_any s ≡ true
holds_any-write s w = grind arith

holds_any-none : (s : State) → holds_any s ≡ false → s ≡ nothing_cached
holds_any-none s h = grind arith

holds_any-not : (s : State) → s ≡ nothing_cached → holds_any s ≡ false
holds_any-not s e = ap (λ (x : State). holds_any x) e

-- ---- one write cache

abbrev believer : ℕ → ℕ → Believer
believer client file = record { client = client; file = file }

here_or_later : (t : Believer → Bool) (c f d g : ℕ) (same : Bool) → (d == c && g == f) ≡ same → (s old : State)
    → holds_any (if same then s else old) ≡ true → t (believer c f) ≡ true
    → (rest : Bool) → (holds_any old ≡ true → rest ≡ true) → (t (believer d g) || rest) ≡ true
here_or_later t c f d g same e s old holds passes rest later = grind arith

-- a client that believes something of a file is among the believers
any_believer : (t : Believer → Bool) (c f : ℕ) (past : List Fact)
    → holds_any (believed c f past) ≡ true → t (believer c f) ≡ true → list_any t (believers past) ≡ true
unfolding believed believers
any_believer t c f [] holds passes = absurd (both_ways _ refl holds)
any_believer t c f (Fact.Believes d g s ∷ past) holds passes =
    here_or_later t c f d g (d == c && g == f) refl s (believed c f past) holds passes
    (list_any t (believers past)) (λ h. any_believer t c f past h passes)
any_believer t c f (_ ∷ past) holds passes = any_believer t c f past holds passes

-- what is found among the believers is some client and file
found : (t : Believer → Bool) (xs : List Believer) → list_any t xs ≡ true → (one : Believer) × (t one ≡ true)
found t [] e = absurd (both_ways _ refl e)
found t (x ∷ xs) e = elim (or_cases (t x) (list_any t xs) e) [ inl here ↦ (x, here) | inr later ↦ found t xs later ]

rival_seen : (past : List Fact) (file client other : ℕ) → other ≢ client → is_good client past ≡ true
    → (believed client file past).write ≡ true → is_good other past ≡ true
    → holds_any (believed other file past) ≡ true → has_two_caches past ≡ true
unfolding has_two_caches
rival_seen past file client other ne good writes good_too holds =
    any_believer _ client file past (holds_any-write (believed client file past) writes) (and_from _ _ (and_from _ _ good writes)
    (any_believer (is_rival past (believer client file)) other file past holds
    (and_from _ _ (and_from _ _ (eq-eqb file file refl) (other_one other client ne)) (and_from _ _ good_too holds))))
  where
    other_one : (a b : ℕ) → a ≢ b → not (a == b) ≡ true
    other_one a b n = grind arith

pub one_cache-test : (past : List Fact) → has_two_caches past ≡ false → OneWriteCache past
one_cache-test past none_found file client other ne good writes good_too =
    elim (cases_Bool (holds_any (believed other file past))) [
      | inl holds ↦ absurd (both_ways _ none_found (rival_seen past file client other ne good writes good_too holds))
      | inr nothing ↦ holds_any-none (believed other file past) nothing
    ]

pub two_caches-test : (past : List Fact) → OneWriteCache past → has_two_caches past ≡ false
unfolding has_two_caches
two_caches-test past one = elim (cases_Bool (has_two_caches past)) [ inl two ↦ absurd (clash two) | inr none ↦ none ]
  where
    clash_of : (a : Believer) → (caches_writes past a && list_any (is_rival past a) (believers past)) ≡ true → ⊥
    clash_of a e =
        let parts : (caches_writes past a ≡ true) × (list_any (is_rival past a) (believers past) ≡ true) = and_parts _ _ e in
        let rival : (b : Believer) × (is_rival past a b ≡ true) = found (is_rival past a) (believers past) parts.1 in
        let b : Believer = rival.0 in
        let shapes : ((b.file == a.file && not (b.client == a.client)) ≡ true) × (caches past b ≡ true) = and_parts _ _ rival.1 in
        let names : (b.file == a.file ≡ true) × (not (b.client == a.client) ≡ true) = and_parts _ _ shapes.0 in
        let writes : (is_good a.client past ≡ true) × ((believed a.client a.file past).write ≡ true) = and_parts _ _ parts.0 in
        let holds : (is_good b.client past ≡ true)
        × (holds_any (believed b.client b.file past) ≡ true) = and_parts _ _ shapes.1 in
        let same : b.file ≡ a.file = eqb-true b.file a.file names.0 in
        let apart : b.client ≢ a.client = λ e. both_ways _ (not-true _ names.1) (eq-eqb b.client a.client e) in
        both_ways _ (holds_any-not (believed b.client b.file past)
        (rw same (one a.file a.client b.client apart writes.0 writes.1 holds.0))) holds.1

    clash : has_two_caches past ≡ true → ⊥
    clash two = clash_of (found _ (believers past) two).0 (found _ (believers past) two).1

-- ---- fresh cached reads

is_fresh-gives : (client file : ℕ) (bytes : List ℕ) (past : List Fact) (taken : Option (List Fact))
    → is_fresh client file bytes past taken ≡ true → (place : List Fact) × (taken ≡ Some place)
    × (bytes ≡ patches (content_at file past place) (unanswered client file past))
is_fresh-gives client file bytes past None e = absurd (both_ways _ refl e)
is_fresh-gives client file bytes past (Some place) e = (place, refl, (bytes_decides _ _).0 e)

is_fresh-from : (client file : ℕ) (bytes : List ℕ) (past : List Fact) (taken : Option (List Fact)) (place : List Fact)
    → taken ≡ Some place → bytes ≡ patches (content_at file past place) (unanswered client file past)
    → is_fresh client file bytes past taken ≡ true
is_fresh-from client file bytes past taken place at_place same = rw at_place ((bytes_decides _ _).1 same)

-- two tests, both of which must pass for a flaw
not_both : (a b : Bool) → (a && not b) ≡ false → a ≡ true → b ≡ true
not_both a b e x = grind arith

none_from : (a b : Bool) → (a ≡ true → b ≡ true) → (a && not b) ≡ false
none_from a b h = grind arith

fresh-test : (fact : Fact) (past : List Fact) → is_stale_read fact past ≡ false → FreshRead fact past
unfolding is_stale_read
fresh-test (Fact.CachedRead client file bytes) past e =
    λ good. is_fresh-gives client file bytes past (last_sending client past) (not_both _ _ e good)
fresh-test _ past e = tt

stale-test : (fact : Fact) (past : List Fact) → FreshRead fact past → is_stale_read fact past ≡ false
unfolding is_stale_read
stale-test (Fact.CachedRead client file bytes) past fresh = none_from _ _ (λ good.
    let f : (place : List Fact) × (last_sending client past ≡ Some place)
    × (bytes ≡ patches (content_at file past place) (unanswered client file past)) = fresh good in
    is_fresh-from client file bytes past (last_sending client past) f.0 f.1 f.2)
stale-test _ past fresh = refl

-- ---- late writes, false done

timely-test : (fact : Fact) (past : List Fact) → is_late_write fact past ≡ false → NoLateWrite fact past
unfolding is_late_write
timely-test fact past e = grind arith

late-test : (fact : Fact) (past : List Fact) → NoLateWrite fact past → is_late_write fact past ≡ false
unfolding is_late_write
late-test fact past timely = grind arith

not_false : (a b : Bool) → (not a && not b) ≡ false → a ≡ false → b ≡ true
not_false a b e x = grind arith

true_done-test : (fact : Fact) (past : List Fact) → is_false_done fact past ≡ false → NoFalseDone fact past
unfolding is_false_done
true_done-test fact past e = grind arith

false_done-test : (fact : Fact) (past : List Fact) → NoFalseDone fact past → is_false_done fact past ≡ false
unfolding is_false_done
false_done-test fact past true_done = grind arith

-- ---- one fact

record Sound (fact : Fact) (past : List Fact) : Type 0 where
  well_formed : WellFormed fact past
  one_write_cache : OneWriteCache (fact ∷ past)
  fresh_read : FreshRead fact past
  no_late_write : NoLateWrite fact past
  no_false_done : NoFalseDone fact past

flaw : ℕ → Bool → Bool → Bool → Bool → Bool → Verdict
flaw place well two stale late done = if not well then Verdict.Malformed place else (if two then Verdict.Unsafe place 1
    else (if stale then Verdict.Unsafe place 2 else (if late then Verdict.Unsafe place 3 else (if done then Verdict.Unsafe place 4
    else Verdict.Safe))))

none_of : (place : ℕ) (well two stale late done : Bool) → flaw place well two stale late done ≡ Verdict.Safe
    → (well ≡ true) × (two ≡ false) × (stale ≡ false) × (late ≡ false) × (done ≡ false)
unfolding flaw
none_of place well two stale late done e = grind arith

flaw-sound : (place : ℕ) (fact : Fact) (past : List Fact) → flaw_at place fact past ≡ Verdict.Safe → Sound fact past
unfolding flaw_at flaw
flaw-sound place fact past e =
    let n : (is_well_formed fact past ≡ true) × (has_two_caches (fact ∷ past) ≡ false) × (is_stale_read fact past ≡ false)
    × (is_late_write fact past ≡ false) × (is_false_done fact past ≡ false) =
    none_of place (is_well_formed fact past) (has_two_caches (fact ∷ past)) (is_stale_read fact past)
    (is_late_write fact past) (is_false_done fact past) e in
    record {
      well_formed = n.0;
      one_write_cache = one_cache-test (fact ∷ past) n.1;
      fresh_read = fresh-test fact past n.2;
      no_late_write = timely-test fact past n.3;
      no_false_done = true_done-test fact past n.4;
    }

sound-flaw : (place : ℕ) (fact : Fact) (past : List Fact) → Sound fact past → flaw_at place fact past ≡ Verdict.Safe
unfolding flaw_at
sound-flaw place fact past sound = rw (
  sound.well_formed,
  two_caches-test (fact ∷ past) sound.one_write_cache,
  stale-test fact past sound.fresh_read,
  late-test fact past sound.no_late_write,
  false_done-test fact past sound.no_false_done,
) refl

-- ---- the whole record

safe_first : (one other : Verdict) → or_else one other ≡ Verdict.Safe → (one ≡ Verdict.Safe) × (other ≡ Verdict.Safe)
safe_first one other e = grind arith

verdict-sound : (place : ℕ) (past facts : List Fact) → EachFact Sound past
    → verdict_from place past facts ≡ Verdict.Safe → EachFact Sound (reverse_aux facts past)
unfolding verdict_from
verdict-sound place past [] sound e = sound
verdict-sound place past (fact ∷ facts) sound e =
    let parts : (flaw_at place fact past ≡ Verdict.Safe) × (verdict_from (place + 1) (fact ∷ past) facts ≡ Verdict.Safe) =
    safe_first _ _ e in
    verdict-sound (place + 1) (fact ∷ past) facts (flaw-sound place fact past parts.0, sound) parts.1

-- of a longer past the shorter one is a part
later-sound : (past facts : List Fact) → EachFact Sound (reverse_aux facts past) → EachFact Sound past
later-sound past [] sound = sound
later-sound past (fact ∷ facts) sound = (later-sound (fact ∷ past) facts sound).1

sound-verdict : (place : ℕ) (past facts : List Fact) → EachFact Sound (reverse_aux facts past)
    → verdict_from place past facts ≡ Verdict.Safe
unfolding verdict_from
sound-verdict place past [] sound = refl
sound-verdict place past (fact ∷ facts) sound = rw (sound-flaw place fact past (later-sound (fact ∷ past) facts sound).0)
    (sound-verdict (place + 1) (fact ∷ past) facts sound)

each : {P Q : Fact → List Fact → Type 0} (past : List Fact) → ((fact : Fact) (before : List Fact) → P fact before → Q fact before)
    → EachFact P past → EachFact Q past
each [] step held = tt
each (fact ∷ past) step held = (step fact past held.0, each past step held.1)

nobody_yet : OneWriteCache []
unfolding believed
nobody_yet file client other ne good writes good_too = refl

beginnings : (past : List Fact) → EachFact Sound past → EachBeginning OneWriteCache past
beginnings [] sound = nobody_yet
beginnings (fact ∷ past) sound = (sound.0.one_write_cache, beginnings past sound.1)

joined_parts : (past : List Fact) → EachFact WellFormed past → EachBeginning OneWriteCache past → EachFact FreshRead past
    → EachFact NoLateWrite past → EachFact NoFalseDone past → EachFact Sound past
joined_parts [] w o f l d = tt
joined_parts (fact ∷ past) w o f l d = (
  record {
    well_formed = w.0;
    one_write_cache = o.0;
    fresh_read = f.0;
    no_late_write = l.0;
    no_false_done = d.0;
  },
  joined_parts past w.1 o.1 f.1 l.1 d.1,
)

pub verdict-safe : (facts : List Fact) → verdict facts ≡ Verdict.Safe → Safe facts
verdict-safe facts e =
    let sound : EachFact Sound (reverse_aux facts []) = verdict-sound 1 [] facts tt e in
    record {
      well_formed = each {P = Sound} {Q = WellFormed} (reverse_aux facts []) (λ x p s. s.well_formed) sound;
      one_write_cache = beginnings (reverse_aux facts []) sound;
      fresh_reads = each {P = Sound} {Q = FreshRead} (reverse_aux facts []) (λ x p s. s.fresh_read) sound;
      no_late_write = each {P = Sound} {Q = NoLateWrite} (reverse_aux facts []) (λ x p s. s.no_late_write) sound;
      no_false_done = each {P = Sound} {Q = NoFalseDone} (reverse_aux facts []) (λ x p s. s.no_false_done) sound;
    }

pub safe-verdict : (facts : List Fact) → Safe facts → verdict facts ≡ Verdict.Safe
safe-verdict facts safe = sound-verdict 1 [] facts
    (joined_parts (reverse_aux facts []) safe.well_formed safe.one_write_cache safe.fresh_reads safe.no_late_write
    safe.no_false_done)

-- ---- the first bad place

safe_before : (past : List Fact) → EachFact Sound past → Safe (reverse past)
safe_before past sound = verdict-safe (reverse past) (sound-verdict 1 [] (reverse past)
    (subst (λ (l : List Fact). EachFact Sound l) (sym (reverse-reverse past)) sound))

bad_here : (wrong : Fact → List Fact → Type 0) (place : ℕ) (fact : Fact) (past facts : List Fact)
    → place ≡ length past + 1 → EachFact Sound past → wrong fact past → IsFirstBad wrong (reverse_aux past (fact ∷ facts)) place
bad_here wrong place fact past facts at_place sound is_so = record {
  before = reverse past;
  fact = fact;
  later = facts;
  parts = reverse_aux-eq past (fact ∷ facts);
  place_is = at_place ∙ ap (λ (n : ℕ). n + 1) (sym (length-reverse past));
  safe_before = safe_before past sound;
  is_wrong = subst (λ (l : List Fact). wrong fact l) (sym (reverse-reverse past)) is_so;
}

tells : (place : ℕ) (fact : Fact) (past facts : List Fact) (rest : Verdict) → place ≡ length past + 1 → EachFact Sound past
    → (Sound fact past → Says (reverse_aux past (fact ∷ facts)) rest) → (well two stale late done : Bool)
    → is_well_formed fact past ≡ well → has_two_caches (fact ∷ past) ≡ two → is_stale_read fact past ≡ stale
    → is_late_write fact past ≡ late → is_false_done fact past ≡ done
    → Says (reverse_aux past (fact ∷ facts)) (or_else (flaw place well two stale late done) rest)
unfolding flaw
tells place fact past facts rest at_place sound goes_on false two stale late done w t s l d =
    bad_here IsMalformed place fact past facts at_place sound (both_ways _ w)
tells place fact past facts rest at_place sound goes_on true true stale late done w t s l d = inl (
  refl,
  bad_here MakesTwoCaches place fact past facts at_place sound (w, λ one. both_ways _ (two_caches-test (fact ∷ past) one) t),
)
tells place fact past facts rest at_place sound goes_on true false true late done w t s l d = inr (inl (
  refl,
  bad_here IsStaleRead place fact past facts at_place sound
      (w, one_cache-test (fact ∷ past) t, λ fresh. both_ways _ (stale-test fact past fresh) s),
))
tells place fact past facts rest at_place sound goes_on true false false true done w t s l d = inr (inr (inl (
  refl,
  bad_here IsLateWrite place fact past facts at_place sound
      (w, one_cache-test (fact ∷ past) t, fresh-test fact past s, λ timely. both_ways _ (late-test fact past timely) l),
)))
tells place fact past facts rest at_place sound goes_on true false false false true w t s l d = inr (inr (inr (
  refl,
  bad_here IsFalseDone place fact past facts at_place sound (
    w,
    one_cache-test (fact ∷ past) t,
    fresh-test fact past s,
    timely-test fact past l,
    λ true_done. both_ways _ (false_done-test fact past true_done) d,
  ),
)))
tells place fact past facts rest at_place sound goes_on true false false false false w t s l d = goes_on (record {
  well_formed = w;
  one_write_cache = one_cache-test (fact ∷ past) t;
  fresh_read = fresh-test fact past s;
  no_late_write = timely-test fact past l;
  no_false_done = true_done-test fact past d;
})

tells_from : (place : ℕ) (past facts : List Fact) → place ≡ length past + 1 → EachFact Sound past
    → Says (reverse_aux past facts) (verdict_from place past facts)
unfolding verdict_from flaw_at flaw
tells_from place past [] at_place sound = safe_before past sound
tells_from place past (fact ∷ facts) at_place sound =
    tells place fact past facts (verdict_from (place + 1) (fact ∷ past) facts) at_place sound
    (λ here. tells_from (place + 1) (fact ∷ past) facts (omega arith) (here, sound))
    (is_well_formed fact past) (has_two_caches (fact ∷ past)) (is_stale_read fact past)
    (is_late_write fact past) (is_false_done fact past) refl refl refl refl refl

pub verdict-says : (facts : List Fact) → Says facts (verdict facts)
verdict-says facts = tells_from 1 [] facts refl tt
