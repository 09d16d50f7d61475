-- Writes in a queue whose numbers rise: where a number is, and what stays true as writes come and go.
use Rattle.lease_laws.proofs.Words.{◌+◌, ◌++◌, ◌-◌, ◌<◌, ◌∙◌, ◌∷◌, ◌≡◌, ◌≤◌, Bool, List, None, Option, Pending, Some, [], ℕ, arith}
use Rattle.lease_laws.proofs.Words.{cond, filter, get_or, is_numbered, is_some, length, list_all, list_any, nat_tests, option_map}
use Rattle.lease_laws.proofs.Words.{refl, suc, sym, take, true, without}
use Rattle.lease_laws.proofs.Words.{cases_lt, length-append, zero, ⊎_elim, ◌≢◌}
use Rattle.std.proofs.lemmas.List.{get_or_default}
use Rattle.std.proofs.lemmas.List.Edits.{get_or-remove_above, get_or-remove_below, length-remove}
use Rattle.std.specs.List.{position, remove}
use Rattle.lease_client.specs.Writes.{AreKept, IsRising, IsShownIfAny}
use Rattle.lease_client.specs.declared.writes.shown.Shown.{Shown}

-- ---- where a number is

abbrev place_in : ℕ → List Pending → Option ℕ
place_in number [] = None
place_in number (write ∷ writes) = cond (is_numbered number write) (Some 0) (option_map (λ n. suc n) (place_in number writes))

place_is : (number : ℕ) (writes : List Pending) → position (is_numbered number) writes ≡ place_in number writes
place_is number [] = refl
place_is number (write ∷ writes) = let e = place_is number writes in grind (arith, nat_tests, e)

-- no write before the place has the number, and the one there has it
first_place : (number : ℕ) (writes : List Pending) (d : Pending) (place : ℕ) → place < length writes
    → ((k : ℕ) → k < place → (get_or writes k d).number < number) → (get_or writes place d).number ≡ number
    → place_in number writes ≡ Some place
first_place number [] d place within below here = elim within [ ]
first_place number (write ∷ writes) d zero within below here = grind (arith, nat_tests, here)
first_place number (write ∷ writes) d (suc place) within below here =
    let not_first = below 0 (omega arith) in
    let e = first_place number writes d place (omega (arith, within)) (λ k lt. below (suc k) (omega (arith, lt))) here in
    grind (arith, nat_tests, e, not_first)

-- those before the place have a lower number, and those from it on a higher one
no_place : (number : ℕ) (writes : List Pending) (d : Pending) (place : ℕ)
    → ((k : ℕ) → k < place → k < length writes → (get_or writes k d).number < number)
    → ((k : ℕ) → place ≤ k → k < length writes → number < (get_or writes k d).number)
    → place_in number writes ≡ None
no_place number [] d place below above = refl
no_place number (write ∷ writes) d zero below above =
    let first = above 0 (omega arith) (omega arith) in
    let e = no_place number writes d zero (λ k lt within. below (suc k) (omega (arith, lt)) (omega (arith, within)))
    (λ k le within. above (suc k) (omega arith) (omega (arith, within))) in
    grind (arith, nat_tests, e, first)
no_place number (write ∷ writes) d (suc place) below above =
    let first = below 0 (omega arith) (omega arith) in
    let e = no_place number writes d place (λ k lt within. below (suc k) (omega (arith, lt)) (omega (arith, within)))
    (λ k le within. above (suc k) (omega (arith, le)) (omega (arith, within))) in
    grind (arith, nat_tests, e, first)

pub found_at : (number : ℕ) (writes : List Pending) (d : Pending) (place : ℕ) → place < length writes
    → ((k : ℕ) → k < place → (get_or writes k d).number < number) → (get_or writes place d).number ≡ number
    → position (is_numbered number) writes ≡ Some place
found_at number writes d place within below here =
    place_is number writes ∙ first_place number writes d place within below here

pub found_nowhere : (number : ℕ) (writes : List Pending) (d : Pending) (place : ℕ)
    → ((k : ℕ) → k < place → k < length writes → (get_or writes k d).number < number)
    → ((k : ℕ) → place ≤ k → k < length writes → number < (get_or writes k d).number)
    → position (is_numbered number) writes ≡ None
found_nowhere number writes d place below above =
    place_is number writes ∙ no_place number writes d place below above

has_is : (number : ℕ) (writes : List Pending) → list_any (is_numbered number) writes ≡ is_some (place_in number writes)
has_is number [] = refl
has_is number (write ∷ writes) = let e = has_is number writes in grind (arith, nat_tests, e)

pub is_there : (number : ℕ) (writes : List Pending) → is_some (position (is_numbered number) writes)
    ≡ list_any (is_numbered number) writes
is_there number writes = grind (arith, place_is number writes, has_is number writes)

none_some : (place : ℕ) → None ≡ Some place → ⊥
none_some place is = grind arith

within_in : (number : ℕ) (writes : List Pending) (place : ℕ) → place_in number writes ≡ Some place → place < length writes
within_in number [] place is = elim (none_some (place) is) [ ]
within_in number (write ∷ writes) zero is = omega arith
within_in number (write ∷ writes) (suc place) is =
    let e = within_in number writes place (grind (arith, nat_tests, is)) in omega (arith, e)

pub is_within : (number : ℕ) (writes : List Pending) (place : ℕ) → position (is_numbered number) writes ≡ Some place
    → place < length writes
is_within number writes place is = within_in number writes place (sym (place_is number writes) ∙ is)

pub here_is : (number : ℕ) (writes : List Pending) (place : ℕ) (write d : Pending) → place < length writes
    → write ≡ get_or writes place write → write.number ≡ number → (get_or writes place d).number ≡ number
here_is number writes place write d within is here = rw (get_or_default writes place d write within, ← is) here

-- the first number that isn't lower is another one, and so the later ones are higher
pub above_place : (number : ℕ) (writes : List Pending) (place : ℕ) (write d : Pending) → IsRising writes → place < length writes
    → write ≡ get_or writes place write → write.number ≢ number → number ≤ (get_or writes place d).number
    → (k : ℕ) → place ≤ k → k < length writes → number < (get_or writes k d).number
above_place number writes place write d rising within is other low k le lt =
    let up = rising place k d le lt in
    let apart : (get_or writes place d).number ≢ number = rw (get_or_default writes place d write within, ← is) other in
    grind (arith, up, apart, low)

-- ---- a write is put behind the others

pub last_below : (writes : List Pending) (last write : Pending) (n : ℕ) (d : Pending) → n ≡ length writes
    → last ≡ get_or writes (n - 1) last → 0 < length writes → last.number ≤ write.number
    → (get_or writes (length writes - 1) d).number ≤ write.number
last_below writes last write n d count is filled le =
    let there : last ≡ get_or writes (length writes - 1) last = rw (← count) is in
    rw (get_or_default writes (length writes - 1) d last (omega (arith, filled)), ← there) le

taken_more : (writes : List Pending) (write : Pending) (k : ℕ) → k ≤ length writes → take k (writes ++ write ∷ []) ≡ take k writes
taken_more writes write zero le = refl
taken_more [] write (suc k) le = elim le [ ]
taken_more (first ∷ writes) write (suc k) le = let e = taken_more writes write k (omega (arith, le)) in grind (arith, e)

shown_more : (writes : List Pending) (write : Pending) (seen : Option Shown) → IsShownIfAny writes seen
    → IsShownIfAny (writes ++ write ∷ []) seen
shown_more writes write None is = tt
shown_more writes write (Some shown) is = record {
  within = omega (arith, is.within, length-append writes (write ∷ []));
  over = rw (taken_more writes write shown.count is.within) is.over;
}

pub kept_more : (writes : List Pending) (write : Pending) (r b : Bool) (rising buffered : Bool) (seen : Option Shown)
    → AreKept writes r b seen → (rising ≡ true → IsRising (writes ++ write ∷ []))
    → (buffered ≡ true → list_all (λ w. w.buffered) (writes ++ write ∷ []) ≡ true)
    → AreKept (writes ++ write ∷ []) rising buffered seen
kept_more writes write r b rising buffered seen kept up full = record {
  rising = up;
  buffered = full;
  shown = shown_more writes write seen kept.shown;
}

-- ---- a write is taken out

rising_without : (writes : List Pending) (place : ℕ) → place < length writes → IsRising writes → IsRising (remove writes place)
rising_without writes place within up i j d le lt =
    let len = length-remove writes place within in
    let shorter : j + 1 < length writes = omega (arith, len, lt) in
    ⊎_elim
    (λ below. rw (get_or-remove_below writes place d j below within, get_or-remove_below writes place d i (omega (arith, le, below)) within)
    (up i j d le (omega (arith, shorter))))
    (λ above. ⊎_elim
    (λ below. rw (get_or-remove_above writes place d j above within, get_or-remove_below writes place d i below within)
    (up i (j + 1) d (omega (arith, le)) shorter))
    (λ over. rw (get_or-remove_above writes place d j above within, get_or-remove_above writes place d i over within)
    (up (i + 1) (j + 1) d (omega (arith, le)) shorter))
    (cases_lt i place))
    (cases_lt j place)

buffered_without : (writes : List Pending) (place : ℕ) → list_all (λ w. w.buffered) writes ≡ true
    → list_all (λ w. w.buffered) (remove writes place) ≡ true
buffered_without [] zero is = refl
buffered_without [] (suc place) is = refl
buffered_without (write ∷ writes) zero is = grind (arith, is)
buffered_without (write ∷ writes) (suc place) is =
    let e = buffered_without writes place (grind (arith, is)) in grind (arith, is, e)

pub kept_without : (writes : List Pending) (place : ℕ) (rising buffered : Bool) (seen next : Option Shown) → place < length writes
    → AreKept writes rising buffered seen → IsShownIfAny (remove writes place) next
    → AreKept (remove writes place) rising buffered next
kept_without writes place rising buffered seen next within kept shown = record {
  rising = λ is. rising_without writes place within (kept.rising is);
  buffered = λ is. buffered_without writes place (kept.buffered is);
  shown = shown;
}

-- ---- all are buffered

pub all_buffered : (writes : List Pending) → list_all (λ w. w.buffered) writes ≡ true
    → filter (λ (w : Pending). w.buffered) writes ≡ writes
all_buffered [] is = refl
all_buffered (write ∷ writes) is = let e = all_buffered writes (grind (arith, is)) in grind (arith, is, e)

pub none_through : (writes : List Pending) → list_all (λ w. w.buffered) writes ≡ true
    → without (λ (w : Pending). w.buffered) writes ≡ []
none_through [] is = refl
none_through (write ∷ writes) is = let e = none_through writes (grind (arith, is)) in grind (arith, is, e)
