-- Covers that are linked, each to one that came before it, as stacks of layers.
use Rattle.lease_laws.proofs.Words.{◌++◌, ◌+◌, ◌-◌, ◌<◌, ◌==◌, ◌∙◌, ◌∷◌, ◌≡◌, ◌≢◌, ◌≤◌, ◌⊎◌, Bool, List, None, Option, Some, ℕ}
use Rattle.lease_laws.proofs.Words.{[], add-one, ap, arith, cases_Bool, cases_lt, false, filter, get_or, if◌then◌else◌, inl, inr}
use Rattle.lease_laws.proofs.Words.{length, length-take-le, map, not, refl, slice_set, subst, suc, sym, take, true}
use Rattle.lease_laws.proofs.Words.{zero}
use Rattle.std.specs.List.{slice_get}
use Rattle.std.proofs.lemmas.Option.{slice_get-get_or}
use Rattle.lease_world.specs.declared.judging.covers.Cover.{Cover}
use Rattle.lease_world.specs.declared.judging.covers.Layer.{Layer}
use Rattle.lease_world.specs.judge.Covers.{stack_in, seen_byte, layers_of, layers_from, layers_under, IsOpenOnTop, IsUncovered}
use Rattle.lease_world.specs.judge.Covers.{EndsCovered, AreLinked, AreTops}
use Rattle.lease_world.specs.judge.Seen.{Numbers, is_among, is_open}
use Rattle.lease_facts.proofs.Places.{get-put, get-push}

-- ---- the layers from a cover down

same_layers : (under other : ℕ → List Layer) (found : Option Cover)
    → ((cover : Cover) → found ≡ Some cover → under cover.below ≡ other cover.below)
    → layers_of under found ≡ layers_of other found
same_layers under other found same = grind arith

-- more fuel than covers changes nothing
more_fuel : (covers : List Cover) (fuel more place : ℕ) → AreLinked covers → place ≤ fuel → place ≤ more
    → layers_from fuel covers place ≡ layers_from more covers place
unfolding layers_from
more_fuel covers zero zero zero linked few enough = refl
more_fuel covers zero (suc more) zero linked few enough = refl
more_fuel covers (suc fuel) zero zero linked few enough = refl
more_fuel covers (suc fuel) (suc more) zero linked few enough = refl
more_fuel covers zero more (suc place) linked few enough = absurd (omega (arith, few))
more_fuel covers (suc fuel) zero (suc place) linked few enough = absurd (omega (arith, enough))
more_fuel covers (suc fuel) (suc more) (suc place) linked few enough =
    same_layers (layers_from fuel covers) (layers_from more covers) (slice_get covers place)
    (λ cover is. let low = linked place cover is in
    more_fuel covers fuel more cover.below linked (omega (arith, low, few)) (omega (arith, low, enough)))

-- a cover that comes behind the others changes nothing of what lies under these
later_cover : (covers : List Cover) (one : Cover) (fuel place : ℕ) → AreLinked covers → place ≤ length covers
    → layers_from fuel (covers ++ one ∷ []) place ≡ layers_from fuel covers place
unfolding layers_from
later_cover covers one zero place linked inside = refl
later_cover covers one (suc fuel) zero linked inside = refl
later_cover covers one (suc fuel) (suc place) linked inside =
    let other : (place == length covers) ≡ false = grind (arith, inside) in
    let found : slice_get (covers ++ one ∷ []) place ≡ slice_get covers place = get-push covers one place ∙ rw other refl in
    ap (λ (o : Option Cover). layers_of (layers_from fuel (covers ++ one ∷ [])) o) found
    ∙ same_layers (layers_from fuel (covers ++ one ∷ [])) (layers_from fuel covers) (slice_get covers place)
    (λ cover is. let low = linked place cover is in later_cover covers one fuel cover.below linked (omega (arith, low, inside)))

pub under_later : (covers : List Cover) (one : Cover) (place : ℕ) → AreLinked covers → place ≤ length covers
    → layers_under (covers ++ one ∷ []) place ≡ layers_under covers place
under_later covers one place linked inside = later_cover covers one place place linked inside

-- the layers from the last cover down
pub under_last : (covers : List Cover) (one : Cover) (place : ℕ) → AreLinked covers → one.below ≤ length covers
    → place ≡ length covers + 1 → layers_under (covers ++ one ∷ []) place ≡ one.layer ∷ layers_under covers one.below
unfolding layers_from
under_last covers one place linked inside at = rw (at ∙ add-one (length covers)) (at_last (length covers) refl)
  where
    at_last : (n : ℕ) → n ≡ length covers → layers_under (covers ++ one ∷ []) (suc n) ≡ one.layer ∷ layers_under covers one.below
    at_last n is =
        let here : (n == length covers) ≡ true = grind (arith, is) in
        let found : slice_get (covers ++ one ∷ []) n ≡ Some one = get-push covers one n ∙ rw here refl in
        ap (λ (o : Option Cover). layers_of (layers_from n (covers ++ one ∷ [])) o) found
        ∙ ap (λ (ls : List Layer). one.layer ∷ ls) (later_cover covers one n one.below linked inside
        ∙ more_fuel covers n one.below one.below linked (omega (arith, is, inside)) (omega arith))

-- the layers from a cover down are its own and those under it
pub under_cover : (covers : List Cover) (place : ℕ) (cover : Cover) → AreLinked covers → slice_get covers place ≡ Some cover
    → layers_under covers (suc place) ≡ cover.layer ∷ layers_under covers cover.below
unfolding layers_from
under_cover covers place cover linked is =
    let low = linked place cover is in
    ap (λ (o : Option Cover). layers_of (layers_from place covers) o) is
    ∙ ap (λ (ls : List Layer). cover.layer ∷ ls) (more_fuel covers place cover.below cover.below linked low (omega arith))

pub none_under : (covers : List Cover) → layers_under covers 0 ≡ []
unfolding layers_from
none_under covers = refl

-- ---- stacks by positions

abbrev found_under : List Cover → Option ℕ → List Layer
found_under covers None = []
found_under covers (Some top) = layers_under covers top

stack_found : (covers : List Cover) (tops : List ℕ) (position : ℕ)
    → stack_in (map (layers_under covers) tops) position ≡ found_under covers (slice_get tops position)
stack_found covers [] position = refl
stack_found covers (top ∷ tops) zero = refl
stack_found covers (top ∷ tops) (suc position) = stack_found covers tops position

pub stack_at : (covers : List Cover) (tops : List ℕ) (position top : ℕ) → slice_get tops position ≡ Some top
    → stack_in (map (layers_under covers) tops) position ≡ layers_under covers top
stack_at covers tops position top is = stack_found covers tops position ∙ ap (found_under covers) is

-- no layers stand in an empty place more
pub stack_more : (covers : List Cover) (tops : List ℕ) (position : ℕ)
    → stack_in (map (layers_under covers) (tops ++ 0 ∷ [])) position ≡ stack_in (map (layers_under covers) tops) position
stack_more covers [] zero = none_under covers
stack_more covers [] (suc position) = refl
stack_more covers (top ∷ tops) zero = refl
stack_more covers (top ∷ tops) (suc position) = stack_more covers tops position

-- another top at one position
pub stack_set : (covers : List Cover) (tops : List ℕ) (place top position : ℕ) → place < length tops
    → stack_in (map (layers_under covers) (slice_set tops place top)) position
    ≡ (if position == place then layers_under covers top else stack_in (map (layers_under covers) tops) position)
stack_set covers tops place top position inside = stack_found covers (slice_set tops place top) position
    ∙ (ap (found_under covers) (get-put tops place top position inside)
    ∙ (by_case (position == place) ∙ rw (sym (stack_found covers tops position)) refl))
  where
    by_case : (b : Bool) → found_under covers (if b then Some top else slice_get tops position)
        ≡ (if b then layers_under covers top else found_under covers (slice_get tops position))
    by_case b = grind arith

-- the same tops among more covers
pub stack_later : (covers : List Cover) (one : Cover) (tops : List ℕ) (position : ℕ) → AreLinked covers → AreTops covers tops
    → stack_in (map (layers_under (covers ++ one ∷ [])) tops) position ≡ stack_in (map (layers_under covers) tops) position
stack_later covers one tops position linked inside = stack_found (covers ++ one ∷ []) tops position
    ∙ (same (slice_get tops position) (λ top is. inside position top is) ∙ sym (stack_found covers tops position))
  where
    same : (found : Option ℕ) → ((top : ℕ) → found ≡ Some top → top ≤ length covers)
        → found_under (covers ++ one ∷ []) found ≡ found_under covers found
    same None within = refl
    same (Some top) within = under_later covers one top linked (within top refl)

-- ---- tops

pub tops_more : (covers : List Cover) (tops : List ℕ) → AreTops covers tops → AreTops covers (tops ++ 0 ∷ [])
tops_more covers tops inside position top is = elim (cases_Bool (position == length tops)) [
  | inl here ↦
      let same : Some 0 ≡ Some top = sym (get-push tops 0 position ∙ rw here refl) ∙ is in
      let it : 0 ≡ top = cc in omega (arith, it)
  | inr other ↦ inside position top (sym (get-push tops 0 position ∙ rw other refl) ∙ is)
]

pub tops_set : (covers : List Cover) (tops : List ℕ) (place top : ℕ) → place < length tops → top ≤ length covers
    → AreTops covers tops → AreTops covers (slice_set tops place top)
tops_set covers tops place top at low inside position other is = elim (cases_Bool (position == place)) [
  | inl here ↦
      let same : Some top ≡ Some other = sym (get-put tops place top position at ∙ rw here refl) ∙ is in
      let it : top ≡ other = cc in omega (arith, it, low)
  | inr apart ↦ inside position other (sym (get-put tops place top position at ∙ rw apart refl) ∙ is)
]

-- ---- what a loop finds

-- the cover at a place above 0
pub top_cover : (covers : List Cover) (top : ℕ) (other : Cover) → AreLinked covers → 0 < top → top ≤ length covers
    → (layers_under covers top
    ≡ (get_or covers (top - 1) other).layer ∷ layers_under covers (get_or covers (top - 1) other).below)
    × ((get_or covers (top - 1) other).below < top)
top_cover covers top other linked some inside =
    let cover : Cover = get_or covers (top - 1) other in
    let place : suc (top - 1) ≡ top = omega (arith, some) in
    let found : slice_get covers (top - 1) ≡ Some cover = slice_get-get_or covers (top - 1) other (omega (arith, some, inside)) in
    let low = linked (top - 1) cover found in (
      subst (λ (n : ℕ). layers_under covers n ≡ cover.layer ∷ layers_under covers cover.below) place
          (under_cover covers (top - 1) cover linked found),
      omega (arith, low, some),
    )

one_settled : (settled : Numbers) (layer : Layer) (layers : List Layer) → is_among layer.number settled ≡ true
    → filter (is_open settled) (layer ∷ layers) ≡ filter (is_open settled) layers
one_settled settled layer layers e = rw e refl

-- the cover's write is settled: what lies under it is as good
pub goes_down : (settled : Numbers) (covers : List Cover) (first top : ℕ) (other : Cover) → AreLinked covers → 0 < top
    → top ≤ length covers → is_among (get_or covers (top - 1) other).layer.number settled ≡ true
    → filter (is_open settled) (layers_under covers top) ≡ filter (is_open settled) (layers_under covers first)
    → ((get_or covers (top - 1) other).below ≤ length covers)
    × (filter (is_open settled) (layers_under covers (get_or covers (top - 1) other).below)
    ≡ filter (is_open settled) (layers_under covers first))
goes_down settled covers first top other linked some inside off so_far =
    let cover : Cover = get_or covers (top - 1) other in
    let found = top_cover covers top other linked some inside in (
      omega (arith, found.1, inside),
      sym (ap (λ (ls : List Layer). filter (is_open settled) ls) found.0
          ∙ one_settled settled cover.layer (layers_under covers cover.below) off) ∙ so_far,
    )

-- the cover's write isn't settled
pub stays_open : (settled : Numbers) (covers : List Cover) (first top : ℕ) (other : Cover) → AreLinked covers → 0 < top
    → top ≤ length covers → is_among (get_or covers (top - 1) other).layer.number settled ≡ false
    → filter (is_open settled) (layers_under covers top) ≡ filter (is_open settled) (layers_under covers first)
    → IsUncovered (is_open settled) (layers_under covers first) (layers_under covers top)
stays_open settled covers first top other linked some inside on so_far =
    let found = top_cover covers top other linked some inside in (
      subst (λ (ls : List Layer). IsOpenOnTop (is_open settled) ls) (sym found.0) (ap not on),
      so_far,
    )

pub nothing_on_top : (settled : Numbers) (covers : List Cover) (first top : ℕ) → top ≡ 0
    → filter (is_open settled) (layers_under covers top) ≡ filter (is_open settled) (layers_under covers first)
    → IsUncovered (is_open settled) (layers_under covers first) (layers_under covers top)
nothing_on_top settled covers first top none so_far =
    let empty : layers_under covers top ≡ [] = ap (λ (n : ℕ). layers_under covers n) none ∙ none_under covers in (
      subst (λ (ls : List Layer). IsOpenOnTop (is_open settled) ls) (sym empty) tt,
      so_far,
    )

-- ---- positions at the end

-- positions that nothing covers are dropped
pub stack_take : (covers : List Cover) (tops : List ℕ) (count position : ℕ) → ((n : ℕ) → count ≤ n → get_or tops n 0 ≡ 0)
    → stack_in (map (layers_under covers) (take count tops)) position ≡ stack_in (map (layers_under covers) tops) position
stack_take covers [] zero position none = refl
stack_take covers [] (suc count) position none = refl
stack_take covers (top ∷ tops) zero zero none =
    sym (ap (λ (n : ℕ). layers_under covers n) (none 0 (omega arith)) ∙ none_under covers)
stack_take covers (top ∷ tops) zero (suc position) none =
    let later = stack_take covers tops zero position (λ n le. none (suc n) (omega arith)) in grind arith
stack_take covers (top ∷ tops) (suc count) zero none = refl
stack_take covers (top ∷ tops) (suc count) (suc position) none =
    let later = stack_take covers tops count position (λ n le. none (suc n) (omega (arith, le))) in grind arith

-- the last position that is left has a layer
pub ends_covered : (covers : List Cover) (tops : List ℕ) (count : ℕ) → AreLinked covers → AreTops covers tops
    → count ≤ length tops
    → (count ≡ 0) ⊎ (get_or tops (count - 1) 0 ≢ 0) → EndsCovered (map (layers_under covers) (take count tops))
ends_covered covers tops count linked inside within (inl none) = grind arith
ends_covered covers tops count linked inside within (inr some) = elim (cases_lt 0 count) [
  | inr none ↦ inl (length_map (take count tops) ∙ (length-take-le count tops within ∙ omega (arith, none)))
  | inl more ↦ inr (λ empty.
      let top : ℕ = get_or tops (count - 1) 0 in
      let found : slice_get tops (count - 1) ≡ Some top = slice_get-get_or tops (count - 1) 0 (omega (arith, more, within)) in
      let size : length (map (layers_under covers) (take count tops)) ≡ count = length_map (take count tops)
      ∙ length-take-le count tops within in
      let low = inside (count - 1) top found in
      let stack = top_cover covers top (record { layer = record { number = 0; byte = 0 }; below = 0 }) linked
      (not_none top some) low in
      let here = stack_at covers (take count tops) (count - 1) top
      (still_there tops count (count - 1) top (omega (arith, more)) found) in
      let none = subst (λ (n : ℕ). stack_in (map (layers_under covers) (take count tops)) (n - 1) ≡ []) size empty in
      let nothing = sym stack.0 ∙ (sym here ∙ none) in
      let c : ⊥ = cc in absurd c)
]
  where
    length_map : (xs : List ℕ) → length (map (layers_under covers) xs) ≡ length xs
    length_map [] = refl
    length_map (x ∷ xs) = ap suc (length_map xs)

    not_none : (n : ℕ) → n ≢ 0 → 0 < n
    not_none n some = grind arith

    still_there : (xs : List ℕ) (count n x : ℕ) → n < count → slice_get xs n ≡ Some x → slice_get (take count xs) n ≡ Some x
    still_there xs zero n x lt e = absurd (omega (arith, lt))
    still_there [] (suc count) n x lt e = e
    still_there (y ∷ xs) (suc count) zero x lt e = e
    still_there (y ∷ xs) (suc count) (suc n) x lt e = still_there xs count n x (omega (arith, lt)) e

-- ---- a layer more

-- one layer more on top of a position
pub stack_cover : (covers : List Cover) (tops : List ℕ) (layer : Layer) (place below count position : ℕ)
    → AreLinked covers → AreTops covers tops → place < length tops → below ≡ get_or tops place below → count ≡ length covers + 1
    → stack_in (map (layers_under (covers ++ record { layer = layer; below = below } ∷ [])) (slice_set tops place count)) position
    ≡ (if position == place then layer ∷ stack_in (map (layers_under covers) tops) position
    else stack_in (map (layers_under covers) tops) position)
stack_cover covers tops layer place below count position linked inside within is next =
    let one : Cover = record { layer = layer; below = below } in
    let found : slice_get tops place ≡ Some below = slice_get-get_or tops place below within ∙ ap (λ (n : ℕ). Some n) (sym is) in
    stack_set (covers ++ one ∷ []) tops place count position within ∙ (ap (λ (ls : List Layer).
    if position == place then ls else stack_in (map (layers_under (covers ++ one ∷ [])) tops) position)
    (under_last covers one count linked (inside place below found) next)
    ∙ (ap (λ (ls : List Layer). if position == place then layer ∷ layers_under covers below else ls)
    (stack_later covers one tops position linked inside)
    ∙ by_case (position == place) (λ same. let at : position ≡ place = grind (arith, same) in
    sym (stack_at covers tops position below (ap (λ (n : ℕ). slice_get tops n) at ∙ found)))))
  where
    by_case : (b : Bool) → (b ≡ true → layers_under covers below ≡ stack_in (map (layers_under covers) tops) position)
        → (if b then layer ∷ layers_under covers below else stack_in (map (layers_under covers) tops) position)
        ≡ (if b then layer ∷ stack_in (map (layers_under covers) tops) position
        else stack_in (map (layers_under covers) tops) position)
    by_case b same = grind arith

-- the byte at a position
pub byte_here : (covers : List Cover) (tops : List ℕ) (base : List ℕ) (position top : ℕ) (other : Cover)
    → AreLinked covers → AreTops covers tops → position < length tops → top ≡ get_or tops position top → 0 < top
    → (get_or covers (top - 1) other).layer.byte ≡ seen_byte base (stack_in (map (layers_under covers) tops) position) position
byte_here covers tops base position top other linked inside within is some =
    let found : slice_get tops position ≡ Some top = slice_get-get_or tops position top within
    ∙ ap (λ (n : ℕ). Some n) (sym is) in
    ap (λ (ls : List Layer). seen_byte base ls position)
    (sym (stack_at covers tops position top found ∙ (top_cover covers top other linked some (inside position top found)).0))

pub byte_under : (covers : List Cover) (tops : List ℕ) (base : List ℕ) (position top : ℕ) → position < length tops
    → top ≡ get_or tops position top → top ≡ 0
    → get_or base position 0 ≡ seen_byte base (stack_in (map (layers_under covers) tops) position) position
byte_under covers tops base position top within is none =
    let found : slice_get tops position ≡ Some top = slice_get-get_or tops position top within
    ∙ ap (λ (n : ℕ). Some n) (sym is) in
    ap (λ (ls : List Layer). seen_byte base ls position)
    (sym (stack_at covers tops position top found ∙ (ap (λ (n : ℕ). layers_under covers n) none ∙ none_under covers)))

-- ---- one position more is uncovered

pub uncovers_one : (settled : Numbers) (covers : List Cover) (first now : List ℕ) (position top result n : ℕ)
    → position < length now
    → top ≡ get_or now position top → IsUncovered (is_open settled) (layers_under covers top) (layers_under covers result)
    → ((k : ℕ) → k < position → IsUncovered (is_open settled) (stack_in (map (layers_under covers) first) k)
    (stack_in (map (layers_under covers) now) k)) → ((k : ℕ) → position ≤ k
    → stack_in (map (layers_under covers) now) k ≡ stack_in (map (layers_under covers) first) k) → n < position + 1
    → IsUncovered (is_open settled) (stack_in (map (layers_under covers) first) n)
    (stack_in (map (layers_under covers) (slice_set now position result)) n)
uncovers_one settled covers first now position top result n inside is uncovers done rest below =
    subst (λ (ls : List Layer). IsUncovered (is_open settled) (stack_in (map (layers_under covers) first) n) ls)
    (sym (stack_set covers now position result n inside)) (by_case (n == position) refl)
  where
    here : n ≡ position → layers_under covers top ≡ stack_in (map (layers_under covers) first) n
    here at = sym (stack_at covers now n top (ap (λ (k : ℕ). slice_get now k) at
        ∙ (slice_get-get_or now position top inside ∙ ap (λ (k : ℕ). Some k) (sym is)))) ∙ rest n (omega (arith, at))

    by_case : (b : Bool) → (n == position) ≡ b → IsUncovered (is_open settled) (stack_in (map (layers_under covers) first) n)
        (if b then layers_under covers result else stack_in (map (layers_under covers) now) n)
    by_case true e = subst (λ (ls : List Layer). IsUncovered (is_open settled) ls (layers_under covers result))
        (here (grind (arith, e))) uncovers
    by_case false e = done n (grind (arith, e, below))

pub leaves_rest : (covers : List Cover) (first now : List ℕ) (position result n : ℕ) → position < length now
    → ((k : ℕ) → position ≤ k → stack_in (map (layers_under covers) now) k ≡ stack_in (map (layers_under covers) first) k)
    → position + 1 ≤ n
    → stack_in (map (layers_under covers) (slice_set now position result)) n ≡ stack_in (map (layers_under covers) first) n
leaves_rest covers first now position result n inside rest above =
    let other : (n == position) ≡ false = grind (arith, above) in
    stack_set covers now position result n inside ∙ (rw other refl ∙ rest n (omega (arith, above)))

-- where no position is left, each is as it was or uncovered
pub all_uncovered : (settled : Numbers) (covers : List Cover) (first now : List ℕ) (position n : ℕ) → length now ≤ position
    → ((k : ℕ) → k < position → IsUncovered (is_open settled) (stack_in (map (layers_under covers) first) k)
    (stack_in (map (layers_under covers) now) k)) → ((k : ℕ) → position ≤ k
    → stack_in (map (layers_under covers) now) k ≡ stack_in (map (layers_under covers) first) k)
    → IsUncovered (is_open settled) (stack_in (map (layers_under covers) first) n) (stack_in (map (layers_under covers) now) n)
all_uncovered settled covers first now position n past done rest = elim (cases_lt n position) [
  | inl below ↦ done n below
  | inr above ↦
      let none : stack_in (map (layers_under covers) now) n ≡ [] = nothing now n (omega (arith, past, above)) in (
        subst (λ (ls : List Layer). IsOpenOnTop (is_open settled) ls) (sym none) tt,
        ap (λ (ls : List Layer). filter (is_open settled) ls) (rest n above),
      )
]
  where
    nothing : (xs : List ℕ) (k : ℕ) → length xs ≤ k → stack_in (map (layers_under covers) xs) k ≡ []
    nothing [] k past = refl
    nothing (x ∷ xs) zero past = absurd (omega (arith, past))
    nothing (x ∷ xs) (suc k) past = nothing xs k (omega (arith, past))

pub truncated : (settled : Numbers) (covers : List Cover) (old now left : List ℕ) (count position : ℕ) → left ≡ take count now
    → ((n : ℕ) → count ≤ n → get_or now n 0 ≡ 0)
    → IsUncovered (is_open settled) (stack_in (map (layers_under covers) old) position)
    (stack_in (map (layers_under covers) now) position)
    → IsUncovered (is_open settled) (stack_in (map (layers_under covers) old) position)
    (stack_in (map (layers_under covers) left) position)
truncated settled covers old now left count position is none uncovers =
    subst (λ (ls : List Layer). IsUncovered (is_open settled) (stack_in (map (layers_under covers) old) position) ls)
    (sym (ap (λ (xs : List ℕ). stack_in (map (layers_under covers) xs) position) is
    ∙ stack_take covers now count position none)) uncovers

-- with no position left it doesn't matter what the covers are
pub cleared : (covers other : List Cover) (left : List ℕ) (position : ℕ) → length left ≡ 0
    → stack_in (map (layers_under covers) left) position ≡ stack_in (map (layers_under other) left) position
cleared covers other [] position none = refl
cleared covers other (top ∷ left) position none = absurd (omega (arith, none))

pub position_inside : (covers : List Cover) (tops : List ℕ) (stacks : List (List Layer)) (position : ℕ)
    → map (layers_under covers) tops ≡ stacks → position < length stacks → position < length tops
position_inside covers tops stacks position is inside =
    subst (λ (n : ℕ). position < n) (ap (λ (s : List (List Layer)). length s) (sym is) ∙ as_long tops) inside
  where
    as_long : (xs : List ℕ) → length (map (layers_under covers) xs) ≡ length xs
    as_long [] = refl
    as_long (x ∷ xs) = ap suc (as_long xs)
