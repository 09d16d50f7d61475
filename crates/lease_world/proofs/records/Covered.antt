-- Writes by the positions that they cover, and the bytes that they make.
use Rattle.lease_laws.proofs.Words.{◌&&◌, ◌++◌, ◌+◌, ◌-◌, ◌<◌, ◌==◌, ◌∙◌, ◌∷◌, ◌≡◌, ◌≢◌, ◌≤◌, Bool, List, Patch, ℕ, [], add-one}
use Rattle.lease_laws.proofs.Words.{ap, append-nil, append_assoc, arith, bytes_eq, bytes_eq-Decides, cases_Bool, cases_lt, cond}
use Rattle.lease_laws.proofs.Words.{drop, false, filter, filter-append, get_or, if◌then◌else◌, inl, inr, length, length-drop}
use Rattle.lease_laws.proofs.Words.{length-written, max, nat_le, nat_lt, patch, patches, refl, slice_index, suc, sym, take, true}
use Rattle.lease_laws.proofs.Words.{zero}
use Rattle.std.proofs.Common.{min}
use Rattle.std.specs.Prelude.{MatchBool}
use Rattle.std.proofs.lemmas.Grind.{same_number_lists}
use Rattle.std.proofs.lemmas.List.{take_all, get_or-drop}
use Rattle.lease_state.specs.Content.{end_of}
use Rattle.lease_state.proofs.ContentLemmas.{get_or-written}
use Rattle.lease_world.specs.declared.judging.covers.Layer.{Layer}
use Rattle.lease_world.specs.judge.Before.{patches_waiting}
use Rattle.lease_world.specs.judge.Covers.{layer_of, layers_at, stack_in, seen_byte, Shows, ShowsCovered, IsOpenOnTop}
use Rattle.lease_world.specs.judge.Covers.{EndsCovered}
use Rattle.lease_world.specs.judge.Seen.{Waiting}

-- ---- layers of several writes

pub layers_push : (position : ℕ) (writes : List Waiting) (write : Waiting)
    → layers_at position (writes ++ write ∷ []) ≡ layer_of position write ++ layers_at position writes
layers_push position [] write = sym (append-nil (layer_of position write))
layers_push position (first ∷ writes) write = let later = layers_push position writes write in grind arith

one_layer : (test : Layer → Bool) (covers passes : Bool) (layer : Layer) → test layer ≡ passes
    → filter test (if covers then layer ∷ [] else []) ≡ (if passes then (if covers then layer ∷ [] else []) else [])
one_layer test covers passes layer e = grind arith

layers_if : (position : ℕ) (passes : Bool) (write : Waiting) (writes : List Waiting)
    → layers_at position (cond passes (write ∷ writes) writes)
    ≡ layers_at position writes ++ (if passes then layer_of position write else [])
layers_if position true write writes = refl
layers_if position false write writes = sym (append-nil (layers_at position writes))

-- writes that are kept by their numbers have the layers that are kept so
pub layers_kept : (position : ℕ) (test : ℕ → Bool) (writes : List Waiting)
    → layers_at position (filter (λ write. test write.number) writes)
    ≡ filter (λ layer. test layer.number) (layers_at position writes)
layers_kept position test [] = refl
layers_kept position test (write ∷ writes) = layers_if position (test write.number) write (filter (λ w. test w.number) writes)
    ∙ (ap (λ (ls : List Layer). ls ++ (if test write.number then layer_of position write else []))
    (layers_kept position test writes)
    ∙ (ap (λ (ls : List Layer). filter (λ layer. test layer.number) (layers_at position writes) ++ ls)
    (sym (one_layer (λ layer. test layer.number) (nat_le write.patch.offset position && nat_lt position (end_of write.patch))
    (test write.number) (record { number = write.number; byte = slice_index write.patch.bytes (position - write.patch.offset) })
    refl)) ∙ sym (filter-append (λ layer. test layer.number) (layers_at position writes) (layer_of position write))))

-- ---- the byte at a position

patched_byte_by : (base : List ℕ) (o : ℕ) (d : List ℕ) (position : ℕ) (write : Waiting) → write.patch.offset ≡ o
    → write.patch.bytes ≡ d → get_or (patch base write.patch) position 0 ≡ seen_byte base (layer_of position write) position
patched_byte_by base o [] position write offset bytes = grind arith
patched_byte_by base o (b ∷ d) position write offset bytes = rw (bytes, offset) (get_or-written base o (b ∷ d) position
    ∙ by_cover (nat_le o position && nat_lt position (o + length (b ∷ d))))
  where
    by_cover : (c : Bool) → (if c then slice_index (b ∷ d) (position - o) else slice_index base position)
        ≡ seen_byte base (if c then record { number = write.number; byte = slice_index (b ∷ d) (position - o) } ∷ [] else [])
        position
    by_cover c = grind arith

patched_byte : (base : List ℕ) (position : ℕ) (write : Waiting)
    → get_or (patch base write.patch) position 0 ≡ seen_byte base (layer_of position write) position
patched_byte base position write = patched_byte_by base write.patch.offset write.patch.bytes position write refl refl

seen_under : (base other : List ℕ) (position : ℕ) (layers more : List Layer)
    → get_or other position 0 ≡ seen_byte base more position
    → seen_byte other layers position ≡ seen_byte base (layers ++ more) position
seen_under base other position layers more e = grind arith

-- a byte of a patched file is that of the last write that covers the position
pub patched_at : (base : List ℕ) (position : ℕ) (writes : List Waiting)
    → get_or (patches base (patches_waiting writes)) position 0 ≡ seen_byte base (layers_at position writes) position
patched_at base position [] = refl
patched_at base position (write ∷ writes) = patched_at (patch base write.patch) position writes
    ∙ seen_under base (patch base write.patch) position (layers_at position writes) (layer_of position write)
    (patched_byte base position write)

-- ---- the length

length_patch_by : (base : List ℕ) (one : Patch) (o : ℕ) (d : List ℕ) → one.offset ≡ o → one.bytes ≡ d
    → (length base ≤ length (patch base one)) × (0 < length d → length (patch base one) ≡ max (length base) (o + length d))
    × (length d ≡ 0 → length (patch base one) ≡ length base)
length_patch_by base one o [] offset bytes = rw bytes (omega arith, λ some. absurd (omega (arith, some)), λ none. refl)
length_patch_by base one o (b ∷ d) offset bytes =
    let long = length-written base o (b ∷ d) in
    rw (bytes, offset) (omega (arith, long), λ some. long, λ none. absurd (omega (arith, none)))

-- a position past the end of the patched file is covered by no byte of the patch
uncovered_by : (base : List ℕ) (write : Waiting) (position : ℕ) → length (patch base write.patch) ≤ position
    → layer_of position write ≡ []
uncovered_by base write position past =
    let long = length_patch_by base write.patch write.patch.offset write.patch.bytes refl refl in
    let outside : (nat_le write.patch.offset position && nat_lt position (end_of write.patch)) ≡ false =
    elim (cases_lt 0 (length write.patch.bytes)) [
      | inl some ↦ let is = long.1 some in grind (arith, is, past)
      | inr none ↦ grind (arith, none)
    ] in
    rw outside refl

-- patches make no file shorter
pub patched_longer : (base : List ℕ) (writes : List Waiting) → length base ≤ length (patches base (patches_waiting writes))
patched_longer base [] = omega arith
patched_longer base (write ∷ writes) =
    let one = (length_patch_by base write.patch write.patch.offset write.patch.bytes refl refl).0 in
    let rest = patched_longer (patch base write.patch) writes in
    omega (arith, one, rest)

pub none_past : (base : List ℕ) (writes : List Waiting) (position : ℕ) → length (patches base (patches_waiting writes)) ≤ position
    → layers_at position writes ≡ []
none_past base [] position past = refl
none_past base (write ∷ writes) position past =
    let rest = patched_longer (patch base write.patch) writes in
    rw (
      none_past (patch base write.patch) writes position past,
      uncovered_by base write position (omega (arith, rest, past)),
    ) refl

append_none : (first second : List Layer) → first ++ second ≡ [] → (first ≡ []) × (second ≡ [])
append_none [] second e = (refl, e)
append_none (layer ∷ first) second e = let c : ⊥ = cc in absurd c

covered_last : (write : Waiting) (position : ℕ) → write.patch.offset ≤ position → position < end_of write.patch
    → layer_of position write ≢ []
covered_last write position from below none = grind arith

patch_within : (base : List ℕ) (write : Waiting) (size : ℕ) → length base ≤ size
    → ((position : ℕ) → size ≤ position → layer_of position write ≡ []) → length (patch base write.patch) ≤ size
patch_within base write size fits none =
    let long = length_patch_by base write.patch write.patch.offset write.patch.bytes refl refl in
    elim (cases_lt 0 (length write.patch.bytes)) [
      | inl some ↦
          let is = long.1 some in
          elim (cases_lt size (end_of write.patch)) [
            | inl past ↦ absurd (covered_last write (end_of write.patch - 1) (omega (arith, some)) (omega (arith, some))
                (none (end_of write.patch - 1) (omega (arith, past))))
            | inr within ↦ omega (arith, is, fits, within)
          ]
      | inr empty ↦ let is = long.2 (omega (arith, empty)) in omega (arith, is, fits)
    ]

-- a patched file ends where its base and its layers do
pub patched_within : (base : List ℕ) (writes : List Waiting) (size : ℕ) → length base ≤ size
    → ((position : ℕ) → size ≤ position → layers_at position writes ≡ []) → length (patches base (patches_waiting writes)) ≤ size
patched_within base [] size fits none = fits
patched_within base (write ∷ writes) size fits none = patched_within (patch base write.patch) writes size
    (patch_within base write size fits
    (λ position past. (append_none (layers_at position writes) (layer_of position write) (none position past)).1))
    (λ position past. (append_none (layers_at position writes) (layer_of position write) (none position past)).0)

-- ---- stacks whose topmost layers are open

seen_open : (is_open : Layer → Bool) (base : List ℕ) (position : ℕ) (stack : List Layer) → IsOpenOnTop is_open stack
    → seen_byte base stack position ≡ seen_byte base (filter is_open stack) position
seen_open is_open base position stack top = grind arith

none_open : (is_open : Layer → Bool) (stack : List Layer) → IsOpenOnTop is_open stack → filter is_open stack ≡ [] → stack ≡ []
none_open is_open stack top none = grind arith

-- what covers the positions are these writes, as far as they are open
pub record CoversWith (is_open : Layer → Bool) (stacks : List (List Layer)) (writes : List Waiting) : Type 0 where
  pub tops : (position : ℕ) → IsOpenOnTop is_open (stack_in stacks position)
  pub left : (position : ℕ) → filter is_open (stack_in stacks position) ≡ layers_at position writes
  pub ends : EndsCovered stacks

past_stacks : (stacks : List (List Layer)) (position : ℕ) → length stacks ≤ position → stack_in stacks position ≡ []
past_stacks [] position past = refl
past_stacks (stack ∷ stacks) zero past = absurd (omega (arith, past))
past_stacks (stack ∷ stacks) (suc position) past = past_stacks stacks position (omega (arith, past))

stacks_within : (is_open : Layer → Bool) (base : List ℕ) (stacks : List (List Layer)) (writes : List Waiting)
    → CoversWith is_open stacks writes → length stacks ≤ length (patches base (patches_waiting writes))
stacks_within is_open base stacks writes is = elim is.ends [
  | inl none ↦ omega (arith, none)
  | inr some ↦ elim (cases_lt (length stacks - 1) (length (patches base (patches_waiting writes)))) [
    | inl inside ↦ omega (arith, inside)
    | inr past ↦
        absurd (some (none_open is_open (stack_in stacks (length stacks - 1)) (is.tops (length stacks - 1))
        (is.left (length stacks - 1) ∙ none_past base writes (length stacks - 1) past)))
  ]
]

patched_length : (is_open : Layer → Bool) (base : List ℕ) (stacks : List (List Layer)) (writes : List Waiting)
    → CoversWith is_open stacks writes → length (patches base (patches_waiting writes)) ≡ max (length base) (length stacks)
patched_length is_open base stacks writes is =
    let low = patched_longer base writes in
    let covered = stacks_within is_open base stacks writes is in
    let high = patched_within base writes (max (length base) (length stacks)) (omega arith)
    (λ position past. sym (is.left position)
    ∙ ap (λ (s : List Layer). filter is_open s) (past_stacks stacks position (omega (arith, past)))) in
    omega (arith, low, covered, high)

patched_seen : (is_open : Layer → Bool) (base : List ℕ) (stacks : List (List Layer)) (writes : List Waiting)
    → CoversWith is_open stacks writes → (position : ℕ) → get_or (patches base (patches_waiting writes)) position 0
    ≡ seen_byte base (stack_in stacks position) position
patched_seen is_open base stacks writes is position = patched_at base position writes
    ∙ sym (seen_open is_open base position (stack_in stacks position) (is.tops position)
    ∙ ap (λ (s : List Layer). seen_byte base s position) (is.left position))

shows_patched : (is_open : Layer → Bool) (base bytes : List ℕ) (stacks : List (List Layer)) (writes : List Waiting)
    → CoversWith is_open stacks writes → Shows base stacks bytes → bytes ≡ patches base (patches_waiting writes)
shows_patched is_open base bytes stacks writes is shows =
    same_number_lists bytes (patches base (patches_waiting writes)) (shows.long
    ∙ sym (patched_length is_open base stacks writes is))
    (λ position within. shows.each position within ∙ sym (patched_seen is_open base stacks writes is position))

patched_shows : (is_open : Layer → Bool) (base bytes : List ℕ) (stacks : List (List Layer)) (writes : List Waiting)
    → CoversWith is_open stacks writes → bytes ≡ patches base (patches_waiting writes) → Shows base stacks bytes
patched_shows is_open base bytes stacks writes is same = record {
  long = ap length same ∙ patched_length is_open base stacks writes is;
  each = λ position within. ap (λ (b : List ℕ). get_or b position 0) same ∙ patched_seen is_open base stacks writes is position;
}

-- whether bytes are shown is whether they are those of the patched file
pub shown_patched : (is_open : Layer → Bool) (base bytes : List ℕ) (stacks : List (List Layer)) (writes : List Waiting)
    (same : Bool) → CoversWith is_open stacks writes → MatchBool same (Shows base stacks bytes) (Shows base stacks bytes → ⊥)
    → same ≡ bytes_eq bytes (patches base (patches_waiting writes))
shown_patched is_open base bytes stacks writes true is shows =
    sym ((bytes_eq-Decides bytes (patches base (patches_waiting writes))).1 (shows_patched is_open base bytes stacks writes is
    shows))
shown_patched is_open base bytes stacks writes false is shows =
    elim (cases_Bool (bytes_eq bytes (patches base (patches_waiting writes)))) [
      | inl same ↦ absurd (shows (patched_shows is_open base bytes stacks writes is
          ((bytes_eq-Decides bytes (patches base (patches_waiting writes))).0 same)))
      | inr other ↦ sym other
    ]

-- ---- a write is laid

-- one byte more of a write covers its position
pub lays_one : (offset place position number : ℕ) (bytes : List ℕ) (layer : Layer) (first old new : List Layer)
    → layer ≡ record { number = number; byte = slice_index bytes place }
    → new ≡ (if position == offset + place then layer ∷ old else old)
    → old ≡ (if nat_le offset position && nat_lt position (offset + place)
    then record { number = number; byte = slice_index bytes (position - offset) } ∷ [] else []) ++ first
    → new ≡ (if nat_le offset position && nat_lt position (offset + (place + 1))
    then record { number = number; byte = slice_index bytes (position - offset) } ∷ [] else []) ++ first
lays_one offset place position number bytes layer first old new is put so_far = grind arith

take_more : (writes : List Waiting) (n : ℕ) (write : Waiting) → n < length writes → write ≡ get_or writes n write
    → take (suc n) writes ≡ take n writes ++ write ∷ []
take_more [] n write inside is = absurd (omega (arith, inside))
take_more (first ∷ writes) zero write inside is = ap (λ (w : Waiting). w ∷ []) (sym is)
take_more (first ∷ writes) (suc n) write inside is =
    let later = take_more writes n write (omega (arith, inside)) is in grind arith

filter_one : (test : Layer → Bool) (covers : Bool) (layer : Layer) (passes : Bool) → test layer ≡ passes
    → filter test (if covers then layer ∷ [] else []) ≡ (if passes then (if covers then layer ∷ [] else []) else [])
filter_one test covers layer passes e = one_layer test covers passes layer e

layers_next : (test : ℕ → Bool) (position n : ℕ) (writes : List Waiting) (write : Waiting) (passes : Bool) → n < length writes
    → write ≡ get_or writes n write → test write.number ≡ passes
    → filter (λ layer. test layer.number) (layers_at position (take (n + 1) writes))
    ≡ (if passes then layer_of position write else []) ++ filter (λ layer. test layer.number) (layers_at position (take n writes))
layers_next test position n writes write passes inside is e =
    ap (λ (ws : List Waiting). filter (λ layer. test layer.number) (layers_at position ws))
    (ap (λ (k : ℕ). take k writes) (add-one n) ∙ take_more writes n write inside is)
    ∙ (ap (λ (ls : List Layer). filter (λ layer. test layer.number) ls) (layers_push position (take n writes) write)
    ∙ (filter-append (λ layer. test layer.number) (layer_of position write) (layers_at position (take n writes))
    ∙ ap (λ (ls : List Layer). ls ++ filter (λ layer. test layer.number) (layers_at position (take n writes)))
    (filter_one (λ layer. test layer.number) (nat_le write.patch.offset position && nat_lt position (end_of write.patch)) _ passes
    e)))

-- the next write is laid where its number passes, and else left out
pub lays_next : (test : ℕ → Bool) (position n : ℕ) (writes : List Waiting) (write : Waiting) (first old new : List Layer)
    → n < length writes → write ≡ get_or writes n write → test write.number ≡ true → new ≡ layer_of position write ++ old
    → old ≡ filter (λ layer. test layer.number) (layers_at position (take n writes)) ++ first
    → new ≡ filter (λ layer. test layer.number) (layers_at position (take (n + 1) writes)) ++ first
lays_next test position n writes write first old new inside is e put so_far =
    put ∙ (ap (λ (ls : List Layer). layer_of position write ++ ls) so_far
    ∙ (sym (append_assoc (layer_of position write) (filter (λ layer. test layer.number) (layers_at position (take n writes)))
    first) ∙ ap (λ (ls : List Layer). ls ++ first) (sym (layers_next test position n writes write true inside is e))))

pub leaves_next : (test : ℕ → Bool) (position n : ℕ) (writes : List Waiting) (write : Waiting) (first old : List Layer)
    → n < length writes → write ≡ get_or writes n write → test write.number ≡ false
    → old ≡ filter (λ layer. test layer.number) (layers_at position (take n writes)) ++ first
    → old ≡ filter (λ layer. test layer.number) (layers_at position (take (n + 1) writes)) ++ first
leaves_next test position n writes write first old inside is e so_far =
    so_far ∙ ap (λ (ls : List Layer). ls ++ first) (sym (layers_next test position n writes write false inside is e))

-- ---- bytes that are compared

-- what is compared past the covered positions decides the rest
pub shows_rest : (base bytes : List ℕ) (stacks : List (List Layer)) (at k : ℕ) (same : Bool)
    → length bytes ≡ max (length base) (length stacks) → ShowsCovered base stacks bytes → at ≡ length stacks
    → k ≡ min at (length base) → same ≡ bytes_eq (take (length bytes - at) (drop at bytes)) (take (length base - k) (drop k base))
    → MatchBool same (Shows base stacks bytes) (Shows base stacks bytes → ⊥)
shows_rest base bytes stacks at k same long covered at-is k-min is = decided same (is
    ∙ (ap (λ (xs : List ℕ). bytes_eq xs (take (length base - k) (drop k base)))
    (take_all (length bytes - at) (drop at bytes) (omega (arith, length-drop {A = ℕ})) ∙ ap (λ (d : ℕ). drop d bytes) at-is)
    ∙ ap (λ (ys : List ℕ). bytes_eq (drop (length stacks) bytes) ys)
    (take_all (length base - k) (drop k base) (omega (arith, length-drop {A = ℕ})))))
  where
    k-is : k ≡ min (length stacks) (length base)
    k-is = k-min ∙ ap (λ (d : ℕ). min d (length base)) at-is

    behind : drop (length stacks) bytes ≡ drop k base → Shows base stacks bytes
    behind equal = record {
      long = long;
      each = λ position within. elim (cases_lt position (length stacks)) [
        | inl below ↦ covered position below
        | inr past ↦
            let at : length stacks + (position - length stacks) ≡ position = omega (arith, past) in
            let k-at : k ≡ length stacks = omega (arith, k-is, long, within, past) in
            let k-place : k + (position - length stacks) ≡ position = omega (arith, past, k-at) in
            ap (λ (i : ℕ). get_or bytes i 0) (sym at) ∙ (sym (get_or-drop (length stacks) bytes (position - length stacks) 0)
            ∙ (ap (λ (xs : List ℕ). get_or xs (position - length stacks) 0) equal
            ∙ (get_or-drop k base (position - length stacks) 0 ∙ (ap (λ (i : ℕ). get_or base i 0) k-place
            ∙ ap (λ (s : List Layer). seen_byte base s position) (sym (past_stacks stacks position past))))))
      ];
    }

    equal : Shows base stacks bytes → drop (length stacks) bytes ≡ drop k base
    equal shows = same_number_lists (drop (length stacks) bytes) (drop k base) (omega (arith, long, k-is, length-drop {A = ℕ}))
        (λ i within.
        let inside : length stacks + i < length bytes = omega (arith, within, length-drop {A = ℕ}) in
        let k-at : k ≡ length stacks = omega (arith, k-is, long, inside) in
        get_or-drop (length stacks) bytes i 0 ∙ (shows.each (length stacks + i) inside
        ∙ (ap (λ (s : List Layer). seen_byte base s (length stacks + i)) (past_stacks stacks (length stacks + i) (omega arith))
        ∙ (ap (λ (j : ℕ). get_or base (j + i) 0) (sym k-at) ∙ sym (get_or-drop k base i 0)))))

    decided : (b : Bool) → b ≡ bytes_eq (drop (length stacks) bytes) (drop k base)
        → MatchBool b (Shows base stacks bytes) (Shows base stacks bytes → ⊥)
    decided true e = behind ((bytes_eq-Decides (drop (length stacks) bytes) (drop k base)).0 (sym e))
    decided false e = λ shows.
        let on : bytes_eq (drop (length stacks) bytes) (drop k base) ≡ true =
        (bytes_eq-Decides (drop (length stacks) bytes) (drop k base)).1 (equal shows) in
        let c : ⊥ = cc in absurd c
