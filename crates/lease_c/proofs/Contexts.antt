-- What the fields of a context say of the text that they were read from.
use Rattle.std.proofs.Common.{◌≡◌, ◌≢◌, ℕ, ◌+◌, ◌-◌, ◌≤◌, ◌==◌, if◌then◌else◌, false, List, length, drop, take, None, refl}
use Rattle.std.proofs.Common.{arith, sym, ap, length-drop, inl, inr}
use Rattle.std.proofs.lemmas.Bool.Decides.{eqb_tells, nat_tests}
use Rattle.std.proofs.lemmas.List.{drop-drop}
use Rattle.lease_wire.specs.Field.{bytes_at}
use Rattle.lease_wire.specs.Chain.{next_of, name_offset_of, name_length_of, data_offset_of, data_length_of}
use Rattle.lease_wire.specs.Reading.{item_before, layout_fault, header_of, context_at}
use Rattle.lease_wire.proofs.HeaderFacts.{name_inside, data_inside}
use Rattle.lease_wire.proofs.Items.{items_behind-last, items_behind-more}
use Rattle.lease_c.specs.Context.{context_held, context_fields, fault_at, items_from}

-- bytes behind a place, counted from the text's start
part_at : (place offset count : ℕ) (text : List ℕ)
    → bytes_at (place + offset) count text ≡ bytes_at offset count (drop place text)
part_at place offset count text = ap (take count) (sym (drop-drop offset place text))

data_at : (place offset count : ℕ) (text : List ℕ)
    → bytes_at (if count == 0 then 0 else place + offset) count text ≡ bytes_at offset count (drop place text)
data_at place offset count text = elim (eqb_tells count 0) [
  | inl zero ↦ rw (zero.1) refl
  | inr more ↦ rw (more.0) (part_at place offset count text)
]

pub context_is_held : (place : ℕ) (text : List ℕ)
    → context_held place (context_fields place (drop place text)) text ≡ context_at place (drop place text)
unfolding context_at
context_is_held place text = rw (
  part_at place (name_offset_of (drop place text)) (name_length_of (drop place text)) text,
  data_at place (data_offset_of (drop place text)) (data_length_of (drop place text)) text,
) refl

pub name_is_within : (place : ℕ) (text : List ℕ) → place ≤ length text → fault_at place text ≡ None
    → (context_fields place (drop place text)).name_place + (context_fields place (drop place text)).name_length ≤ length text
unfolding layout_fault
name_is_within place text here none =
    let inside = name_inside place (length (drop place text)) (header_of (drop place text)) none in
    let left : length (drop place text) ≡ length text - place = length-drop place text in
    omega (arith, inside, left, here)

data_end : (place offset count left : ℕ) → (count ≢ 0 → offset + count ≤ left)
    → (if count == 0 then 0 else place + offset) + count ≤ place + left
data_end place offset count left inside = grind arith

pub data_is_within : (place : ℕ) (text : List ℕ) → place ≤ length text → fault_at place text ≡ None
    → (context_fields place (drop place text)).data_place + (context_fields place (drop place text)).data_length ≤ length text
unfolding layout_fault
data_is_within place text here none =
    let end = data_end place (data_offset_of (drop place text)) (data_length_of (drop place text)) (length (drop place text))
    (data_inside place (length (drop place text)) (header_of (drop place text)) none) in
    let left : length (drop place text) ≡ length text - place = length-drop place text in
    omega (arith, end, left, here)

pub items_are_read : (place : ℕ) (text : List ℕ) → fault_at place text ≡ None
    → items_from place text ≡ item_before (fault_at place text) (context_held place (context_fields place (drop place text)) text)
    (context_fields place (drop place text)).next_place (items_from (context_fields place (drop place text)).next_place text)
items_are_read place text none = elim (eqb_tells (next_of (drop place text)) 0) [
  | inl last ↦ rw (none, context_is_held place text, last.0) (items_behind-last place (drop place text) none last.1)
  | inr more ↦
      let far : (place + next_of (drop place text) == 0) ≡ false = grind (arith, nat_tests, more.1) in
      rw (none, context_is_held place text, more.0, far, ← drop-drop (next_of (drop place text)) place text)
      (items_behind-more place (drop place text) none more.1)
]
