-- What the tests of a context's header say of its fields.
use Rattle.std.proofs.Common.{◌≡◌, ◌≢◌, ◌≤◌, ◌<◌, ◌%◌, ℕ, ◌+◌, Bool, true, false, ◌||◌, not, if◌then◌else◌, nat_lt}
use Rattle.std.proofs.Common.{Option, Some, None, refl, arith, inl, inr, rules}
use Rattle.std.proofs.lemmas.Bool.Decides.{nat_tests, eqb_tells}
use Rattle.lease_wire.specs.Reading.{header_fault, size_of}
use Rattle.lease_wire.specs.declared.fault.WireFault.{WireFault}
use Rattle.lease_wire.specs.declared.fault.WireFault.TheVariants.{Short}
use Rattle.lease_wire.specs.declared.chain.Header.{Header}

-- the fields of a header that fails no test
pub record HeaderFits (left : ℕ) (h : Header) : Type 0 where
  pub header : 16 ≤ left
  pub next : h.next ≢ 0 → (16 ≤ h.next) × (h.next % 8 ≡ 0) × (h.next ≤ left)
  pub name_behind : 16 ≤ h.name_offset
  pub name_within : h.name_offset + h.name_length ≤ size_of left h
  pub data_behind : h.data_length ≢ 0 → 16 ≤ h.data_offset
  pub data_within : h.data_length ≢ 0 → h.data_offset + h.data_length ≤ size_of left h

or_false : (a b : Bool) → (a || b) ≡ false → (a ≡ false) × (b ≡ false)
or_false a b e = grind arith

not_false : (a : Bool) → not a ≡ false → a ≡ true
not_false a e = grind arith

below_true : (m n : ℕ) → m < n → nat_lt m n ≡ true
below_true m n h = grind (arith, nat_tests)

pub header_fits : (place left : ℕ) (h : Header) → header_fault place left h ≡ None → HeaderFits left h
unfolding header_fault
header_fits place left h none = search rules

pub short_fault : (place left : ℕ) (h : Header) → left < 16 → header_fault place left h ≡ Some (Short place)
unfolding header_fault
short_fault place left h short = rw (below_true left 16 short) refl

size_inside : (left : ℕ) (h : Header) → HeaderFits left h → size_of left h ≤ left
size_inside left h fits = grind arith

pub name_inside : (place left : ℕ) (h : Header) → header_fault place left h ≡ None → h.name_offset + h.name_length ≤ left
name_inside place left h none =
    let fits = header_fits place left h none in
    let size = size_inside left h fits in
    let name = fits.name_within in
    omega arith

pub data_inside : (place left : ℕ) (h : Header) → header_fault place left h ≡ None → h.data_length ≢ 0
    → h.data_offset + h.data_length ≤ left
data_inside place left h none more =
    let fits = header_fits place left h none in
    let size = size_inside left h fits in
    let within = fits.data_within more in
    omega arith

pub next_inside : (place left : ℕ) (h : Header) → header_fault place left h ≡ None → h.next ≤ left
next_inside place left h none =
    let fits = header_fits place left h none in
    elim (eqb_tells h.next 0) [ inl zero ↦ rw (zero.1) (omega arith) | inr more ↦ (fits.next more.1).2 ]

-- and a header whose fields fit fails no test
none_of : (b : Bool) (fault : WireFault) (other : Option WireFault) → b ≡ false → other ≡ None
    → (if b then Some fault else other) ≡ None
none_of b fault other passes e = rw passes e

pub fitting_header : (place left : ℕ) (h : Header) → HeaderFits left h → header_fault place left h ≡ None
unfolding header_fault
fitting_header place left h fits = search rules
