-- What a reader gives of the bytes at a place where a context is due.
use Rattle.std.proofs.Common.{◌≡◌, ◌≢◌, ◌≤◌, ℕ, zero, suc, ◌+◌, ◌-◌, ◌==◌, if◌then◌else◌, false, List, [], ◌∷◌, length, drop}
use Rattle.std.proofs.Common.{Option, Some, None, Ok, Err, refl, arith, sym, ◌∙◌, inl, inr}
use Rattle.std.proofs.lemmas.Bool.Decides.{eqb_tells, nat_tests}
use Rattle.lease_wire.specs.Chain.{next_of, ContextView}
use Rattle.lease_wire.specs.Reading.{items_behind, item_before, layout_fault, header_fault, context_at, header_of}
use Rattle.lease_wire.specs.declared.fault.WireFault.{WireFault}
use Rattle.lease_wire.specs.declared.fault.WireFault.TheVariants.{Short}
use Rattle.lease_wire.specs.Field.{bytes_at}
use Rattle.lease_wire.specs.declared.chain.Header.{Header}
use Rattle.lease_wire.proofs.HeaderFacts.{short_fault, next_inside}

-- passing over bytes is beginning behind them
items_behind-skipped : (place skipped : ℕ) (bytes : List ℕ) → skipped ≤ length bytes
    → items_behind place skipped bytes ≡ items_behind place 0 (drop skipped bytes)
unfolding items_behind
items_behind-skipped place zero bytes within = refl
items_behind-skipped place (suc skipped) [] within = absurd (omega arith)
items_behind-skipped place (suc skipped) (byte ∷ bytes) within = items_behind-skipped place skipped bytes (omega arith)

fault_of_nothing : (place : ℕ) → layout_fault place [] ≡ Some (Short place)
unfolding layout_fault
fault_of_nothing place = short_fault place 0 (header_of []) (omega arith)

pub items_behind-fault : (place : ℕ) (bytes : List ℕ) (fault : WireFault) → layout_fault place bytes ≡ Some fault
    → items_behind place 0 bytes ≡ Err fault ∷ []
unfolding items_behind
items_behind-fault place [] fault e = let same : Some (Short place) ≡ Some fault = sym (fault_of_nothing place) ∙ e in cc
items_behind-fault place (byte ∷ bytes) fault e = rw e refl

pub items_behind-last : (place : ℕ) (bytes : List ℕ) → layout_fault place bytes ≡ None → next_of bytes ≡ 0
    → items_behind place 0 bytes ≡ Ok (context_at place bytes) ∷ []
unfolding items_behind
items_behind-last place [] e last = let same : Some (Short place) ≡ None = sym (fault_of_nothing place) ∙ e in cc
items_behind-last place (byte ∷ bytes) e last = rw (e, last) refl

next_within : (place : ℕ) (bytes : List ℕ) → layout_fault place bytes ≡ None → next_of bytes ≤ length bytes
unfolding layout_fault
next_within place bytes e = next_inside place (length bytes) (header_of bytes) e

pub items_behind-more : (place : ℕ) (bytes : List ℕ) → layout_fault place bytes ≡ None → next_of bytes ≢ 0
    → items_behind place 0 bytes ≡ Ok (context_at place bytes)
    ∷ items_behind (place + next_of bytes) 0 (drop (next_of bytes) bytes)
unfolding items_behind
items_behind-more place [] e more = let same : Some (Short place) ≡ None = sym (fault_of_nothing place) ∙ e in cc
items_behind-more place (byte ∷ bytes) e more =
    let within = next_within place (byte ∷ bytes) e in
    more_of (next_of (byte ∷ bytes)) refl within
  where
    more_of : (next : ℕ) → next_of (byte ∷ bytes) ≡ next → next ≤ suc (length bytes)
        → item_before (layout_fault place (byte ∷ bytes)) (context_at place (byte ∷ bytes)) (next_of (byte ∷ bytes))
        (items_behind (place + next_of (byte ∷ bytes)) (next_of (byte ∷ bytes) - 1) bytes) ≡ Ok (context_at place (byte ∷ bytes))
        ∷ items_behind (place + next_of (byte ∷ bytes)) 0 (drop (next_of (byte ∷ bytes)) (byte ∷ bytes))
    more_of zero is within = absurd (more is)
    more_of (suc next) is within =
        let less : suc next - 1 ≡ next = omega arith in
        let skip = items_behind-skipped (place + suc next) next bytes (omega arith) in
        let far : (suc next == 0) ≡ false = grind (arith, nat_tests) in
        rw (e, is, less, skip, far) refl

-- the three together
pub items_behind-read : (place next : ℕ) (bytes : List ℕ) (context : ContextView) → layout_fault place bytes ≡ None
    → context ≡ context_at place bytes → next ≡ next_of bytes
    → items_behind place 0 bytes ≡ Ok context ∷ (if next == 0 then [] else items_behind (place + next) 0 (drop next bytes))
items_behind-read place next bytes context none is_context is_next = elim (eqb_tells (next_of bytes) 0) [
  | inl last ↦ rw (is_context, is_next, last.0) (items_behind-last place bytes none last.1)
  | inr more ↦ rw (is_context, is_next, more.0) (items_behind-more place bytes none more.1)
]

-- the tests of a header that was read
pub layout_fault-read : (place : ℕ) (bytes : List ℕ) (h : Header) (answer : Option WireFault) → h ≡ header_of bytes
    → header_fault place (length bytes) h ≡ answer → layout_fault place bytes ≡ answer
unfolding layout_fault
layout_fault-read place bytes h answer read e = rw (← read) e

-- the parts that were cut by a header that was read
pub context_at-read : (place : ℕ) (bytes name body : List ℕ) (h : Header) → h ≡ header_of bytes
    → name ≡ bytes_at h.name_offset h.name_length bytes → body ≡ bytes_at h.data_offset h.data_length bytes
    → record { place = place; name = name; body = body } ≡ context_at place bytes
unfolding context_at
context_at-read place bytes name body h read is_name is_body = rw (is_name, is_body, read) refl

pub next_of-read : (bytes : List ℕ) (h : Header) → h ≡ header_of bytes → h.next ≡ next_of bytes
next_of-read bytes h read = rw read refl
