-- A client's seat that changes in its place, and a client that is called there.
use Rattle.lease_laws.proofs.Words.{◌+◌, ◌<◌, ◌==◌, ◌∙◌, ◌≡◌, ◌≢◌, List, ℕ, arith, false, get_or}
use Rattle.lease_laws.proofs.Words.{length, length-set, refl, slice_set, subst, suc, sym, true, zero}
use Rattle.lease_world.specs.world.Seats.{Seat, seat_in, no_seat, IsPresent, ChangesSeat}
use Rattle.lease_facts.proofs.Places.{value_put, value_there}

same_number : (n : ℕ) → (n == n) ≡ true
same_number n = grind arith

other_number : (n m : ℕ) → suc n ≢ suc m → (n == m) ≡ false
other_number n m ne = grind (arith, ne)

set_in_place : (Changes : Seat → Seat → Type 0) (seats : List Seat) (place : ℕ) (read new : Seat) → place < length seats
    → read ≡ get_or seats place read → Changes read new → ChangesSeat Changes (suc place) seats (slice_set seats place new)
set_in_place Changes seats place read new inside is changes = (
  subst (λ (s : Seat). Changes (seat_in seats (suc place)) s)
      (sym (value_put no_seat seats place new place inside ∙ rw (same_number place) refl))
      (subst (λ (s : Seat). Changes s new) (value_there no_seat seats place read inside is) changes),
  others,
  length-set seats place new,
)
  where
    others : (n : ℕ) → n ≢ suc place → seat_in (slice_set seats place new) n ≡ seat_in seats n
    others zero ne = refl
    others (suc n) ne = value_put no_seat seats place new n inside ∙ rw (other_number n place ne) refl

-- the seat in the place of a number changes so
pub seat_changed : (Changes : Seat → Seat → Type 0) (seats : List Seat) (number place : ℕ) (read new : Seat)
    → place + 1 ≡ number → IsPresent number seats → read ≡ get_or seats place read → Changes read new
    → ChangesSeat Changes number seats (slice_set seats place new)
seat_changed Changes seats number place read new at there is changes =
    let next : suc place ≡ number = omega (arith, at) in
    subst (λ (n : ℕ). ChangesSeat Changes n seats (slice_set seats place new)) next
    (set_in_place Changes seats place read new (omega (arith, at, there.1)) is changes)

pub still_there : (old new : List Seat) (number : ℕ) → length new ≡ length old → IsPresent number old → IsPresent number new
still_there old new number count there = (there.0, omega (arith, there.1, count))
