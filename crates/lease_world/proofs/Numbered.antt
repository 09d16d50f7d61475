-- Writes by their numbers.
use Rattle.lease_laws.proofs.Words.{◌&&◌, ◌++◌, ◌+◌, ◌-◌, ◌<◌, ◌==◌, ◌∙◌, ◌∷◌, ◌≡◌, List, None, Some, ℕ, [], ap, arith}
use Rattle.lease_laws.proofs.Words.{get_or, if◌then◌else◌, length, length-append, length-set, nat_le, nat_lt, option_map}
use Rattle.lease_laws.proofs.Words.{slice_set, sym, true}
use Rattle.std.specs.List.{slice_get}
use Rattle.std.proofs.lemmas.Option.{slice_get-get_or}
use Rattle.lease_world.specs.judge.Clients.{HasWrites}
use Rattle.lease_world.specs.judge.Seen.{SeenWrite, no_writes, is_first, write_at}
use Rattle.lease_world.specs.judge.Seen.{write_by}
use Rattle.lease_facts.proofs.Places.{get-put, get-push}

-- ---- writes

-- numbers from 1 on, and places from 0 on
at_number : {X : Type 0} (n number count : ℕ) (a b c : X) → (nat_lt 0 number && nat_le number count) ≡ true
    → (if nat_lt 0 n && nat_le n count then (if n - 1 == number - 1 then a else b) else c)
    ≡ (if n == number then a else (if nat_lt 0 n && nat_le n count then b else c))
at_number n number count a b c within = grind arith

at_next : {X : Type 0} (n number count : ℕ) (a b c : X) → number ≡ count + 1
    → (if nat_lt 0 n && nat_le n number then (if n - 1 == count then a else b) else c)
    ≡ (if n == number then a else (if nat_lt 0 n && nat_le n count then b else c))
at_next n number count a b c next = grind arith

place_within : (number count : ℕ) → (nat_lt 0 number && nat_le number count) ≡ true → number - 1 < count
place_within number count e = grind arith

pub write-put : (first : List SeenWrite) (rest : List (ℕ × SeenWrite)) (number : ℕ) (write : SeenWrite)
    → is_first number (record { first = first; rest = rest }) ≡ true → HasWrites (record { first = first; rest = rest })
    (record { first = slice_set first (number - 1) write; rest = rest }) number (Some write)
unfolding write_at
write-put first rest number write within n =
    rw (length-set first (number - 1) write, get-put first (number - 1) write (n - 1) (place_within number (length first) within))
    (at_number n number (length first) (Some write) (slice_get first (n - 1)) (write_by n rest) within)

one_longer : (first : List SeenWrite) (write : SeenWrite) (number : ℕ) → number ≡ length first + 1
    → length (first ++ write ∷ []) ≡ number
one_longer first write number next = let e = length-append first (write ∷ []) in omega (arith, e, next)

pub write-push : (first : List SeenWrite) (rest : List (ℕ × SeenWrite)) (number : ℕ) (write : SeenWrite)
    → number ≡ length first + 1 → HasWrites (record { first = first; rest = rest })
    (record { first = first ++ write ∷ []; rest = rest }) number (Some write)
unfolding write_at
write-push first rest number write next n = rw (one_longer first write number next, get-push first write (n - 1))
    (at_next n number (length first) (Some write) (slice_get first (n - 1)) (write_by n rest) next)

-- the write of a number is changed where it stands
pub write-change : (first : List SeenWrite) (rest : List (ℕ × SeenWrite)) (number : ℕ) (write : SeenWrite)
    (change : SeenWrite → SeenWrite) → is_first number (record { first = first; rest = rest }) ≡ true
    → write ≡ get_or first (number - 1) write → HasWrites (record { first = first; rest = rest })
    (record { first = slice_set first (number - 1) (change write); rest = rest }) number
    (option_map change (write_at number (record { first = first; rest = rest })))
unfolding write_at
write-change first rest number write change within is n = rw there (write-put first rest number (change write) within n)
  where
    there : write_at number (record { first = first; rest = rest }) ≡ Some write
    there = rw within (slice_get-get_or first (number - 1) write (place_within number (length first) within) ∙ ap Some (sym is))

pub nothing_written : (number : ℕ) → write_at number no_writes ≡ None
unfolding write_at
nothing_written number = grind arith
