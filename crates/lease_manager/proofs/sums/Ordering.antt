-- Keys in the order in which maps keep them: equal where they are one key, and less where the one is broken before.
use Rattle.lease_laws.proofs.Words.{◌∷◌, ◌≡◌, Key, List, None, Open, Option, Some, ℕ, [], arith, bytes_before, bytes_eq, false}
use Rattle.lease_laws.proofs.Words.{has_key, is_eq, is_key, is_some, key_before, key_eq, key_of_open, key_under, nat_cmp}
use Rattle.lease_laws.proofs.Words.{nat_tests, refl}
use Rattle.std.specs.Ordering.{is_lt}
use Rattle.std.specs.Cmp.Lexicographic.{slice_cmp}
use Rattle.lease_manager.specs.KeyOrder.{key_order}

pub bytes_same : (xs ys : List ℕ) → is_eq (slice_cmp nat_cmp xs ys) ≡ bytes_eq xs ys
bytes_same [] [] = refl
bytes_same [] (y ∷ ys) = refl
bytes_same (x ∷ xs) [] = refl
bytes_same (x ∷ xs) (y ∷ ys) = let e = bytes_same xs ys in grind (arith, nat_tests, e)

bytes_less : (xs ys : List ℕ) → is_lt (slice_cmp nat_cmp xs ys) ≡ bytes_before xs ys
unfolding bytes_before
bytes_less [] [] = refl
bytes_less [] (y ∷ ys) = refl
bytes_less (x ∷ xs) [] = refl
bytes_less (x ∷ xs) (y ∷ ys) = let e = bytes_less xs ys in grind (arith, nat_tests, e)

pub order_eq : (one other : Key) → is_eq (key_order one other) ≡ key_eq one other
unfolding key_eq
order_eq one other = let e = bytes_same one.bytes other.bytes in grind (arith, nat_tests, e)

pub order_before : (one other : Key) → is_lt (key_order one other) ≡ key_before one other
unfolding key_before
order_before one other = let e = bytes_less one.bytes other.bytes in grind (arith, nat_tests, e)

bytes_same-back : (xs ys : List ℕ) → is_eq (slice_cmp nat_cmp xs ys) ≡ bytes_eq ys xs
bytes_same-back [] [] = refl
bytes_same-back [] (y ∷ ys) = refl
bytes_same-back (x ∷ xs) [] = refl
bytes_same-back (x ∷ xs) (y ∷ ys) = let e = bytes_same-back xs ys in grind (arith, nat_tests, e)

pub order_eq-back : (one other : Key) → is_eq (key_order one other) ≡ key_eq other one
unfolding key_eq
order_eq-back one other = let e = bytes_same-back one.bytes other.bytes in grind (arith, nat_tests, e)

-- whether an open has a key, by the key that it has
has_key_by : (client : ℕ) (bytes : Option (List ℕ)) (own key : Key) → key_under client bytes ≡ Some own
    → is_key key client bytes ≡ key_eq key own
unfolding key_eq
has_key_by client bytes own key e = grind arith

pub has_key_own : (one : Open) (own key : Key) → key_of_open one ≡ Some own → has_key key one ≡ key_eq key own
has_key_own one own key e = has_key_by one.client one.lease_key own key e

has_none_by : (client : ℕ) (bytes : Option (List ℕ)) (key : Key) → key_under client bytes ≡ None → is_key key client bytes ≡ false
has_none_by client bytes key e = grind arith

pub has_key_none : (one : Open) (key : Key) → key_of_open one ≡ None → has_key key one ≡ false
has_key_none one key e = has_none_by one.client one.lease_key key e

keyed_by : (client : ℕ) (bytes : Option (List ℕ)) → is_some (key_under client bytes) ≡ is_some bytes
keyed_by client bytes = grind arith

pub keyed : (one : Open) → is_some (key_of_open one) ≡ is_some one.lease_key
keyed one = keyed_by one.client one.lease_key
