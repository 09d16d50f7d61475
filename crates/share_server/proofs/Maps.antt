-- Maps by number, as functions.
use Rattle.lease_laws.proofs.Words.{◌==◌, ◌∙◌, ◌∷◌, ◌≡◌, List, None, Option, Some, Updates, ℕ, [], ap, arith, fun_ext, get}
use Rattle.lease_laws.proofs.Words.{is_at, map, nat_tests, put, refl, sym}
use Rattle.lease_laws.proofs.server.Lists.{either}
use Rattle.std.specs.BTreeMap.{BTreeMap}
use Rattle.std.specs.Map.{lookup}
use Rattle.std.specs.Ordering.{nat_cmp}
use Rattle.share_server.specs.Table.{at_number}

abbrev pub or_else : {X Y : Type 0} → (X → Y) → Y → Option X → Y
or_else f other None = other
or_else f other (Some x) = f x

at_key : (n m : ℕ) → is_at (nat_cmp n) m ≡ (n == m)
at_key n m = grind (arith, nat_tests)

found : {X Y : Type 0} (f : X → Y) (other : Y) (entries : List (ℕ × X)) (n : ℕ)
    → at_number other (map (λ entry. (entry.0, f entry.1)) entries) n ≡ or_else f other (lookup (is_at (nat_cmp n)) entries)
found f other [] n = refl
found f other (entry ∷ entries) n = either (n == entry.0)
    (λ at. rw (at_key n entry.0, at) refl)
    (λ off. rw (at_key n entry.0, off) (found f other entries n))

pub gets : {X Y : Type 0} (f : X → Y) (other : Y) (table : BTreeMap ℕ X) (n : ℕ)
    → at_number other (map (λ entry. (entry.0, f entry.1)) table.entries) n ≡ or_else f other (get nat_cmp table n)
gets f other table n = found f other table.entries n

pub changes : {X Y : Type 0} (f : X → Y) (other : Y) (before after : BTreeMap ℕ X) (key : ℕ) (value : Option X)
    → Updates nat_cmp before after key value
    → at_number other (map (λ entry. (entry.0, f entry.1)) after.entries)
    ≡ put (at_number other (map (λ entry. (entry.0, f entry.1)) before.entries)) key (or_else f other value)
unfolding put
changes f other before after key value updates = fun_ext (λ n. gets f other after n ∙ (either (n == key)
    (λ at. ap (or_else f other) (updates.0 n) ∙ rw (at_other key n, at) refl)
    (λ off. ap (or_else f other) (updates.0 n) ∙ rw (at_other key n, off) (sym (gets f other before n)))))
  where
    at_other : (n m : ℕ) → is_at (nat_cmp n) m ≡ (m == n)
    at_other n m = grind (arith, nat_tests)
