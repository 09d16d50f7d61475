-- The files of a client: which of them passes a test, and where none does.
use Rattle.lease_laws.proofs.Words.{◌&&◌, ◌==◌, ◌∙◌, ◌∷◌, ◌≡◌, Among, Bool, Client, List, None, Option, Some, ℕ, ⊎_elim, [], ap}
use Rattle.lease_laws.proofs.Words.{arith, eqb-true, false, file_where, find, inl, knows_file, nat_le, numbers_to, suc, true}
use Rattle.lease_laws.proofs.Words.{zero}
use Rattle.lease_laws.proofs.server.Lists.{if_cases, either, among_append, among_before, among_behind, find_has}

-- the numbers to n are at least 1 and at most n
pub numbers_known : (n file : ℕ) → Among file (numbers_to n) → (nat_le 1 file && nat_le file n) ≡ true
numbers_known zero file a = absurd a
numbers_known (suc n) file a = ⊎_elim
    (λ earlier. higher file n (numbers_known n file earlier))
    (λ last. ⊎_elim (λ same. ap (λ f. nat_le 1 f && nat_le f (suc n)) same ∙ (grind arith)) (λ never. absurd never) last)
    (among_append file (numbers_to n) (suc n ∷ []) a)
  where
    higher : (f m : ℕ) → (nat_le 1 f && nat_le f m) ≡ true → (nat_le 1 f && nat_le f (suc m)) ≡ true
    higher f m e = grind arith

-- the file that is found is known
pub found_known : (client : Client) (test : ℕ → Bool) (file : ℕ) → file_where client test ≡ Some file
    → knows_file client file ≡ true
found_known client test file e = numbers_known client.files file (find_has test file (numbers_to client.files) e).0

pub found_so : (client : Client) (test : ℕ → Bool) (file : ℕ) → file_where client test ≡ Some file → test file ≡ true
found_so client test file e = (find_has test file (numbers_to client.files) e).1

-- and a known file is among the numbers
pub among_numbers : (n file : ℕ) → (nat_le 1 file && nat_le file n) ≡ true → Among file (numbers_to n)
among_numbers zero file e = absurd (none file e)
  where
    none : (f : ℕ) → (nat_le 1 f && nat_le f 0) ≡ true → ⊥
    none f e = grind arith
among_numbers (suc n) file e = either (file == suc n)
    (λ last. among_behind file (numbers_to n) (suc n ∷ []) (inl (eqb-true file (suc n) last)))
    (λ before. among_before file (numbers_to n) (suc n ∷ []) (among_numbers n file (lower file n e before)))
  where
    lower : (f m : ℕ) → (nat_le 1 f && nat_le f (suc m)) ≡ true → (f == suc m) ≡ false → (nat_le 1 f && nat_le f m) ≡ true
    lower f m e g = grind arith

pub find_absent : {X : Type 0} (test : X → Bool) (x : X) (xs : List X) → find test xs ≡ None → Among x xs → test x ≡ false
find_absent test x [] none a = absurd a
find_absent {X} test x (y ∷ xs) none a = if_cases (λ (o : Option X). o ≡ None → test x ≡ false) (test y) (Some y)
    (find test xs) (λ found e. absurd (never y e))
    (λ other e. ⊎_elim (λ same. ap test same ∙ other) (λ later. find_absent test x xs e later) a) none
  where
    never : (z : X) → Some z ≡ None → ⊥
    never z e = cc

-- no known file passes
pub never_found : (client : Client) (test : ℕ → Bool) (file : ℕ) → knows_file client file ≡ true
    → file_where client test ≡ None → test file ≡ false
never_found client test file known absent =
    find_absent test file (numbers_to client.files) absent (among_numbers client.files file known)
