-- The first file of which something is so, as far as files were looked at.
use Rattle.lease_laws.proofs.Words.{◌++◌, ◌+◌, ◌<◌, ◌∷◌, ◌≡◌, Bool, List, None, Some, ℕ, [], add-one, arith, cases_lt, false}
use Rattle.lease_laws.proofs.Words.{find, inl, inr, numbers_to, refl, suc, true, zero}

find_behind : (test : ℕ → Bool) (numbers : List ℕ) (n : ℕ) → find test numbers ≡ None → test n ≡ true
    → find test (numbers ++ n ∷ []) ≡ Some n
find_behind test [] n none is = rw is refl
find_behind test (one ∷ numbers) n none is = let e = find_behind test numbers n in grind (arith, e, none, is)

find_none : (test : ℕ → Bool) (numbers : List ℕ) (n : ℕ) → find test numbers ≡ None → test n ≡ false
    → find test (numbers ++ n ∷ []) ≡ None
find_none test [] n none is = rw is refl
find_none test (one ∷ numbers) n none is = let e = find_none test numbers n in grind (arith, e, none, is)

find_before : (test : ℕ → Bool) (numbers more : List ℕ) (n : ℕ) → find test numbers ≡ Some n
    → find test (numbers ++ more) ≡ Some n
find_before test [] more n some = absurd (cc some)
find_before test (one ∷ numbers) more n some = let e = find_before test numbers more n in grind (arith, e, some)

pub passed_over : (test : ℕ → Bool) (k : ℕ) → find test (numbers_to k) ≡ None → test (suc k) ≡ false
    → find test (numbers_to (suc k)) ≡ None
passed_over test k none is = find_none test (numbers_to k) (suc k) none is

pub found_at : (test : ℕ → Bool) (files k : ℕ) → k < files → find test (numbers_to k) ≡ None → test (suc k) ≡ true
    → find test (numbers_to files) ≡ Some (suc k)
found_at test zero k below none is = absurd (omega arith)
found_at test (suc files) k below none is = elim (cases_lt k files) [
  | inl before ↦ find_before test (numbers_to files) (suc files ∷ []) (suc k) (found_at test files k before none is)
  | inr last ↦
      let e : k ≡ files = omega (arith, last) in
      rw (← e) (find_behind test (numbers_to k) (suc k) none is)
]

-- the same, where the next number is written as the code has it
pub go_on : (test : ℕ → Bool) (k : ℕ) → find test (numbers_to k) ≡ None → test (k + 1) ≡ false
    → find test (numbers_to (k + 1)) ≡ None
go_on test k none is = rw (add-one k) (passed_over test k none (rw (add-one k) at is))

pub stop_at : (test : ℕ → Bool) (files k : ℕ) → k < files → find test (numbers_to k) ≡ None → test (k + 1) ≡ true
    → Some (k + 1) ≡ find test (numbers_to files)
stop_at test files k below none is = rw (add-one k, found_at test files k below none (rw (add-one k) at is)) refl
