-- Counts of the holders of a file.
use Rattle.lease_laws.proofs.Words.{◌&&◌, ◌+◌, ◌-◌, ◌<◌, ◌==◌, ◌∙◌, ◌≡◌, ◌≢◌, ◌≤◌, Bool, State, ℕ, ap, arith, cases_Bool}
use Rattle.lease_laws.proofs.Words.{eqb-true, false, holds_any, if◌then◌else◌, inl, inr, nat_lt, nothing_cached, refl, suc, sym}
use Rattle.lease_laws.proofs.Words.{true, zero}
use Rattle.lease_world.specs.judge.Holders.{one_more, with_holder, without_holder, conflicts_with}
use Rattle.lease_world.specs.judge.Knows.{how_many, IsCounted}
use Rattle.lease_world.specs.judge.Seen.{Holders, is_conflict}

-- ---- how many numbers pass a test

abbrev one_if : Bool → ℕ
one_if b = if b then 1 else 0

same_many : (p q : ℕ → Bool) (n : ℕ) → ((k : ℕ) → k < n → q k ≡ p k) → how_many q n ≡ how_many p n
unfolding how_many
same_many p q zero same = refl
same_many p q (suc n) same = let later = same_many p q n (λ k lt. same k (omega (arith, lt))) in grind arith

-- where one number changes, so does the count
one_changed : (p q : ℕ → Bool) (k n : ℕ) → k < n → ((j : ℕ) → j ≢ k → q j ≡ p j)
    → how_many q n + one_if (p k) ≡ how_many p n + one_if (q k)
unfolding how_many
one_changed p q k zero lt others = absurd (omega arith)
one_changed p q k (suc n) lt others = elim (cases_Bool (n == k)) [
  | inl e ↦
      let is : n ≡ k = eqb-true n k e in
      let rest : how_many q n ≡ how_many p n = same_many p q n (λ j below. others j (λ s. omega (arith, below, s, is))) in
      rw (rest, is) (omega arith)
  | inr ne ↦
      let apart : n ≢ k = λ s. differ n k ne s in
      let rest = one_changed p q k n (omega (arith, lt, apart)) others in
      rw (others n apart) (omega (arith, rest))
]
  where
    differ : (n k : ℕ) → (n == k) ≡ false → n ≡ k → ⊥
    differ n k ne s = grind arith

at_most : (p : ℕ → Bool) (n : ℕ) → how_many p n ≤ n
unfolding how_many
at_most p zero = omega arith
at_most p (suc n) = let later = at_most p n in grind arith

-- one of them does
some_one : (p : ℕ → Bool) (n : ℕ) → 0 < how_many p n → (k : ℕ) × (p k ≡ true)
unfolding how_many
some_one p zero some = absurd (omega arith)
some_one p (suc n) some = elim (cases_Bool (p n)) [
  | inl e ↦ (n, e)
  | inr ne ↦ let none : one_if (p n) ≡ 0 = rw ne refl in some_one p n (omega (arith, some, none))
]

no_one : (p : ℕ → Bool) (n : ℕ) → how_many p n ≡ 0 → (k : ℕ) → k < n → p k ≡ false
unfolding how_many
no_one p zero none k lt = absurd (omega arith)
no_one p (suc n) none k lt = elim (cases_Bool (p n)) [
  | inl e ↦ let some : one_if true + how_many p n ≡ 0 = rw e at none in absurd (omega (arith, some))
  | inr ne ↦ elim (cases_Bool (k == n)) [
    | inl is ↦ rw (eqb-true k n is) ne
    | inr apart ↦
        let nothing : one_if (p n) ≡ 0 = rw ne refl in
        no_one p n (omega (arith, none, nothing)) k (below k n lt apart)
  ]
]
  where
    below : (k n : ℕ) → k < suc n → (k == n) ≡ false → k < n
    below k n lt apart = grind arith

-- ---- counts of holders

counted-one : (count less : ℕ) (now was : Bool) → count + one_if was ≡ less + one_if now → was ≡ false → less < 65535
    → count ≡ (if now then one_more less else less)
counted-one count less now was e w few = grind arith

counted-less : (count more : ℕ) (now was : Bool) → count + one_if was ≡ more + one_if now → now ≡ false
    → count ≡ (if was then more - 1 else more)
counted-less count more now was e w = grind arith

with-any : (state : State) (holders : Holders)
    → (with_holder state holders).any ≡ (if holds_any state then one_more holders.any else holders.any)
with-any state holders = grind arith

with-writing : (state : State) (holders : Holders)
    → (with_holder state holders).writing ≡ (if state.write then one_more holders.writing else holders.writing)
with-writing state holders = grind arith

without-any : (state : State) (holders : Holders)
    → (without_holder state holders).any ≡ (if holds_any state then holders.any - 1 else holders.any)
without-any state holders = grind arith

without-writing : (state : State) (holders : Holders)
    → (without_holder state holders).writing ≡ (if state.write then holders.writing - 1 else holders.writing)
without-writing state holders = grind arith

-- a client comes to hold something
pub counted-with : (before after : ℕ → State) (client : ℕ) (holders : Holders) → client < 256
    → ((c : ℕ) → c ≢ client → after c ≡ before c) → before client ≡ nothing_cached
    → IsCounted before holders → IsCounted after (with_holder (after client) holders)
counted-with before after client holders within others nothing k = record {
  any = with-any (after client) holders ∙ sym (counted-one _ _ _ _
      (rw (← k.any) at (one_changed (λ c. holds_any (before c)) (λ c. holds_any (after c)) client 256 within
      (λ c ne. ap holds_any (others c ne)))) (ap holds_any nothing)
      (let le = at_most (λ c. holds_any (before c)) 256 in let e = k.any in omega (arith, le, e)));
  writing = with-writing (after client) holders ∙ sym (counted-one _ _ _ _
      (rw (← k.writing) at (one_changed (λ c. (before c).write) (λ c. (after c).write) client 256 within
      (λ c ne. ap (λ (s : State). s.write) (others c ne)))) (ap (λ (s : State). s.write) nothing)
      (let le = at_most (λ c. (before c).write) 256 in let e = k.writing in omega (arith, le, e)));
}

-- a client holds nothing any more
pub counted-without : (before after : ℕ → State) (client : ℕ) (holders : Holders) → client < 256
    → ((c : ℕ) → c ≢ client → after c ≡ before c) → after client ≡ nothing_cached
    → IsCounted before holders → IsCounted after (without_holder (before client) holders)
counted-without before after client holders within others nothing k = record {
  any = without-any (before client) holders ∙ sym (counted-less _ _ _ _
      (rw (← k.any) at (one_changed (λ c. holds_any (before c)) (λ c. holds_any (after c)) client 256 within
      (λ c ne. ap holds_any (others c ne)))) (ap holds_any nothing));
  writing = without-writing (before client) holders ∙ sym (counted-less _ _ _ _
      (rw (← k.writing) at (one_changed (λ c. (before c).write) (λ c. (after c).write) client 256 within
      (λ c ne. ap (λ (s : State). s.write) (others c ne)))) (ap (λ (s : State). s.write) nothing));
}

pub counted-same : (before after : ℕ → State) (holders : Holders) → ((c : ℕ) → after c ≡ before c)
    → IsCounted before holders → IsCounted after holders
counted-same before after holders same k = grind arith

-- ---- conflicts with a holder

positive : (n : ℕ) → nat_lt 0 n ≡ true → 0 < n
positive n e = grind arith

nothing_there : (n : ℕ) → nat_lt 0 n ≡ false → n ≡ 0
nothing_there n e = grind arith

both_true : (a b : Bool) → (a && b) ≡ true → (a ≡ true) × (b ≡ true)
both_true a b e = grind arith

with_writer : (one other : State) → one.write ≡ true → is_conflict one other ≡ holds_any other
with_writer one other e = rw e refl

with_reader : (one other : State) → one.write ≡ false → is_conflict one other ≡ (other.write && holds_any one)
with_reader one other e = rw e refl

reader_conflicts : (state : State) (holders : Holders) → state.write ≡ false
    → conflicts_with state holders ≡ (holds_any state && nat_lt 0 holders.writing)
reader_conflicts state holders e = rw e refl

-- a conflict is with a client
pub conflict-one : (held : ℕ → State) (state : State) (holders : Holders) → IsCounted held holders
    → conflicts_with state holders ≡ true → (client : ℕ) × (is_conflict state (held client) ≡ true)
conflict-one held state holders k conflict = elim (cases_Bool state.write) [
  | inl w ↦
      let some : nat_lt 0 holders.any ≡ true = rw w at conflict in
      let one = some_one (λ c. holds_any (held c)) 256 (rw (← k.any) (positive holders.any some)) in
      (one.0, with_writer state (held one.0) w ∙ one.1)
  | inr r ↦
      let some : (holds_any state && nat_lt 0 holders.writing) ≡ true = sym (reader_conflicts state holders r) ∙ conflict in
      let parts = both_true (holds_any state) (nat_lt 0 holders.writing) some in
      let one = some_one (λ c. (held c).write) 256 (rw (← k.writing) (positive holders.writing parts.1)) in
      (one.0, with_reader state (held one.0) r ∙ rw (one.1, parts.0) refl)
]

pub conflict-none : (held : ℕ → State) (state : State) (holders : Holders) → IsCounted held holders
    → conflicts_with state holders ≡ false → (client : ℕ) → client < 256 → is_conflict state (held client) ≡ false
conflict-none held state holders k free client within = elim (cases_Bool state.write) [
  | inl w ↦
      let none : nat_lt 0 holders.any ≡ false = rw w at free in
      with_writer state (held client) w
      ∙ no_one (λ c. holds_any (held c)) 256 (sym k.any ∙ nothing_there holders.any none) client within
  | inr r ↦ with_reader state (held client) r ∙ by_reader (holds_any state) (nat_lt 0 holders.writing) (held client).write
      (sym (reader_conflicts state holders r) ∙ free)
      (λ none. no_one (λ c. (held c).write) 256 (sym k.writing ∙ nothing_there holders.writing none) client within)
]
  where
    by_reader : (a b w : Bool) → (a && b) ≡ false → (b ≡ false → w ≡ false) → (w && a) ≡ false
    by_reader a b w e f = grind arith
