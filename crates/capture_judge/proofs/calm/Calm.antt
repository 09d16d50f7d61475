-- No two clients clash exactly where no two chains of different clients do.
use Rattle.std.proofs.Common.{◌≡◌, ◌+◌, ◌<◌, ◌≤◌, ◌⊎◌, inl, inr, ℕ, zero, suc, List, ◌∷◌, [], Option, Some, None, refl, arith}
use Rattle.std.proofs.Common.{slice_get}
use Rattle.std.proofs.lemmas.Bool.{cases_eq, cases_lt}
use Rattle.capture_judge.specs.Placing.{height, change_of, level_of, level_at, reached, IsLevel, IsCalm}
use Rattle.capture_judge.specs.Searching.{AreApart}
use Rattle.capture_judge.specs.declared.values.Level.{Level}
use Rattle.capture_judge.specs.declared.values.Level.TheVariants.{Nothing, Something, Writes}
use Rattle.capture_judge.specs.declared.values.Change.{Change}
use Rattle.capture_judge.specs.declared.values.Chain.{Chain}
use Rattle.capture_judge.specs.declared.values.Step.{Step}

pub height-le : (level : Level) → height level ≤ 2
height-le Nothing = omega arith
height-le Something = omega arith
height-le Writes = omega arith

level_of-le : (change : Option Change) → level_of change ≤ 2
level_of-le None = omega arith
level_of-le (Some change) = height-le change.level

pub level_at-le : (chains : List Chain) (i came : ℕ) → level_at chains i came ≤ 2
level_at-le chains i zero = omega arith
level_at-le chains i (suc came) = level_of-le (change_of chains i came)

pub calm_from_apart : (chains : List Chain) (past : List Step) → AreApart chains (reached past) → IsCalm chains past
unfolding IsCalm
calm_from_apart chains past apart client other m n differ one two =
    elim one.one as (λ _. m + n < 3) [
      | inl none ↦ elim two.one as (λ _. m + n < 3) [
        | inl also ↦ omega arith
        | inr b ↦ let small = level_at-le chains b.0 (reached past b.0) in omega (arith, small, b.4)
      ]
      | inr a ↦ elim two.one as (λ _. m + n < 3) [
        | inl none ↦ let small = level_at-le chains a.0 (reached past a.0) in omega (arith, small, a.4)
        | inr b ↦ let low = apart a.0 b.0 a.1 b.1 a.2 b.2 (λ same. differ (grind (arith, same, a.3, b.3)))
            in omega (arith, low, a.4, b.4)
      ]
    ]

-- the highest of what f has at the places of a client's chains
record Highest (f : ℕ → ℕ) (chains : List Chain) (client level : ℕ) : Type 0 where
  pub highest : (i : ℕ) (chain : Chain) → slice_get chains i ≡ Some chain → chain.client ≡ client → f i ≤ level
  pub one : (level ≡ 0) ⊎ ((i : ℕ) × (chain : Chain) × (slice_get chains i ≡ Some chain) × (chain.client ≡ client)
      × (f i ≡ level))

below : (f : ℕ → ℕ) (chain : Chain) (chains : List Chain) (client level : ℕ) → (chain.client ≡ client → f zero ≤ level)
    → ((i : ℕ) (c : Chain) → slice_get chains i ≡ Some c → c.client ≡ client → f (suc i) ≤ level)
    → (i : ℕ) (c : Chain) → slice_get (chain ∷ chains) i ≡ Some c → c.client ≡ client → f i ≤ level
below f chain chains client level head tail zero c at is = head (grind (arith, at, is))
below f chain chains client level head tail (suc i) c at is = tail i c at is

later : (f : ℕ → ℕ) (chain : Chain) (chains : List Chain) (client level : ℕ)
    → (level ≡ 0) ⊎ ((i : ℕ) × (c : Chain) × (slice_get chains i ≡ Some c) × (c.client ≡ client) × (f (suc i) ≡ level))
    → (level ≡ 0) ⊎ ((i : ℕ) × (c : Chain) × (slice_get (chain ∷ chains) i ≡ Some c) × (c.client ≡ client) × (f i ≡ level))
later f chain chains client level (inl none) = inl none
later f chain chains client level (inr a) = inr (suc a.0, a.1, a.2, a.3, a.4)

with_first : (f : ℕ → ℕ) (chain : Chain) (chains : List Chain) (client : ℕ)
    → (rest : (level : ℕ) × Highest (λ i. f (suc i)) chains client level)
    → (chain.client ≡ client) ⊎ (chain.client ≡ client → ⊥) → (f zero < rest.0) ⊎ (rest.0 ≤ f zero)
    → (level : ℕ) × Highest f (chain ∷ chains) client level
with_first f chain chains client rest (inr other) order = (
  rest.0,
  record {
    highest = below f chain chains client rest.0 (λ is. absurd (other is)) rest.1.highest;
    one = later f chain chains client rest.0 rest.1.one;
  },
)
with_first f chain chains client rest (inl same) (inl less) = (
  rest.0,
  record {
    highest = below f chain chains client rest.0 (λ is. omega arith) rest.1.highest;
    one = later f chain chains client rest.0 rest.1.one;
  },
)
with_first f chain chains client rest (inl same) (inr more) = (
  f zero,
  record {
    highest = below f chain chains client (f zero) (λ is. omega arith) (λ i c at is. let low = rest.1.highest i c at is in omega
        (arith, low));
    one = inr (zero, chain, refl, same, refl);
  },
)

highest : (f : ℕ → ℕ) (chains : List Chain) (client : ℕ) → (level : ℕ) × Highest f chains client level
highest f [] client = (0, record { highest = λ i chain at is. cc; one = inl refl })
highest f (chain ∷ chains) client =
    let rest = highest (λ i. f (suc i)) chains client
    in with_first f chain chains client rest (cases_eq chain.client client) (cases_lt (f zero) rest.0)

pub level_of_client : (chains : List Chain) (past : List Step) (client : ℕ) → (level : ℕ) × IsLevel chains past client level
level_of_client chains past client =
    let found = highest (λ i. level_at chains i (reached past i)) chains client
    in (found.0, record { highest = found.1.highest; one = found.1.one })

pub apart_from_calm : (chains : List Chain) (past : List Step) → IsCalm chains past → AreApart chains (reached past)
unfolding IsCalm
apart_from_calm chains past calm i j chain other at-i at-j differ =
    let one = level_of_client chains past chain.client
    in let two = level_of_client chains past other.client
    in let low = calm chain.client other.client one.0 two.0 differ one.1 two.1
    in let a = one.1.highest i chain at-i refl
    in let b = two.1.highest j other at-j refl
    in omega (arith, low, a, b)
