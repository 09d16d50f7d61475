-- Writes that wait for an answer, where one is settled.
use Rattle.lease_laws.proofs.Words.{◌&&◌, ◌++◌, ◌==◌, ◌||◌, ◌∙◌, ◌∷◌, ◌≡◌, Bool, Fact, List, Settlement, ℕ, [], append-nil, arith}
use Rattle.lease_laws.proofs.Words.{cond, false, filter, filter-append, if◌then◌else◌, is_settled, not, refl, sym, true}
use Rattle.lease_world.specs.declared.judging.covers.Layer.{Layer}
use Rattle.lease_world.specs.judge.Seen.{Waiting}
use Rattle.lease_world.specs.judge.Told.{pending, is_unsettled}

pub self : (n : ℕ) → (n == n) ≡ true
self n = grind arith

-- ---- filters

and_false : (a : Bool) → (a && false) ≡ false
and_false a = grind arith

filter_step : {X : Type 0} (p : X → Bool) (x : X) (kept rest : List X) (b c : Bool) → c ≡ (p x && b) → rest ≡ filter p kept
    → cond c (x ∷ rest) rest ≡ filter p (cond b (x ∷ kept) kept)
filter_step p x kept rest b c e r = grind arith

pub filter-and : {X : Type 0} (p q r : X → Bool) (xs : List X) → ((x : X) → r x ≡ (p x && q x))
    → filter r xs ≡ filter p (filter q xs)
filter-and p q r [] e = refl
filter-and p q r (x ∷ xs) e = filter_step p x (filter q xs) (filter r xs) (q x) (r x) (e x) (filter-and p q r xs e)

-- ---- a write is settled

-- another number than this
abbrev pub is_other : ℕ → Waiting → Bool
is_other number write = not (number == write.number)

same_client : (client : ℕ) (b : Bool) → (client == client && b) ≡ b
same_client client b = rw (self client) refl

-- what is unsettled once this number is settled too
pub unsettled-more : (client number : ℕ) (outcome : Settlement) (past : List Fact) (layer : Layer)
    → is_unsettled client (Fact.Settled client number outcome ∷ past) layer
    ≡ (not (number == layer.number) && is_unsettled client past layer)
unfolding is_settled
unsettled-more client number outcome past layer = grind arith

with_or_without : (number : ℕ) (keep same : Bool) (xs ys : List Waiting) (write : Waiting) → (number == write.number) ≡ same
    → xs ≡ filter (is_other number) ys → (if keep && not (same || false) then xs ++ write ∷ [] else xs)
    ≡ filter (is_other number) (if keep then ys ++ write ∷ [] else ys)
with_or_without number false same xs ys write s e = e
with_or_without number true true xs ys write s e =
    e ∙ sym (filter-append (is_other number) ys (write ∷ []) ∙ (rw s (append_none (filter (is_other number) ys))))
  where
    append_none : (zs : List Waiting) → zs ++ [] ≡ zs
    append_none zs = append-nil zs
with_or_without number true false xs ys write s e = rw e (sym (filter-append (is_other number) ys (write ∷ []) ∙ (rw s refl)))

regroup : (keep same settled : Bool) → (keep && not (same || settled)) ≡ ((keep && not settled) && not (same || false))
regroup keep same settled = grind arith

pub pending-settled : (client file number : ℕ) (outcome : Settlement) (whole past : List Fact)
    → pending client file (Fact.Settled client number outcome ∷ whole) past
    ≡ filter (is_other number) (pending client file whole past)
unfolding pending is_settled
pending-settled client file number outcome whole [] = refl
pending-settled client file number outcome whole (Fact.Wrote writer other used patch buffered ∷ past) = rw (
  same_client client (number == used),
  regroup (writer == client && other == file) (number == used) (is_settled client used whole),
) (with_or_without number (writer == client && other == file && not (is_settled client used whole)) (number == used)
    (pending client file (Fact.Settled client number outcome ∷ whole) past) (pending client file whole past)
    (record { number = used; patch = patch }) refl (pending-settled client file number outcome whole past))
pending-settled client file number outcome whole (_ ∷ past) = pending-settled client file number outcome whole past
