-- The loss of a client among others, by its place.
use Rattle.std.proofs.Common.{◌≡◌, ℕ, zero, suc, ◌<◌, ◌≤◌, true, false, List, [], ◌∷◌, ◌++◌, Some, None, length}
use Rattle.std.proofs.Common.{refl, ap, arith, set, get_or}
use Rattle.std.proofs.lemmas.Grind.{common_steps}
use Rattle.std.proofs.lemmas.List.Quantifiers.{position-Some}
use Rattle.std.proofs.lemmas.List.Sums.{fails_before_first}
use Rattle.std.specs.List.{position, position_or_len}
use Rattle.capture_walk.specs.declared.event.Loss.{Loss}
use Rattle.capture_texts.specs.Reports.{is_of, greater, with_loss}

pushed : (loss : Loss) (found : List Loss) (d : Loss)
    → ((i : ℕ) → i < length found → is_of loss.client (get_or found i d) ≡ false) → with_loss loss found ≡ found ++ loss ∷ []
pushed loss [] d none = refl
pushed loss (one ∷ others) d none =
    let first : is_of loss.client one ≡ false = none 0 (omega arith) in
    rw first (ap (λ (l : List Loss). one ∷ l) (pushed loss others d (λ i below. none (suc i) (omega (arith, below)))))

pub loss_pushed : (loss : Loss) (found : List Loss) → position (is_of loss.client) found ≡ None
    → with_loss loss found ≡ found ++ loss ∷ []
loss_pushed loss found none =
    let past : length found ≤ position_or_len (is_of loss.client) found = grind (arith, common_steps, none) in
    pushed loss found loss (λ i below. fails_before_first (is_of loss.client) found i loss (omega (arith, past, below)))

placed : (loss : Loss) (found : List Loss) (place : ℕ) (d : Loss) → place < length found
    → is_of loss.client (get_or found place d) ≡ true
    → ((i : ℕ) → i < place → is_of loss.client (get_or found i d) ≡ false)
    → with_loss loss found ≡ set found place (greater loss (get_or found place d))
placed loss [] place d inside here before = absurd (omega (arith, inside))
placed loss (one ∷ others) zero d inside here before = let first : is_of loss.client one ≡ true = here in rw first refl
placed loss (one ∷ others) (suc place) d inside here before =
    let first : is_of loss.client one ≡ false = before 0 (omega arith) in
    rw first (ap (λ (l : List Loss). one ∷ l)
    (placed loss others place d (omega (arith, inside)) here (λ i below. before (suc i) (omega (arith, below)))))

pub loss_placed : (loss : Loss) (found : List Loss) (place : ℕ) (d : Loss)
    → position (is_of loss.client) found ≡ Some place
    → with_loss loss found ≡ set found place (greater loss (get_or found place d))
loss_placed loss found place d is =
    let there = position-Some (is_of loss.client) found place d is in placed loss found place d there.0 there.1 there.2
