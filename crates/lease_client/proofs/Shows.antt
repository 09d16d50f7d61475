-- What is shown of writes, after more of them and after the first went below.
use Rattle.lease_laws.proofs.Words.{◌+◌, ◌∙◌, ◌∷◌, ◌≡◌, List, Pending, ℕ, add-one, ap, arith, drop, patch, patches, patches_of}
use Rattle.lease_laws.proofs.Words.{◌<◌, ◌≤◌, [], get_or, length, refl, subst, suc, sym, take, zero}
use Rattle.std.proofs.lemmas.List.{take-append-drop}
use Rattle.std.proofs.lemmas.List.Edits.{length-remove}
use Rattle.std.specs.List.{remove}
use Rattle.lease_client.specs.Writes.{IsShown}
use Rattle.lease_client.specs.declared.writes.shown.Shown.{Shown}
use Rattle.lease_client.proofs.Views.{patched_on}

-- the first of the writes, and then the rest
pub patched_rest : (base : List ℕ) (writes : List Pending) (k : ℕ)
    → patches (patches base (patches_of (take k writes))) (patches_of (drop k writes)) ≡ patches base (patches_of writes)
patched_rest base writes k = sym (patched_on base (take k writes) (drop k writes))
    ∙ ap (λ (ws : List Pending). patches base (patches_of ws)) (take-append-drop k writes)

pub below_first : (base bytes below : List ℕ) (count k : ℕ) (first : Pending) (writes : List Pending) → count ≡ k + 1
    → below ≡ patch base first.patch → IsShown (first ∷ writes) (record { base = base; bytes = bytes; count = count })
    → IsShown writes (record { base = below; bytes = bytes; count = k })
below_first base bytes below count k first writes is put shown = record {
  within = omega (arith, is, shown.within);
  over = shown.over ∙ (ap (λ (n : ℕ). patches base (patches_of (take n (first ∷ writes)))) (is ∙ add-one k)
      ∙ ap (λ (b : List ℕ). patches b (patches_of (take k writes))) (sym put));
}

not_shown : (writes : List Pending) (place count : ℕ) → place < length writes → count ≤ place
    → take count (remove writes place) ≡ take count writes
not_shown writes place zero within le = refl
not_shown [] place (suc count) within le = elim within [ ]
not_shown (write ∷ writes) zero (suc count) within le = elim le [ ]
not_shown (write ∷ writes) (suc place) (suc count) within le =
    let e = not_shown writes place count (omega (arith, within)) (omega (arith, le)) in grind (arith, e)

-- a write that wasn't shown is taken out
pub behind_shown : (writes : List Pending) (place : ℕ) (shown : Shown) → place < length writes → shown.count ≤ place
    → IsShown writes shown → IsShown (remove writes place) shown
behind_shown writes place shown within le is = record {
  within = omega (arith, le, within, length-remove writes place within);
  over = rw (not_shown writes place shown.count within le) is.over;
}

-- the first write is taken out
pub first_out : (writes : List Pending) (write : Pending) (old shown : Shown) → 0 < length writes → get_or writes 0 write ≡ write
    → ((rest : List Pending) → IsShown (write ∷ rest) old → IsShown rest shown) → IsShown writes old → IsShown (remove writes 0) shown
first_out [] write old shown within here below is = elim within [ ]
first_out (first ∷ writes) write old shown within here below is =
    below writes (subst (λ (w : Pending). IsShown (w ∷ writes) old) here is)
