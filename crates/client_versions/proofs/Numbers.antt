-- Epochs as numbers of 16 bits.
use Rattle.std.proofs.Common.{◌&&◌, ◌+◌, ◌<◌, ◌==◌, ◌≡◌, ◌≤◌, Bool, ap, arith, false, inl, inr, nat_lt, refl, sym}
use Rattle.std.proofs.Common.{true, ℕ}
use Rattle.std.specs.Prelude.{◌%◌}
use Rattle.std.proofs.lemmas.Bool.Decides.{nat_tests}
use Rattle.client_versions.specs.Epochs.{ahead, is_newer}
use Rattle.client_versions.specs.Laws.{IsNotOlder}

pub either : {P : Type 0} (b : Bool) → (b ≡ true → P) → (b ≡ false → P) → P
either b at_true at_false = grind arith

less : (x y : ℕ) → x < y → nat_lt x y ≡ true
less x y h = grind (arith, nat_tests, h)

not_less : (x y : ℕ) → y ≤ x → nat_lt x y ≡ false
not_less x y h = grind (arith, nat_tests, h)

both : (a b : Bool) → a ≡ true → b ≡ true → (a && b) ≡ true
both a b e f = rw (e, f) refl

-- ---- from a start

-- an epoch that is ahead of the start by more than another one is newer
gap : (start x y : ℕ) → start < 65536 → x < 65536 → y < 65536 → ahead start x < ahead start y
    → ahead x y + ahead start x ≡ ahead start y
gap start x y s a b h = omega (arith, s, a, b, h)

pub newer : (start x y : ℕ) → start < 65536 → x < 65536 → y < 65536 → ahead start y < 32768
    → ahead start x < ahead start y → is_newer x y ≡ true
newer start x y s a b w h =
    let g = gap start x y s a b h in
    both (nat_lt 0 (ahead x y)) (nat_lt (ahead x y) 32768) (less 0 (ahead x y) (omega (arith, g, h, w)))
    (less (ahead x y) 32768 (omega (arith, g, h, w)))

-- one that is behind another one lies far ahead of it
far : (start x y : ℕ) → start < 65536 → x < 65536 → y < 65536 → ahead start y < ahead start x → ahead start x < 32768
    → 32768 ≤ ahead x y
far start x y s a b h w = omega (arith, s, a, b, h, w)

second_false : (a b : Bool) → b ≡ false → (a && b) ≡ false
second_false a b e = grind (arith, e)

pub not_newer : (start x y : ℕ) → start < 65536 → x < 65536 → y < 65536 → ahead start x < 32768
    → ahead start y < ahead start x → is_newer x y ≡ false
not_newer start x y s a b w h =
    second_false (nat_lt 0 (ahead x y)) (nat_lt (ahead x y) 32768)
    (not_less (ahead x y) 32768 (far start x y s a b h w))

pub apart : (start x y : ℕ) → ahead start y < ahead start x → (y == x) ≡ false
apart start x y h = either (y == x) (λ e. absurd (same (eq-of e))) (λ e. e)
  where
    eq-of : (y == x) ≡ true → y ≡ x
    eq-of e = grind (arith, nat_tests, e)

    same : y ≡ x → ⊥
    same e = let k : ahead start y ≡ ahead start x = ap (ahead start) e in omega (arith, h, k)

pub none_ahead : (start : ℕ) → start < 65536 → ahead start start ≡ 0
none_ahead start s = omega (arith, s)

-- ---- climbing

pub climbs_by : (before now : ℕ) → before < 65536 → now < 65536 → (before + ahead before now) % 65536 ≡ now
climbs_by before now b n = omega (arith, b, n)

pub climbs_on : (before now more : ℕ) → before < 65536 → now < 65536
    → (now + more) % 65536 ≡ (before + (ahead before now + more)) % 65536
climbs_on before now more b n = omega (arith, b, n)

pub climbs_none : (epoch : ℕ) → epoch < 65536 → epoch ≡ (epoch + 0) % 65536
climbs_none epoch h = omega (arith, h)

ahead_by : (epoch climb : ℕ) → epoch < 65536 → climb < 32768 → ahead epoch ((epoch + climb) % 65536) ≡ climb
ahead_by epoch climb h few = omega (arith, h, few)

stays : (epoch climb : ℕ) → epoch < 65536 → (climb == 0) ≡ true → (epoch + climb) % 65536 ≡ epoch
stays epoch climb h none = rw (is_zero climb none) (sym (climbs_none epoch h))
  where
    is_zero : (n : ℕ) → (n == 0) ≡ true → n ≡ 0
    is_zero n e = grind (arith, nat_tests, e)

pub not_older : (epoch climb : ℕ) → epoch < 65536 → climb < 32768 → IsNotOlder epoch ((epoch + climb) % 65536)
not_older epoch climb h few = either (climb == 0)
    (λ e. inl (stays epoch climb h e))
    (λ e. inr (rw (ahead_by epoch climb h few)
    (both (nat_lt 0 climb) (nat_lt climb 32768) (some climb e) (less climb 32768 few))))
  where
    some : (n : ℕ) → (n == 0) ≡ false → nat_lt 0 n ≡ true
    some n e = grind (arith, nat_tests, e)
