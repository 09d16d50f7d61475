-- A field that was read is written as the bytes that it was read from, and a list is its fields one after the other.
use Rattle.std.proofs.Common.{◌≡◌, ◌<◌, ◌≤◌, ◌/◌, ◌%◌, ◌^◌, ℕ, zero, suc, ◌+◌, ◌*◌, List, [], ◌∷◌, ◌++◌, length, take, drop}
use Rattle.std.proofs.Common.{refl, sym, ◌∙◌, ap, arith, length-drop}
use Rattle.std.proofs.Math.Nat.{div-div-eq-div-mul, div-one, pow-succ', div-eq_of_lt, add-mul-div_left, add-mul-mod_self_left}
use Rattle.std.proofs.Math.Nat.{mod-eq_of_lt}
use Rattle.std.proofs.lemmas.List.{take-append-drop, drop-drop}
use Rattle.std.specs.Int.{byte_at, bytes_low_first}
use Rattle.byteorder.specs.Endian.{little_from, little_number, little_bytes}
use Rattle.byteorder.specs.Numbers.{little_from-cons, little_number-reads_back}
use Rattle.lease_wire.specs.Field.{number_at, bytes_at}
use Rattle.lease_wire_v2.specs.Fields.{AreBytes}

byte_at-pow : (k x : ℕ) → byte_at k x ≡ x / 256 ^ k % 256
byte_at-pow zero x = ap (λ (y : ℕ). y % 256) (sym (div-one x))
byte_at-pow (suc k) x = refl

byte_at-next : (k x : ℕ) → byte_at (suc k) x ≡ byte_at k (x / 256)
byte_at-next k x =
    let up : x / 256 ^ suc k ≡ x / 256 / 256 ^ k = ap (λ (p : ℕ). x / p) (pow-succ' 256 k)
    ∙ sym (div-div-eq-div-mul x 256 (256 ^ k)) in
    rw (byte_at-pow (suc k) x, byte_at-pow k (x / 256), up) refl

bytes_low_first-next : (j k x : ℕ) → bytes_low_first (suc j) k x ≡ bytes_low_first j k (x / 256)
bytes_low_first-next j zero x = refl
bytes_low_first-next j (suc k) x = rw (byte_at-next j x, bytes_low_first-next (suc j) k x) refl

low_byte : (a n : ℕ) → a < 256 → (a + 256 * n) % 256 ≡ a
low_byte a n small = add-mul-mod_self_left a 256 n ∙ mod-eq_of_lt small

high_bytes : (a n : ℕ) → a < 256 → (a + 256 * n) / 256 ≡ n
high_bytes a n small = add-mul-div_left a n (omega arith) ∙ rw (div-eq_of_lt small) (omega arith)

-- a number is written as the bytes that it was read from
number_written : (n : ℕ) (xs : List ℕ) → n ≤ length xs → AreBytes xs → little_bytes n (little_number n xs) ≡ take n xs
number_written zero xs long are = refl
number_written (suc n) [] long are = absurd (omega arith)
number_written (suc n) (x ∷ xs) long are =
    let small : x < 256 = are 0 in
    let further = number_written n xs (omega arith) (λ place. are (suc place)) in
    rw (
      little_from-cons 0 n x xs,
      bytes_low_first-next 0 n (x + 256 * little_from 0 n xs),
      low_byte x (little_from 0 n xs) small,
      high_bytes x (little_from 0 n xs) small,
      further,
    ) refl

are_bytes-drop : (n : ℕ) (xs : List ℕ) → AreBytes xs → AreBytes (drop n xs)
are_bytes-drop zero xs are = are
are_bytes-drop (suc n) [] are = are
are_bytes-drop (suc n) (x ∷ xs) are = are_bytes-drop n xs (λ place. are (suc place))

-- the same of the number at a place
pub field_written : (place n : ℕ) (xs : List ℕ) → place + n ≤ length xs → AreBytes xs
    → little_bytes n (number_at place n xs) ≡ bytes_at place n xs
field_written place n xs long are =
    let size = length-drop {A = ℕ} place xs in
    number_written n (drop place xs) (omega arith) (are_bytes-drop place xs are)

-- what is from a place on is a field and what is after it
pub cut : (place n : ℕ) (xs : List ℕ) → drop place xs ≡ bytes_at place n xs ++ drop (place + n) xs
cut place n xs = sym (rw (← drop-drop n place xs) (take-append-drop n (drop place xs)))

-- the field that ends a list
pub cut_last : (place n : ℕ) (xs : List ℕ) → length xs ≡ place + n → drop place xs ≡ bytes_at place n xs
cut_last place n xs long = let size = length-drop {A = ℕ} place xs in sym (whole n (drop place xs) (omega arith))
  where
    whole : (n : ℕ) (ys : List ℕ) → length ys ≡ n → take n ys ≡ ys
    whole zero [] long = refl
    whole zero (y ∷ ys) long = absurd (omega arith)
    whole (suc n) [] long = absurd (omega arith)
    whole (suc n) (y ∷ ys) long = rw (whole n ys (omega arith)) refl

-- a number that fits is read as it was written
pub number_read : (n x : ℕ) (rest : List ℕ) → x < 256 ^ n → little_number n (little_bytes n x ++ rest) ≡ x
number_read n x rest fits = little_number-reads_back n x rest fits
