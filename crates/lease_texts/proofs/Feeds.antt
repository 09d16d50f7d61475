-- Line feeds among the first bytes of a text.
use Rattle.std.proofs.Common.{◌%◌, ◌<◌, ◌∙◌, ◌≡◌, ◌≢◌, ◌≤◌, ◌^◌, Bool, List, ℕ, ap, arith, cond, eqb, false, get_or, length, map}
use Rattle.std.proofs.Common.{replicate, slice_index, sym, take, w64, w8}
use Rattle.std.proofs.lemmas.Bool.Decides.{eqb_tells, nat_tests}
use Rattle.std.proofs.lemmas.{List.get_or-replicate, List.get_or_past, Nat.Bits.bit_at-trailing_zeros}
use Rattle.std.proofs.lemmas.Simd.{bit_mask_l, get_or-chunk, get_or-zip2, length-chunk, length-zip2, mask_l-mod, tops_compared}
use Rattle.std.specs.{Int.bit_at, Int.trailing_zeros, Simd.Lanes.mask_l, Simd.Lanes.top, Simd.Lanes.zip2}

-- which of the first 32 bytes are line feeds
abbrev feeds : List ℕ → List Bool
feeds text = zip2 eqb (take 32 text) (replicate 32 10)

length_feeds : (text : List ℕ) → 32 ≤ length text → length (feeds text) ≡ 32
length_feeds text long =
    let lanes = length-chunk 0 32 text long in length-zip2 eqb (take 32 text) (replicate 32 10) lanes ∙ lanes

feed_at : (text : List ℕ) (k : ℕ) → 32 ≤ length text → k < 32 → get_or (feeds text) k false ≡ eqb (slice_index text k) 10
feed_at text k long inside =
    let lanes = length-chunk 0 32 text long in
    let lane : get_or (take 32 text) k 0 ≡ slice_index text k =
    get_or-chunk 0 32 text k 0 inside ∙ ap (λ (n : ℕ). slice_index text n) (omega arith) in
    get_or-zip2 eqb (take 32 text) (replicate 32 10) k 0 0 false (omega (arith, lanes, inside)) inside
    ∙ ap (λ (b : ℕ). eqb b (get_or (replicate 32 10) k 0)) lane
    ∙ ap (λ (b : ℕ). eqb (slice_index text k) b) (get_or-replicate 32 k 10 0 inside)

-- the mask of a comparison with line feeds
pub mask_of_feeds : (text : List ℕ) → 32 ≤ length text
    → mask_l (map (top 7) (zip2 (λ a b. cond (eqb a b) 255 0) (take 32 text) (replicate 32 10))) % 2 ^ 64 ≡ mask_l (feeds text)
mask_of_feeds text long = ap (λ (ms : List Bool). mask_l ms % 2 ^ 64) (tops_compared w8 eqb (take 32 text) (replicate 32 10))
    ∙ mask_l-mod (feeds text) 64 (omega (arith, length_feeds text long))

bit_of : (text : List ℕ) (m k : ℕ) → m ≡ mask_l (feeds text) → bit_at m k ≡ cond (get_or (feeds text) k false) 1 0
bit_of text m k is = ap (λ (n : ℕ). bit_at n k) is ∙ bit_mask_l (feeds text) k

abbrev bit : Bool → ℕ
bit b = cond b 1 0

within : (text : List ℕ) (k : ℕ) → length (feeds text) ≡ 32 → cond {A = ℕ} (get_or (feeds text) k false) 1 0 ≡ 1 → k < 32
within text k long set = let none = get_or_past (feeds text) k false in grind (arith, nat_tests, set)

is_feed : (byte : ℕ) → cond {A = ℕ} (eqb byte 10) 1 0 ≡ 1 → byte ≡ 10
is_feed byte set = let tells = eqb_tells byte 10 in grind (arith, set)

no_feed : (byte : ℕ) → byte ≡ 10 → cond {A = ℕ} (eqb byte 10) 1 0 ≡ 0 → ⊥
no_feed byte same clear = let tells = eqb_tells byte 10 in grind (arith, clear)

pub lowest_feed : (text : List ℕ) (m : ℕ) → 32 ≤ length text → m ≡ mask_l (feeds text) → m ≢ 0 → m < 2 ^ 64
    → (trailing_zeros w64 m < 32) × (slice_index text (trailing_zeros w64 m) ≡ 10)
    × ((i : ℕ) → i < trailing_zeros w64 m → slice_index text i ≢ 10)
lowest_feed text m long is some fits =
    let lowest = bit_at-trailing_zeros w64 m (omega (arith, some)) fits in
    let place = trailing_zeros w64 m in
    let set = sym (bit_of text m place is) ∙ lowest.1 in
    let inside = within text place (length_feeds text long) set in (
      inside,
      is_feed (slice_index text place) (ap bit (sym (feed_at text place long inside)) ∙ set),
      λ i below same.
          no_feed (slice_index text i) same
          (ap bit (sym (feed_at text i long (omega (arith, below, inside))))
          ∙ sym (bit_of text m i is) ∙ lowest.2 i below),
    )
