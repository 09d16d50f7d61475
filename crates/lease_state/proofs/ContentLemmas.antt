-- The length and the bytes of a patched content.
use Rattle.std.proofs.Common.{◌≡◌, ◌≤◌, ◌<◌, ℕ, ◌+◌, ◌-◌, max, ◌∙◌, zero, suc, refl, arith, sym, ap, List, [], ◌∷◌, ◌++◌, length}
use Rattle.std.proofs.Common.{take, drop, replicate, inl, inr, length-append}
use Rattle.std.proofs.lemmas.Bool.{le-leb, lt-leb, lt-ltb, le-ltb, cases_lt}
use Rattle.std.proofs.lemmas.Grind.{same_number_lists, common_steps}
use Rattle.std.proofs.lemmas.List.{get_or_past, take_all, take_at, get_or-append_right, get_or_append_left, get_or-take}
use Rattle.std.proofs.lemmas.List.{get_or-drop, length-replicate, length-take-le}
use Rattle.std.proofs.lemmas.List.FromFn.{length-map-range_with_len, get_or-map-range_with_len}
use Rattle.std.proofs.Math.ListN.{get_or}
use Rattle.lease_state.specs.Content.{byte_at, written, patch_at}

-- ---- the byte at a place
pub byte_at_within : (x : List ℕ) (o : ℕ) (d : List ℕ) (k : ℕ) → o ≤ k → k < o + length d → byte_at x o d k ≡ get_or d (k - o) 0
byte_at_within x o d k from below = rw (le-leb o k from, lt-ltb k (o + length d) below) refl

pub byte_at_before : (x : List ℕ) (o : ℕ) (d : List ℕ) (k : ℕ) → k < o → byte_at x o d k ≡ get_or x k 0
byte_at_before x o d k before = rw (lt-leb o k before) refl

pub byte_at_behind : (x : List ℕ) (o : ℕ) (d : List ℕ) (k : ℕ) → o + length d ≤ k → byte_at x o d k ≡ get_or x k 0
byte_at_behind x o d k behind = rw (le-leb o k (omega (arith, behind)), le-ltb k (o + length d) behind) refl

-- ---- what is written
pub length-written : (x : List ℕ) (o : ℕ) (d : List ℕ) → length (written x o d) ≡ max (length x) (o + length d)
unfolding written
length-written x o d = length-map-range_with_len _ 0 _

pub get_or-written : (x : List ℕ) (o : ℕ) (d : List ℕ) (k : ℕ) → get_or (written x o d) k 0 ≡ byte_at x o d k
unfolding written
get_or-written x o d k = elim (cases_lt k (max (length x) (o + length d))) [
  | inl within ↦ get_or-map-range_with_len (byte_at x o d) 0 _ k k 0 within (omega arith)
  | inr past ↦
      get_or_past (written x o d) k 0 (rw (length-written x o d) past)
      ∙ sym (byte_at_behind x o d k (omega (arith, past)) ∙ get_or_past x k 0 (omega (arith, past)))
]

-- a list is what is written where it is as long and has its bytes
pub written_by_places : (x : List ℕ) (o : ℕ) (d all : List ℕ) → length all ≡ max (length x) (o + length d)
    → ((k : ℕ) → k < length all → get_or all k 0 ≡ byte_at x o d k) → all ≡ written x o d
written_by_places x o d all long bytes = same_number_lists all (written x o d) (long ∙ sym (length-written x o d))
    (λ k within. bytes k within ∙ sym (get_or-written x o d k))

-- ---- zeros behind a list, then the bytes over it
get_or-replicate_zero : (n k : ℕ) → let nothing : ℕ = 0 in get_or (replicate n 0) k nothing ≡ nothing
get_or-replicate_zero zero k = refl
get_or-replicate_zero (suc n) zero = refl
get_or-replicate_zero (suc n) (suc k) = get_or-replicate_zero n k

-- past a list's end zeros are read, with zeros behind it or without
get_or-zeros : (x : List ℕ) (n k : ℕ) → get_or (x ++ replicate n 0) k 0 ≡ get_or x k 0
get_or-zeros [] n k = get_or-replicate_zero n k
get_or-zeros (b ∷ x) n zero = refl
get_or-zeros (b ∷ x) n (suc k) = get_or-zeros x n k

-- bytes over those of a list that is long enough
abbrev pub over : List ℕ → ℕ → List ℕ → List ℕ
over x o d = take o x ++ (d ++ drop (o + length d) x)

length-over : (x : List ℕ) (o : ℕ) (d : List ℕ) → o + length d ≤ length x → length (over x o d) ≡ length x
length-over x o d room = grind (arith, common_steps)

get_or-over : (x : List ℕ) (o : ℕ) (d : List ℕ) (k : ℕ) → o + length d ≤ length x → get_or (over x o d) k 0 ≡ byte_at x o d k
get_or-over x o d k room = elim (cases_lt k o) [
  | inl before ↦
      get_or_append_left (take o x) (d ++ drop (o + length d) x) 0 k (omega (arith, length-take-le o x (omega (arith, room))))
      ∙ get_or-take o x k 0 before ∙ sym (byte_at_before x o d k before)
  | inr from ↦
      get_or-append_right (take o x) (d ++ drop (o + length d) x) o k 0 (length-take-le o x (omega (arith, room))) from
      ∙ elim (cases_lt k (o + length d)) [
        | inl below ↦
            get_or_append_left d (drop (o + length d) x) 0 (k - o) (omega (arith, from, below))
            ∙ sym (byte_at_within x o d k from below)
        | inr behind ↦ get_or-append_right d (drop (o + length d) x) (length d) (k - o) 0 refl (omega (arith, from, behind))
            ∙ get_or-drop (o + length d) x (k - o - length d) 0 ∙ (let place : o + length d + (k - o - length d)
            ≡ k = omega (arith, from, behind) in ap (λ n. get_or x n 0) place) ∙ sym (byte_at_behind x o d k behind)
      ]
]

-- a byte depends on the content by its byte at that place alone
pub byte_at_same : (x y : List ℕ) (o : ℕ) (d : List ℕ) (k : ℕ) → get_or x k 0 ≡ get_or y k 0 → byte_at x o d k ≡ byte_at y o d k
byte_at_same x y o d k same = rw same refl

pub over-zeros : (x : List ℕ) (o : ℕ) (d : List ℕ) → over (x ++ replicate (o + length d - length x) 0) o d ≡ written x o d
over-zeros x o d =
    let zeros : List ℕ = replicate (o + length d - length x) 0 in
    let long : length (x ++ zeros) ≡ max (length x) (o + length d) =
    length-append x zeros ∙ omega (arith, length-replicate (o + length d - length x) (let nothing : ℕ = 0 in nothing)) in
    let room : o + length d ≤ length (x ++ zeros) = omega (arith, long) in
    written_by_places x o d (over (x ++ zeros) o d) (length-over (x ++ zeros) o d room ∙ long)
    (λ k within. get_or-over (x ++ zeros) o d k room ∙ byte_at_same (x ++ zeros) x o d k (get_or-zeros x _ k))

-- some bytes put at an offset are written there
patch_at-some : (x : List ℕ) (o : ℕ) (d : List ℕ) → 0 < length d → patch_at x o d ≡ written x o d
patch_at-some x o [] some = absurd (omega (arith, some))
patch_at-some x o (b ∷ d) some = refl

-- A content that is cut or filled up with zeros to `size` bytes, and then written over, is patched.
-- What stands behind the first `size` places of the answer was never there.
pub resized-over : (x d z w : List ℕ) (o size held : ℕ) → 0 < length d → held ≡ length x → size ≡ max (o + length d) held
    → z ≡ take size x ++ replicate (size - held) 0 → w ≡ over z o d → take size (w ++ drop (length w) z) ≡ patch_at x o d
resized-over x d z w o size held some held-is size-is z-is w-is =
    let same_zeros : size - held ≡ o + length d - length x = omega (arith, size-is, held-is) in
    let z-filled : z ≡ x ++ replicate (o + length d - length x) 0 =
    z-is ∙ rw (take_all size x (omega (arith, size-is, held-is)), same_zeros) refl in
    let w-written : w ≡ written x o d = w-is ∙ ap (λ l. over l o d) z-filled ∙ over-zeros x o d in
    let size-w : size ≡ length w = size-is ∙ omega (arith, held-is, length-written x o d) ∙ sym (ap length w-written) in
    take_at w (drop (length w) z) size (sym size-w) ∙ w-written ∙ sym (patch_at-some x o d some)
