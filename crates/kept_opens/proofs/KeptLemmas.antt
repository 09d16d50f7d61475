-- The whole text: what its parts are, and which opens have it.
use Rattle.std.proofs.Common.{◌≡◌, ◌<◌, ◌^◌, ℕ, ◌+◌, ◌-◌, ◌*◌, ◌++◌, List, [], ◌∷◌, length, take, drop, map, get_or, slice_index}
use Rattle.std.proofs.Common.{refl, sym, ◌∙◌, ap, arith, length-drop, subst}
use Rattle.std.proofs.lemmas.List.{take_at, drop_at, take-append-drop, length-append, drop-take, length-take-le, take-take}
use Rattle.std.proofs.lemmas.List.{drop-drop, flat_map_more, take_more}
use Rattle.std.proofs.lemmas.List.Elements.{All-head, All-tail}
use Rattle.byteorder.specs.Endian.{little_bytes}
use Rattle.byteorder.specs.Numbers.{little_number-reads_back, little_from-lt}
use Rattle.sha2.specs.Sha256.{sha256}
use Rattle.sha2.proofs.Facts256.{length-sha256}
use Rattle.lease_wire.specs.Field.{number_at}
use Rattle.lease_manager.specs.declared.values.kept.KeptOpen.{KeptOpen}
use Rattle.lease_state.specs.State.{bits_of_state}
use Rattle.lease_state.specs.declared.access.Access.{Access}
use Rattle.lease_state.specs.declared.access.Share.{Share}
use Rattle.kept_opens.specs.Entry.{entry_of, entry_bytes, IsNamed}
use Rattle.kept_opens.specs.Kept.{magic, entries_bytes, kept_text, kept_bytes, AllHaveKeys, AllBorne, AllNamed, IsKept, HoldsKept}
use Rattle.kept_opens.specs.Laws.{IsUnique}
use Rattle.kept_opens.specs.Kept.{HoldsNone, IsSealed, HoldsEntries, HoldsNoEntries}
use Rattle.kept_opens.proofs.EntryLemmas.{field_written}
use Rattle.kept_opens.proofs.EntriesLemmas.{length_entries, have_keys, same_entries}

-- ---- the parts of what is written

length_text : (last : ℕ) (kept : List KeptOpen) → AllHaveKeys kept → length (kept_text last kept) ≡ 24 + 48 * length kept
unfolding kept_text
length_text last kept keys = let size = length_entries kept keys in omega arith

length_kept : (last : ℕ) (kept : List KeptOpen) → AllHaveKeys kept → length (kept_bytes last kept) ≡ 56 + 48 * length kept
length_kept last kept keys =
    let both = length-append (kept_text last kept) (sha256 (kept_text last kept)) in
    let text = length_text last kept keys in
    let digest = length-sha256 (kept_text last kept) in
    omega arith

begins : (last : ℕ) (kept : List KeptOpen) → take 8 (kept_bytes last kept) ≡ magic
unfolding kept_text
begins last kept = refl

last_read : (last : ℕ) (kept : List KeptOpen) → last < 2 ^ 64 → number_at 8 8 (kept_bytes last kept) ≡ last
unfolding kept_text
last_read last kept fits = little_number-reads_back 8 last
    ((little_bytes 8 (length kept) ++ entries_bytes kept) ++ sha256 (kept_text last kept)) fits

count_read : (last : ℕ) (kept : List KeptOpen) → length kept < 2 ^ 64 → number_at 16 8 (kept_bytes last kept) ≡ length kept
unfolding kept_text
count_read last kept fits = little_number-reads_back 8 (length kept) (entries_bytes kept ++ sha256 (kept_text last kept)) fits

after_heading : (last : ℕ) (kept : List KeptOpen)
    → drop 24 (kept_bytes last kept) ≡ entries_bytes kept ++ sha256 (kept_text last kept)
unfolding kept_text
after_heading last kept = refl

entries_read : (last : ℕ) (kept : List KeptOpen) → AllHaveKeys kept
    → take (length (kept_bytes last kept) - 56) (drop 24 (kept_bytes last kept)) ≡ entries_bytes kept
entries_read last kept keys =
    let whole = length_kept last kept keys in
    let part = length_entries kept keys in
    ap (λ (xs : List ℕ). take (length (kept_bytes last kept) - 56) xs) (after_heading last kept)
    ∙ take_at (entries_bytes kept) (sha256 (kept_text last kept)) (length (kept_bytes last kept) - 56) (omega arith)

text_size : (last : ℕ) (kept : List KeptOpen) → AllHaveKeys kept
    → length (kept_text last kept) ≡ length (kept_bytes last kept) - 32
text_size last kept keys =
    let whole = length_kept last kept keys in
    let part = length_text last kept keys in
    omega arith

written_is_sealed : (last : ℕ) (kept : List KeptOpen) → AllHaveKeys kept → length (kept_bytes last kept) < 2 ^ 64
    → IsSealed (kept_bytes last kept)
written_is_sealed last kept keys fits =
    let whole = length_kept last kept keys in
    let count = count_read last kept (omega arith) in
    let size = text_size last kept keys in
    record {
      size = rw count whole;
      begins = begins last kept;
      digest = drop_at (kept_text last kept) (sha256 (kept_text last kept)) _ size
          ∙ ap sha256 (sym (take_at (kept_text last kept) (sha256 (kept_text last kept)) _ size));
    }

-- ---- the text while it is written

-- what is written once these opens are, of so many
pub text_so_far : ℕ → ℕ → List KeptOpen → List ℕ
text_so_far last count opens = (magic ++ (little_bytes 8 last ++ little_bytes 8 count)) ++ entries_bytes opens

pub text_begun : (last count : ℕ) → magic ++ (little_bytes 8 last ++ little_bytes 8 count) ≡ text_so_far last count []
unfolding text_so_far
text_begun last count = refl

text_pushed : (last count : ℕ) (opens : List KeptOpen) (one : KeptOpen)
    → text_so_far last count opens ++ entry_bytes (entry_of one) ≡ text_so_far last count (opens ++ one ∷ [])
unfolding text_so_far
text_pushed last count opens one =
    flat_map_more (λ x. entry_bytes (entry_of x)) (magic ++ (little_bytes 8 last ++ little_bytes 8 count)) opens one

-- one more open of a list
pub text_more : (last count : ℕ) (kept : List KeptOpen) (i : ℕ) (d : KeptOpen) (text entry : List ℕ) → i < length kept
    → text ≡ text_so_far last count (take i kept) → entry ≡ entry_bytes (entry_of (get_or kept i d))
    → text ++ entry ≡ text_so_far last count (take (i + 1) kept)
text_more last count kept i d text entry within so_far is =
    rw (so_far, is, take_more kept i d within) (text_pushed last count (take i kept) (get_or kept i d))

pub text_ended : (last : ℕ) (kept : List KeptOpen) → text_so_far last (length kept) kept ≡ kept_text last kept
unfolding text_so_far kept_text
text_ended last kept = refl

-- ---- which opens have bytes

-- bytes that are not sealed are none's
pub not_sealed : (bytes : List ℕ) → length bytes < 2 ^ 64 → (IsSealed bytes → ⊥) → HoldsNone bytes
not_sealed bytes fits broken last kept keys e =
    broken (subst (λ xs. IsSealed xs) e (written_is_sealed last kept keys (rw e fits)))

-- nor are those whose opens' bytes are none's
pub no_entries : (bytes : List ℕ) → HoldsNoEntries (take (length bytes - 56) (drop 24 bytes)) → HoldsNone bytes
no_entries bytes none last kept keys e =
    none kept keys (subst (λ (xs : List ℕ). entries_bytes kept ≡ take (length xs - 56) (drop 24 xs)) e
    (sym (entries_read last kept keys)))

four_lists : (a a' b b' c c' d d' : List ℕ) → a ≡ a' → b ≡ b' → c ≡ c' → d ≡ d' → a ++ (b ++ (c ++ d)) ≡ a' ++ (b' ++ (c' ++ d'))
four_lists a a' b b' c c' d d' ea eb ec ed = rw (ea, eb, ec, ed) refl

cut : (n m : ℕ) (xs : List ℕ) → take (n + m) xs ≡ take n xs ++ take m (drop n xs)
cut n m xs = sym (take-append-drop n (take (n + m) xs)) ∙ rw (take-take n (n + m) xs (omega arith), drop-take n m xs) refl

-- the text before the digest, cut into its parts
cut_text : (n : ℕ) (xs : List ℕ)
    → take (8 + (8 + (8 + n))) xs ≡ take 8 xs ++ (take 8 (drop 8 xs) ++ (take 8 (drop 16 xs) ++ take n (drop 24 xs)))
cut_text n xs =
    cut 8 (8 + (8 + n)) xs ∙ ap (λ rest. take 8 xs ++ rest) (
    cut 8 (8 + n) (drop 8 xs) ∙ ap (λ rest. take 8 (drop 8 xs) ++ rest) (
    rw (drop-drop 8 8 xs) (cut 8 n (drop 16 xs))
    ∙ ap (λ (rest : List ℕ). take 8 (drop 16 xs) ++ take n rest) (drop-drop 8 16 xs)))

module _ (bytes : List ℕ) (is : IsSealed bytes) (are : (place : ℕ) → slice_index bytes place < 256) (kept : List KeptOpen)
    (borne : AllBorne kept) (named : AllNamed kept)
    (e : entries_bytes kept ≡ take (length bytes - 56) (drop 24 bytes)) where
  count : length kept ≡ number_at 16 8 bytes
  count =
      let size = is.size in
      let part = length_entries kept (have_keys kept borne) in
      let after = length-drop {A = ℕ} 24 bytes in
      let cut = length-take-le (length bytes - 56) (drop 24 bytes) (omega arith) in
      let same = ap (λ (xs : List ℕ). length xs) e in
      omega arith

  text : kept_text (number_at 8 8 bytes) kept ≡ take (length bytes - 32) bytes
  unfolding kept_text
  text =
      let size = is.size in
      let long : length bytes - 32 ≡ 8 + (8 + (8 + (length bytes - 56))) = omega arith in
      four_lists _ _ _ _ _ _ _ _
      (sym is.begins)
      (field_written 8 bytes (omega arith) are)
      (ap (λ (n : ℕ). little_bytes 8 n) count ∙ field_written 16 bytes (omega arith) are)
      e
      ∙ sym (ap (λ (n : ℕ). take n bytes) long ∙ cut_text (length bytes - 56) bytes)

  -- sealed bytes with these opens' bytes in them are theirs
  pub sealed_kept : IsKept bytes (number_at 8 8 bytes) kept
  sealed_kept = record {
    fits = little_from-lt 0 8 (drop 8 bytes) (λ at. small at);
    borne = borne;
    named = named;
    laid = ap (λ xs. xs ++ sha256 xs) text
        ∙ ap (λ xs. take (length bytes - 32) bytes ++ xs) (sym is.digest)
        ∙ take-append-drop (length bytes - 32) bytes;
  }
    where
      small : (at : ℕ) → slice_index (drop 8 bytes) at < 256
      small at = grind (arith, are (8 + at))

pub sealed_holds : (bytes : List ℕ) → IsSealed bytes → ((place : ℕ) → slice_index bytes place < 256)
    → HoldsEntries (take (length bytes - 56) (drop 24 bytes)) → HoldsKept bytes
sealed_holds bytes is are (kept, borne, named, e) = (number_at 8 8 bytes, kept, sealed_kept bytes is are kept borne named e)

-- ---- lists with the same bytes

module _ (last other_last : ℕ) (kept other : List KeptOpen) (borne : AllBorne kept) (others_borne : AllBorne other)
    (e : kept_bytes last kept ≡ kept_bytes other_last other) where
  pub same_last : last < 2 ^ 64 → other_last < 2 ^ 64 → last ≡ other_last
  same_last fits other_fits =
      sym (last_read last kept fits) ∙ ap (λ (xs : List ℕ). number_at 8 8 xs) e ∙ last_read other_last other other_fits

  pub same_kept : map entry_of kept ≡ map entry_of other
  same_kept = same_entries kept other borne others_borne
      (sym (entries_read last kept (have_keys kept borne))
      ∙ ap (λ (xs : List ℕ). take (length xs - 56) (drop 24 xs)) e
      ∙ entries_read other_last other (have_keys other others_borne))

-- ---- the same opens

open_of : ℕ → ℕ → ℕ → List ℕ → Access → Share → ℕ → KeptOpen
open_of f c g k a s t = record {
  file_id = record { 0 = f };
  client = record { 0 = c };
  file = record { 0 = g };
  key = record { 0 = k };
  access = a;
  share = s;
  state = record { 0 = t };
}

same_parts : (f f' c c' g g' : ℕ) (k k' : List ℕ) (a a' : Access) (s s' : Share) (t t' : ℕ) → f ≡ f' → c ≡ c' → g ≡ g'
    → k ≡ k' → a ≡ a' → s ≡ s' → t ≡ t' → open_of f c g k a s t ≡ open_of f' c' g' k' a' s' t'
same_parts f f' c c' g g' k k' a a' s s' t t' ef ec eg ek ea es et = rw (ef, ec, eg, ek, ea, es, et) refl

same_open : (one other : KeptOpen) → IsNamed one → IsNamed other → entry_of one ≡ entry_of other → one ≡ other
unfolding open_of
same_open one other named other_named e = same_parts
    one.file_id.0 other.file_id.0 one.client.0 other.client.0 one.file.0 other.file.0 one.key.0 other.key.0
    one.access other.access one.share other.share one.state.0 other.state.0
    (ap (λ v. v.file_id) e) (ap (λ v. v.client) e) (ap (λ v. v.file) e) (ap (λ v. v.key) e)
    (ap (λ v. v.access) e) (ap (λ v. v.share) e)
    (sym named ∙ ap (λ v. bits_of_state v.state) e ∙ other_named)

cons_heads : {X : Type 0} (x y : X) (xs ys : List X) → x ∷ xs ≡ y ∷ ys → x ≡ y
cons_heads x y xs ys e = cc

cons_tails : {X : Type 0} (x y : X) (xs ys : List X) → x ∷ xs ≡ y ∷ ys → xs ≡ ys
cons_tails x y xs ys e = cc

both_same : {X : Type 0} (x y : X) (xs ys : List X) → x ≡ y → xs ≡ ys → x ∷ xs ≡ y ∷ ys
both_same x y xs ys e es = rw (e, es) refl

pub same_opens : (kept other : List KeptOpen) → AllNamed kept → AllNamed other → map entry_of kept ≡ map entry_of other
    → kept ≡ other
same_opens [] [] named others_named e = refl
same_opens [] (first ∷ other) named others_named e = cc e
same_opens (one ∷ kept) [] named others_named e = cc e
same_opens (one ∷ kept) (first ∷ other) named others_named e = both_same one first kept other
    (same_open one first (All-head (λ x. IsNamed x) one kept named) (All-head (λ x. IsNamed x) first other others_named)
    (cons_heads _ _ _ _ e))
    (same_opens kept other (All-tail (λ x. IsNamed x) one kept named) (All-tail (λ x. IsNamed x) first other others_named)
    (cons_tails _ _ _ _ e))

-- no bytes hold two lists of opens
pub only_one : IsUnique
only_one bytes last other_last kept other is others_is =
    let e = is.laid ∙ sym others_is.laid in (
      same_last last other_last kept other is.borne others_is.borne e is.fits others_is.fits,
      same_opens kept other is.named others_is.named (same_kept last other_last kept other is.borne others_is.borne e),
    )
