-- In a record that is well formed a client uses the number of a write once: on one file, and with one patch.
use Rattle.lease_laws.proofs.Words.{◌&&◌, ◌==◌, ◌||◌, ◌∙◌, ◌∷◌, ◌≡◌, Bool, EachFact, Fact, List, Patch, WellFormed, ℕ, []}
use Rattle.lease_laws.proofs.Words.{⊎_elim, ap, bytes_eq, bytes_eq-Decides, eq-eqb, eqb-true, false, has_buffered, has_written}
use Rattle.lease_laws.proofs.Words.{is_started, is_touched, is_well_formed, is_within_limit, not, refl, same_patch, sym, true}
use Rattle.lease_laws.proofs.Words.{true≢false}
use Rattle.lease_model.specs.records.Past.{has_number}
use Rattle.lease_laws.proofs.server.Lists.{and_both, and_parts, or_true, true_or}

-- the number of a write that was given is used
pub written_number : (c file number : ℕ) (patch : Patch) (past : List Fact)
    → has_written c file number patch past ≡ true → has_number c number past ≡ true
unfolding has_written has_number
written_number c file number patch [] e = absurd (true≢false (sym e))
written_number c file number patch (Fact.Wrote writer other used bytes buffered ∷ past) e = ⊎_elim
    (λ now. let p = and_parts (writer == c && other == file) (used == number)
    (and_parts (writer == c && other == file && used == number) (same_patch bytes patch) now).0 in
    true_or (writer == c && used == number) (has_number c number past)
    (and_both (writer == c) (used == number) (and_parts (writer == c) (other == file) p.0).0 p.1))
    (λ before. later (writer == c && used == number) (has_number c number past) (written_number c file number patch past before))
    (or_true _ (has_written c file number patch past) e)
  where
    later : (a b : Bool) → b ≡ true → (a || b) ≡ true
    later true b e = refl
    later false b e = e
written_number c file number patch (_ ∷ past) e = written_number c file number patch past e

-- so is that of one that was buffered
pub buffered_number : (c file number : ℕ) (past : List Fact) → has_buffered c file number past ≡ true
    → has_number c number past ≡ true
unfolding has_buffered has_number
buffered_number c file number [] e = absurd (true≢false (sym e))
buffered_number c file number (Fact.Wrote writer other used bytes buffered ∷ past) e = ⊎_elim
    (λ now. let p = and_parts (writer == c && other == file) (used == number)
    (and_parts (writer == c && other == file && used == number) buffered now).0 in
    true_or (writer == c && used == number) (has_number c number past)
    (and_both (writer == c) (used == number) (and_parts (writer == c) (other == file) p.0).0 p.1))
    (λ before. later (writer == c && used == number) (has_number c number past) (buffered_number c file number past before))
    (or_true _ (has_buffered c file number past) e)
  where
    later : (a b : Bool) → b ≡ true → (a || b) ≡ true
    later true b e = refl
    later false b e = e
buffered_number c file number (_ ∷ past) e = buffered_number c file number past e

-- one that was buffered was given, with some patch
pub buffered_written : (c file number : ℕ) (past : List Fact) → has_buffered c file number past ≡ true
    → (patch : Patch) × (has_written c file number patch past ≡ true)
unfolding has_buffered has_written
buffered_written c file number [] e = absurd (true≢false (sym e))
buffered_written c file number (Fact.Wrote writer other used bytes buffered ∷ past) e = ⊎_elim
    (λ now. (
      bytes,
      true_or (writer == c && other == file && used == number && same_patch bytes bytes) (has_written c file number bytes past)
          (and_both (writer == c && other == file && used == number) (same_patch bytes bytes)
          (and_parts (writer == c && other == file && used == number) buffered now).0
          (and_both (bytes.offset == bytes.offset) (bytes_eq bytes.bytes bytes.bytes)
          (eq-eqb bytes.offset bytes.offset refl) ((bytes_eq-Decides bytes.bytes bytes.bytes).1 refl))),
    ))
    (λ before. let w = buffered_written c file number past before in (
      w.0,
      later (writer == c && other == file && used == number && same_patch bytes w.0) (has_written c file number w.0 past) w.1,
    )) (or_true _ (has_buffered c file number past) e)
  where
    later : (a b : Bool) → b ≡ true → (a || b) ≡ true
    later true b e = refl
    later false b e = e
buffered_written c file number (_ ∷ past) e = buffered_written c file number past e

same_bytes : (a b : List ℕ) → bytes_eq a b ≡ true → a ≡ b
same_bytes a b e = (bytes_eq-Decides a b).0 e

same_patches : (one other : Patch) → same_patch one other ≡ true → one ≡ other
same_patches one other e = let p = and_parts (one.offset == other.offset) _ e in
    alike one.offset other.offset one.bytes other.bytes (eqb-true one.offset other.offset p.0)
    (same_bytes one.bytes other.bytes p.1)
  where
    made : ℕ → List ℕ → Patch
    made o b = record { offset = o; bytes = b }

    alike : (o n : ℕ) (b d : List ℕ) → o ≡ n → b ≡ d → made o b ≡ made n d
    alike o n b d e f = rw (e, f) refl

pub record IsOneWrite (file other : ℕ) (patch bytes : Patch) : Type 0 where
  pub file_is : file ≡ other
  pub patch_is : patch ≡ bytes

pub written_once : (c file other number : ℕ) (patch bytes : Patch) (past : List Fact) → EachFact WellFormed past
    → has_written c file number patch past ≡ true → has_written c other number bytes past ≡ true
    → IsOneWrite file other patch bytes
unfolding has_written is_well_formed
written_once c file other number patch bytes [] well e f = absurd (true≢false (sym e))
written_once c file other number patch bytes (Fact.Wrote writer of_file used was buffered ∷ past) well e f = ⊎_elim
    (λ now. ⊎_elim
    (λ again. let p = (parts_of file patch now).1 in let q = (parts_of other bytes again).1 in record {
      file_is = sym (eqb-true of_file file p.0) ∙ eqb-true of_file other q.0;
      patch_is = sym (same_patches was patch p.1) ∙ same_patches was bytes q.1;
    })
    (λ before. absurd (used_by (parts_of file patch now).0 (written_number c other number bytes past before)))
    (or_true _ (has_written c other number bytes past) f))
    (λ before. ⊎_elim
    (λ again. absurd (used_by (parts_of other bytes again).0 (written_number c file number patch past before)))
    (λ earlier. written_once c file other number patch bytes past well.1 before earlier)
    (or_true _ (has_written c other number bytes past) f)) (or_true _ (has_written c file number patch past) e)
  where
    new : not (has_number writer used past) ≡ true
    new = (and_parts (is_started of_file past && is_within_limit was) (not (has_number writer used past)) well.0).1

    clashing : (b : Bool) → not b ≡ true → b ≡ true → ⊥
    clashing true e f = true≢false (sym e)
    clashing false e f = true≢false (sym f)

    used_by : ((writer == c) ≡ true) × ((used == number) ≡ true) → has_number c number past ≡ true → ⊥
    used_by by has = clashing (has_number writer used past) new (ap (λ w. has_number w used past) (eqb-true writer c by.0)
        ∙ ap (λ n. has_number c n past) (eqb-true used number by.1) ∙ has)

    parts_of : (at : ℕ) (p : Patch) → (writer == c && of_file == at && used == number && same_patch was p) ≡ true
        → (((writer == c) ≡ true) × ((used == number) ≡ true)) × (((of_file == at) ≡ true) × (same_patch was p ≡ true))
    parts_of at p now =
        let a = and_parts (writer == c && of_file == at && used == number) (same_patch was p) now in
        let b = and_parts (writer == c && of_file == at) (used == number) a.0 in
        let d = and_parts (writer == c) (of_file == at) b.0 in ((d.0, b.1), (d.1, a.1))
written_once c file other number patch bytes (Fact.Start at was ∷ past) well e f =
    written_once c file other number patch bytes past well.1 e f
written_once c file other number patch bytes (_ ∷ past) well e f = written_once c file other number patch bytes past well.1 e f

-- what wasn't buffered isn't touched
pub unbuffered_clean : (c file number : ℕ) (past : List Fact) → has_buffered c file number past ≡ false
    → is_touched c file number past ≡ false
unfolding has_buffered is_touched
unbuffered_clean c file number [] e = refl
unbuffered_clean c file number (Fact.Wrote writer other used bytes buffered ∷ past) e =
    unbuffered_clean c file number past (none _ _ e)
  where
    none : (a b : Bool) → (a || b) ≡ false → b ≡ false
    none true b e = let x : ⊥ = cc in absurd x
    none false b e = e
unbuffered_clean c file number (Fact.Opened other opener ∷ past) e =
    never (other == file && not (opener == c)) (has_buffered c file number past) (is_touched c file number past) e
    (unbuffered_clean c file number past e)
  where
    never : (a b t : Bool) → b ≡ false → t ≡ false → ((a && b) || t) ≡ false
    never true b t e f = rw (e, f) refl
    never false b t e f = f
unbuffered_clean c file number (Fact.Changed other writer used patch ∷ past) e =
    never (other == file && not (writer == c)) (has_buffered c file number past) (is_touched c file number past) e
    (unbuffered_clean c file number past e)
  where
    never : (a b t : Bool) → b ≡ false → t ≡ false → ((a && b) || t) ≡ false
    never true b t e f = rw (e, f) refl
    never false b t e f = f
unbuffered_clean c file number (_ ∷ past) e = unbuffered_clean c file number past e
