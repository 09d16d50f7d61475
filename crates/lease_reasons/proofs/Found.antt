-- Places that are found, against what the definitions say of a past.
use Rattle.lease_laws.proofs.Words.{◌&&◌, ◌+◌, ◌==◌, ◌||◌, ◌∙◌, ◌∷◌, ◌≡◌, ◌≤◌, Bool, ClientNo, Fact, FileNo, List, None, Option}
use Rattle.lease_laws.proofs.Words.{Some, ℕ, [], ap, arith, both_ways, false, has_buffered, has_joined}
use Rattle.lease_laws.proofs.Words.{if◌then◌else◌, is_some, is_started, is_touched, length, nat_le, not, refl}
use Rattle.lease_laws.proofs.Words.{sym, true}
use Rattle.std.proofs.lemmas.Bool.{le-leb}
use Rattle.lease_model.specs.records.Past.{has_number}
use Rattle.lease_reasons.specs.Marks.{fits}
use Rattle.lease_reasons.specs.Places.{last_place, first_place, earlier}
use Rattle.lease_reasons.specs.declared.marks.Mark.TheVariants as mark

here_or_before : (b r : Bool) (n : ℕ) (before : Option ℕ) → is_some before ≡ r → is_some (if b then Some n else before) ≡ (b || r)
here_or_before b r n before e = grind arith

pub started_place : (file : FileNo) (past : List Fact) → is_some (last_place (fits (mark.Start file)) past) ≡ is_started file.0
    past
unfolding last_place fits is_started
started_place file [] = refl
started_place file (Fact.Start other bytes ∷ past) =
    here_or_before (other == file.0) (is_started file.0 past) (length past + 1) _ (started_place file past)
started_place file (_ ∷ past) = started_place file past

pub joined-place : (client : ClientNo) (past : List Fact)
    → is_some (last_place (fits (mark.Joining client)) past) ≡ has_joined client.0 past
unfolding last_place fits has_joined
joined-place client [] = refl
joined-place client (Fact.Joined other ∷ past) =
    here_or_before (other == client.0) (has_joined client.0 past) (length past + 1) _ (joined-place client past)
joined-place client (_ ∷ past) = joined-place client past

pub number-place : (client : ClientNo) (number : ℕ) (past : List Fact)
    → is_some (last_place (fits (mark.Write client number)) past) ≡ has_number client.0 number past
unfolding last_place fits has_number
number-place client number [] = refl
number-place client number (Fact.Wrote writer file used patch buffered ∷ past) =
    here_or_before (writer == client.0 && used == number) (has_number client.0 number past) (length past + 1) _
    (number-place client number past)
number-place client number (_ ∷ past) = number-place client number past

-- ---- the first place

-- it stands before the one behind the past
pub first-inside : (test : Fact → Bool) (behind : ℕ) (past : List Fact) (place : ℕ)
    → first_place test behind past ≡ Some place → place ≤ length past
unfolding first_place
first-inside test behind [] place e = let no : ⊥ = cc in absurd no
first-inside test behind (fact ∷ past) place e =
    let inside : place ≤ length past + 1 =
    go (first_place test behind past) (nat_le behind (length past) && test fact) (first-inside test behind past place) e in
    omega arith
  where
    go : (before : Option ℕ) (b : Bool) → (before ≡ Some place → place ≤ length past)
        → earlier before (if b then Some (length past + 1) else None) ≡ Some place → place ≤ length past + 1
    go before b inside e = grind arith

-- there is one: here, or before
first-or : (before : Option ℕ) (b r : Bool) (n : ℕ) → is_some before ≡ r
    → is_some (earlier before (if b then Some n else None)) ≡ (b || r)
first-or before b r n e = grind arith

buffered-here : (client : ClientNo) (file : FileNo) (number : ℕ) (fact : Fact) (past : List Fact) (r : Bool)
    → is_some (first_place (fits (mark.Buffering client file number)) 0 past) ≡ r
    → is_some (first_place (fits (mark.Buffering client file number)) 0 (fact ∷ past)) ≡ (fits (mark.Buffering client file number)
    fact || r)
unfolding first_place
buffered-here client file number fact past r e = grind arith

pub buffered-place : (client : ClientNo) (file : FileNo) (number : ℕ) (past : List Fact)
    → is_some (first_place (fits (mark.Buffering client file number)) 0 past) ≡ has_buffered client.0 file.0 number past
unfolding first_place fits has_buffered
buffered-place client file number [] = refl
buffered-place client file number (Fact.Wrote writer other used patch buffered ∷ past) =
    buffered-here client file number (Fact.Wrote writer other used patch buffered) past _ (buffered-place client file number past)
buffered-place client file number (fact ∷ past) =
    buffered-here client file number fact past _ (buffered-place client file number past)

-- nothing is touched by others before it is buffered
untouched : (client file number : ℕ) (past : List Fact) → has_buffered client file number past ≡ false
    → is_touched client file number past ≡ false
unfolding has_buffered is_touched
untouched client file number [] e = refl
untouched client file number (Fact.Opened other opener ∷ past) e =
    rw (e, untouched client file number past e) (none_of (other == file) (not (opener == client)))
  where
    none_of : (a b : Bool) → (a && b && false || false) ≡ false
    none_of a b = grind arith
untouched client file number (Fact.Changed other writer used patch ∷ past) e =
    rw (e, untouched client file number past e) (none_of (other == file) (not (writer == client)))
  where
    none_of : (a b : Bool) → (a && b && false || false) ≡ false
    none_of a b = grind arith
untouched client file number (Fact.Wrote writer other used patch buffered ∷ past) e =
    untouched client file number past (later _ (has_buffered client file number past) e)
  where
    later : (a b : Bool) → (a || b) ≡ false → b ≡ false
    later a b e = grind arith
untouched client file number (_ ∷ past) e = untouched client file number past e

touched-is : (client : ClientNo) (file : FileNo) (number : ℕ) (fact : Fact) (past : List Fact)
    → is_touched client.0 file.0 number (fact ∷ past)
    ≡ (fits (mark.Touch client file) fact && has_buffered client.0 file.0 number past || is_touched client.0 file.0 number past)
unfolding fits is_touched
touched-is client file number fact past = grind arith

touch-or : (t h i r : Bool) → (t && h || i) ≡ true → (i ≡ true → r ≡ true) → (t || r) ≡ true
touch-or t h i r e f = grind arith

-- the first that another client does to the file behind the buffered write
pub touched-place : (client : ClientNo) (file : FileNo) (number : ℕ) (past : List Fact) (wrote : ℕ)
    → first_place (fits (mark.Buffering client file number)) 0 past ≡ Some wrote → is_touched client.0 file.0 number past ≡ true
    → is_some (first_place (fits (mark.Touch client file)) wrote past) ≡ true
unfolding first_place is_touched
touched-place client file number [] wrote found touched = absurd (both_ways _ refl touched)
touched-place client file number (fact ∷ past) wrote found touched =
    go (first_place (fits (mark.Buffering client file number)) 0 past) refl found
    (λ at t. touched-place client file number past wrote at t)
  where
    later : (fits (mark.Touch client file) fact && has_buffered client.0 file.0 number past || is_touched client.0 file.0 number
        past) ≡ true
    later = sym (touched-is client file number fact past) ∙ touched

    go : (before : Option ℕ) → first_place (fits (mark.Buffering client file number)) 0 past ≡ before
        → earlier before (if nat_le 0 (length past) && fits (mark.Buffering client file number) fact then Some (length past + 1)
        else None) ≡ Some wrote
        → (first_place (fits (mark.Buffering client file number)) 0 past ≡ Some wrote → is_touched client.0 file.0 number past ≡
        true → is_some (first_place (fits (mark.Touch client file)) wrote past) ≡ true)
        → is_some (first_place (fits (mark.Touch client file)) wrote (fact ∷ past)) ≡ true
    go None e f before =
        let none : has_buffered client.0 file.0 number past ≡ false =
        sym (buffered-place client file number past) ∙ ap (λ (o : Option ℕ). is_some o) e in
        absurd (both_ways _ (no_touch (fits (mark.Touch client file) fact) _ _ none (untouched client.0 file.0 number past none))
        later)
      where
        no_touch : (t h i : Bool) → h ≡ false → i ≡ false → (t && h || i) ≡ false
        no_touch t h i a b = grind arith
    go (Some one) e f before =
        let same : one ≡ wrote = cc in
        let at : first_place (fits (mark.Buffering client file number)) 0 past ≡ Some wrote = e ∙ ap (λ (n : ℕ). Some n) same in
        let inside : nat_le wrote (length past) ≡ true =
        le-leb wrote (length past) (first-inside (fits (mark.Buffering client file number)) 0 past wrote at) in
        rw inside (first-or (first_place (fits (mark.Touch client file)) wrote past) (fits (mark.Touch client file) fact) _
        (length past + 1) refl ∙ touch-or (fits (mark.Touch client file) fact) _ _ _ later (λ t. before at t))

-- what is touched by others was buffered
pub buffered-if_touched : (client : ClientNo) (file : FileNo) (number : ℕ) (past : List Fact)
    → is_touched client.0 file.0 number past ≡ true
    → is_some (first_place (fits (mark.Buffering client file number)) 0 past) ≡ true
buffered-if_touched client file number past touched =
    buffered-place client file number past ∙ go (has_buffered client.0 file.0 number past) refl
  where
    go : (b : Bool) → has_buffered client.0 file.0 number past ≡ b → b ≡ true
    go true e = refl
    go false e = absurd (both_ways _ (untouched client.0 file.0 number past e) touched)
