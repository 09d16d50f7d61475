-- The writes of a client in a record whose facts are well formed: no number is given twice.
use Rattle.lease_laws.proofs.Words.{◌&&◌, ◌+◌, ◌==◌, ◌||◌, ◌∙◌, ◌∷◌, ◌≡◌, ◌≤◌, Bool, EachFact, Fact, List, None, Option, Patch}
use Rattle.lease_laws.proofs.Words.{Some, WellFormed, ℕ, ⊤, [], arith, false, has_buffered, has_written, if◌then◌else◌}
use Rattle.lease_laws.proofs.Words.{is_accepted, is_some, is_started, is_touched, is_well_formed, is_within_limit, length, nat_lt}
use Rattle.lease_laws.proofs.Words.{not, option_map, refl, same_patch, suc, sym, true}
use Rattle.lease_model.specs.records.Past.{has_number}
use Rattle.lease_world.specs.judge.Clients.{is_buffered_before, is_accepted_write}
use Rattle.lease_world.specs.judge.Seen.{SeenWrite, accepted_as}
use Rattle.lease_world.specs.judge.Told.{write_of, last_touch}

-- ---- tests of a write

abbrev pub is_of : ℕ → Patch → Option SeenWrite → Bool
is_of file patch (Some write) = write.file == file && same_patch write.patch patch
is_of file patch None = false

abbrev pub is_buffered_on : ℕ → Option SeenWrite → Bool
is_buffered_on file (Some write) = write.file == file && write.buffered
is_buffered_on file None = false

none_from : {X : Type 0} (o : Option X) → is_some o ≡ false → o ≡ None
none_from o e = grind arith

-- ---- numbers

pub number-told : (client number : ℕ) (past : List Fact) → has_number client number past ≡ is_some (write_of client number past)
unfolding has_number write_of
number-told client number [] = refl
number-told client number (Fact.Wrote writer file used patch buffered ∷ past) =
    let later = number-told client number past in grind arith
number-told client number (Fact.Changed file writer used patch ∷ past) = let later = number-told client number past in grind arith
number-told client number (_ ∷ past) = number-told client number past

-- a write that is well formed has a new number
new_number : (a b c : Bool) → (a && b && not c) ≡ true → c ≡ false
new_number a b c e = grind arith

is_new : (client file number : ℕ) (patch : Patch) (buffered : Bool) (past : List Fact)
    → WellFormed (Fact.Wrote client file number patch buffered) past → write_of client number past ≡ None
unfolding is_well_formed
is_new client file number patch buffered past w = none_from (write_of client number past) (sym (number-told client number past)
    ∙ new_number (is_started file past) (is_within_limit patch) (has_number client number past) w)

both_so : (d c k n : ℕ) → (d == c && k == n) ≡ true → (d ≡ c) × (k ≡ n)
both_so d c k n e = grind arith

-- the same of a client and a number that may be these
pub new_where_same : (writer client used number file : ℕ) (patch : Patch) (buffered : Bool) (past : List Fact)
    → WellFormed (Fact.Wrote writer file used patch buffered) past
    → (writer == client && used == number) ≡ true → write_of client number past ≡ None
new_where_same writer client used number file patch buffered past w e =
    let same : (writer ≡ client) × (used ≡ number) = both_so writer client used number e in
    rw (← same.0, ← same.1) (is_new writer file used patch buffered past w)

-- ---- a step of a test over a list of facts, where the new fact is a Wrote or a Changed

-- the new write fails the test, and there was none of its number
fails_new : (test : Option SeenWrite → Bool) (same : Bool) (write : SeenWrite) (old : Option SeenWrite) (rest : Bool)
    → test None ≡ false → (same ≡ true → old ≡ None) → test (Some write) ≡ false
    → rest ≡ test old → rest ≡ test (if same then Some write else old)
fails_new test same write old rest none new fails e = grind arith

-- the new write may pass the test
tests_new : (test : Option SeenWrite → Bool) (same here : Bool) (write : SeenWrite) (old : Option SeenWrite) (rest : Bool)
    → test None ≡ false → (same ≡ true → old ≡ None) → (same ≡ true → here ≡ test (Some write)) → (same ≡ false → here ≡ false)
    → rest ≡ test old → (here || rest) ≡ test (if same then Some write else old)
tests_new test same here write old rest none new is other e = grind arith

-- accepting a write changes nothing that the test sees
pub keeps_test : (test : Option SeenWrite → Bool) (same : Bool) (change : SeenWrite → SeenWrite) (old : Option SeenWrite)
    (rest : Bool) → ((w : SeenWrite) → test (Some (change w)) ≡ test (Some w))
    → rest ≡ test old → rest ≡ test (if same then option_map change old else old)
keeps_test test same change old rest keeps e = grind arith

pub accepted_file : (file : ℕ) (patch : Patch) (w : SeenWrite) → (accepted_as file patch w).file ≡ w.file
accepted_file file patch w = grind arith

accepted_buffered : (file : ℕ) (patch : Patch) (w : SeenWrite) → (accepted_as file patch w).buffered ≡ w.buffered
accepted_buffered file patch w = grind arith

accepted_place : (file : ℕ) (patch : Patch) (w : SeenWrite) → (accepted_as file patch w).place ≡ w.place
accepted_place file patch w = grind arith

-- ---- the tests of a record, as tests of the write of the number

four_so : (a b c d same : Bool) → (a && c) ≡ true → (a && b && c && d) ≡ (b && d)
four_so a b c d same e = grind arith

four_not : (a b c d : Bool) → (a && c) ≡ false → (a && b && c && d) ≡ false
four_not a b c d e = grind arith

pub written-told : (client file number : ℕ) (patch : Patch) (past : List Fact) → EachFact WellFormed past
    → has_written client file number patch past ≡ is_of file patch (write_of client number past)
unfolding has_written write_of
written-told client file number patch [] w = refl
written-told client file number patch (Fact.Wrote writer other used bytes buffered ∷ past) w =
    tests_new (is_of file patch) (writer == client && used == number)
    (writer == client && other == file && used == number && same_patch bytes patch) _ (write_of client number past)
    (has_written client file number patch past) refl (new_where_same writer client used number other bytes buffered past w.0)
    (λ e. four_so (writer == client) (other == file) (used == number) (same_patch bytes patch) true e)
    (λ e. four_not (writer == client) (other == file) (used == number) (same_patch bytes patch) e)
    (written-told client file number patch past w.1)
written-told client file number patch (Fact.Changed other writer used bytes ∷ past) w =
    let later = written-told client file number patch past w.1 in grind arith
written-told client file number patch (_ ∷ past) w = written-told client file number patch past w.1

pub buffered-told : (client file number : ℕ) (past : List Fact) → EachFact WellFormed past
    → has_buffered client file number past ≡ is_buffered_on file (write_of client number past)
unfolding has_buffered write_of
buffered-told client file number [] w = refl
buffered-told client file number (Fact.Wrote writer other used bytes buffered ∷ past) w =
    tests_new (is_buffered_on file) (writer == client && used == number)
    (writer == client && other == file && used == number && buffered) _ (write_of client number past)
    (has_buffered client file number past) refl (new_where_same writer client used number other bytes buffered past w.0)
    (λ e. four_so (writer == client) (other == file) (used == number) buffered true e)
    (λ e. four_not (writer == client) (other == file) (used == number) buffered e) (buffered-told client file number past w.1)
buffered-told client file number (Fact.Changed other writer used bytes ∷ past) w =
    let later = buffered-told client file number past w.1 in grind arith
buffered-told client file number (_ ∷ past) w = buffered-told client file number past w.1

-- a Changed accepts the write where file and patch are the same
accepts_more : (same : Bool) (file : ℕ) (patch : Patch) (old : Option SeenWrite) (was rest : Bool)
    → was ≡ is_of file patch old → rest ≡ is_accepted_write old
    → ((same && was) || rest) ≡ is_accepted_write (if same then option_map (accepted_as file patch) old else old)
accepts_more same file patch old was rest w r = grind arith

pub accepted-told : (client number : ℕ) (past : List Fact) → EachFact WellFormed past
    → is_accepted client number past ≡ is_accepted_write (write_of client number past)
unfolding is_accepted write_of
accepted-told client number [] w = refl
accepted-told client number (Fact.Wrote writer other used bytes buffered ∷ past) w =
    fails_new is_accepted_write (writer == client && used == number) _ (write_of client number past)
    (is_accepted client number past) refl (new_where_same writer client used number other bytes buffered past w.0) refl
    (accepted-told client number past w.1)
accepted-told client number (Fact.Changed file writer used patch ∷ past) w =
    accepts_more (writer == client && used == number) file patch (write_of client number past)
    (has_written client file number patch past) (is_accepted client number past)
    (written-told client file number patch past w.1) (accepted-told client number past w.1)
accepted-told client number (_ ∷ past) w = accepted-told client number past w.1

-- ---- touches after a write was buffered

pub touch-bound : (client file : ℕ) (past : List Fact) → last_touch client file past ≤ length past
unfolding last_touch
touch-bound client file [] = omega arith
touch-bound client file (Fact.Opened other opener ∷ past) = let later = touch-bound client file past in grind arith
touch-bound client file (Fact.Changed other writer number patch ∷ past) = let later = touch-bound client file past in grind arith
touch-bound client file (_ ∷ past) = let le = touch-bound client file past in omega (arith, le)

abbrev PlaceWithin : Option SeenWrite → ℕ → Type 0
PlaceWithin None high = ⊤
PlaceWithin (Some write) high = write.place ≤ high

within_more : (o : Option SeenWrite) (high : ℕ) → PlaceWithin o high → PlaceWithin o (suc high)
within_more o high le = grind arith

place-within : (client number : ℕ) (past : List Fact) → PlaceWithin (write_of client number past) (length past)
unfolding write_of
place-within client number [] = tt
place-within client number (Fact.Wrote writer file used patch buffered ∷ past) =
    let later = place-within client number past in grind arith
place-within client number (Fact.Changed file writer used patch ∷ past) =
    let later = place-within client number past in grind arith
place-within client number (_ ∷ past) = within_more (write_of client number past) (length past) (place-within client number past)

below_next : (place high : ℕ) → place ≤ high → nat_lt place (high + 1) ≡ true
below_next place high le = grind arith

either_way : (a b c d : Bool) → d ≡ true → ((a && b) || (b && a && c)) ≡ (b && a && d)
either_way a b c d e = grind arith

touches_more : (touch : Bool) (file high last : ℕ) (o : Option SeenWrite) (buffered rest : Bool)
    → PlaceWithin o high → buffered ≡ is_buffered_on file o → rest ≡ is_buffered_before file last o
    → ((touch && buffered) || rest) ≡ is_buffered_before file (if touch then high + 1 else last) o
touches_more touch file high last o buffered rest le b r = grind arith

not_below : (a b : Bool) (place last high : ℕ) → last ≤ high → (a && b && nat_lt (high + 1) last) ≡ false
not_below a b place last high le = grind arith

pub touched-told : (client file number : ℕ) (past : List Fact) → EachFact WellFormed past → is_touched client file number past
    ≡ is_buffered_before file (last_touch client file past) (write_of client number past)
unfolding is_touched write_of last_touch
touched-told client file number [] w = refl
touched-told client file number (Fact.Opened other opener ∷ past) w =
    touches_more (other == file && not (opener == client)) file (length past) (last_touch client file past)
    (write_of client number past) (has_buffered client file number past) (is_touched client file number past)
    (place-within client number past) (buffered-told client file number past w.1) (touched-told client file number past w.1)
touched-told client file number (Fact.Changed other writer used patch ∷ past) w =
    keeps_test (is_buffered_before file (if other == file && not (writer == client) then length past + 1
    else last_touch client file past))
    (writer == client && used == number) (accepted_as other patch) (write_of client number past) _
    (λ v. rw (accepted_file other patch v, accepted_buffered other patch v, accepted_place other patch v) refl)
    (touches_more (other == file && not (writer == client)) file (length past) (last_touch client file past)
    (write_of client number past) (has_buffered client file number past) (is_touched client file number past)
    (place-within client number past) (buffered-told client file number past w.1) (touched-told client file number past w.1))
touched-told client file number (Fact.Wrote writer other used patch buffered ∷ past) w =
    fails_new (is_buffered_before file (last_touch client file past)) (writer == client && used == number) _
    (write_of client number past) (is_touched client file number past) refl
    (new_where_same writer client used number other patch buffered past w.0)
    (not_below buffered (other == file) 0 (last_touch client file past) (length past) (touch-bound client file past))
    (touched-told client file number past w.1)
touched-told client file number (_ ∷ past) w = touched-told client file number past w.1
