-- The 48 bytes of one open: what is written there is read there, and what was read there is written there.
use Rattle.std.proofs.Common.{◌≡◌, ◌≢◌, ◌<◌, ◌≤◌, ℕ, ◌+◌, ◌++◌, List, ◌∷◌, length, take, drop}
use Rattle.std.proofs.Common.{slice_index, refl, sym, ◌∙◌, ap, arith, length-drop}
use Rattle.std.proofs.lemmas.List.{take_at, take-append-drop, drop-drop, drop_more, get_or-drop, length-take-le}
use Rattle.std.proofs.lemmas.Nat.{le_bytes_8}
use Rattle.std.specs.Int.{w64, from_le_bytes}
use Rattle.byteorder.specs.Endian.{little_number, little_bytes}
use Rattle.byteorder.specs.Numbers.{little_number-reads_back, little_from-take}
use Rattle.lease_state.specs.Access.{uses_of, allowed_by, bits_of_uses}
use Rattle.lease_state.specs.State.{State, bits_of_state}
use Rattle.lease_state.specs.declared.access.Access.{Access}
use Rattle.lease_state.specs.declared.access.Share.{Share}
use Rattle.lease_wire.proofs.Cells.{sixteen_cells}
use Rattle.kept_opens.specs.Entry.{Entry, entry_bytes, rights_bytes, HasKey, IsBorne}

pub length_entry : (v : Entry) → HasKey v → length (entry_bytes v) ≡ 48
unfolding entry_bytes
length_entry v = sixteen_cells (λ key. length (entry_bytes (record v { key = key })) ≡ 48)
    (λ a b c d e f g h i j k l m n o p. refl) v.key

pub rights_written : (v : Entry) → HasKey v → drop 40 (entry_bytes v) ≡ rights_bytes v.access v.share v.state
unfolding entry_bytes
rights_written v = sixteen_cells (λ key. drop 40 (entry_bytes (record v { key = key })) ≡ rights_bytes v.access v.share v.state)
    (λ a b c d e f g h i j k l m n o p. refl) v.key

-- bytes without rights are no open's
pub no_rights : (xs : List ℕ) → ((access : Access) (share : Share) (state : State) → rights_bytes access share state ≢ drop 40 xs)
    → (v : Entry) → HasKey v → entry_bytes v ≢ xs
no_rights xs none v key e =
    none v.access v.share v.state (sym (rights_written v key) ∙ ap (λ (ys : List ℕ). drop 40 ys) e)

-- rights are those of 48 bytes whose last eight are theirs
pub rights_back : (xs : List ℕ) (access share state : ℕ) (reserved : List ℕ) → length xs ≡ 48 → access ≡ slice_index xs 40
    → share ≡ slice_index xs 41 → state ≡ slice_index xs 42 → drop 43 xs ≡ reserved
    → access ∷ share ∷ state ∷ reserved ≡ drop 40 xs
rights_back xs access share state reserved long ea es et er =
    rw (ea, es, et, ← er) (sym (drop_more xs 40 0 (omega arith)
    ∙ ap (λ rest. slice_index xs 40 ∷ rest) (drop_more xs 41 0 (omega arith)
    ∙ ap (λ rest. slice_index xs 41 ∷ rest) (drop_more xs 42 0 (omega arith)))))

-- ---- what is written is read

module _ (v : Entry) (is : IsBorne v) where
  file_id_read : little_number 8 (entry_bytes v) ≡ v.file_id
  unfolding entry_bytes
  file_id_read = little_number-reads_back 8 v.file_id
      (little_bytes 8 v.client ++ (little_bytes 8 v.file ++ (v.key ++ rights_bytes v.access v.share v.state))) is.file_id

  client_read : little_number 8 (drop 8 (entry_bytes v)) ≡ v.client
  unfolding entry_bytes
  client_read = little_number-reads_back 8 v.client
      (little_bytes 8 v.file ++ (v.key ++ rights_bytes v.access v.share v.state)) is.client

  file_read : little_number 8 (drop 16 (entry_bytes v)) ≡ v.file
  unfolding entry_bytes
  file_read = little_number-reads_back 8 v.file (v.key ++ rights_bytes v.access v.share v.state) is.file

  key_read : take 16 (drop 24 (entry_bytes v)) ≡ v.key
  unfolding entry_bytes
  key_read = take_at v.key (rights_bytes v.access v.share v.state) 16 is.key

access_same : (a b : Access) → bits_of_uses (uses_of a) ≡ bits_of_uses (uses_of b) → a ≡ b
access_same a b e = grind arith

share_same : (a b : Share) → bits_of_uses (allowed_by a) ≡ bits_of_uses (allowed_by b) → a ≡ b
share_same a b e = grind arith

state_same : (a b : State) → bits_of_state a ≡ bits_of_state b → a ≡ b
state_same a b e = grind arith

same_entry : (f f' c c' g g' : ℕ) (k k' : List ℕ) (a a' : Access) (s s' : Share) (t t' : State) → f ≡ f' → c ≡ c' → g ≡ g'
    → k ≡ k' → a ≡ a' → s ≡ s' → t ≡ t'
    → ◌≡◌ {A = Entry} (record { file_id = f; client = c; file = g; key = k; access = a; share = s; state = t })
    (record { file_id = f'; client = c'; file = g'; key = k'; access = a'; share = s'; state = t' })
same_entry f f' c c' g g' k k' a a' s s' t t' ef ec eg ek ea es et = rw (ef, ec, eg, ek, ea, es, et) refl

-- no bytes are those of two
pub one_entry : (v w : Entry) → IsBorne v → IsBorne w → entry_bytes v ≡ entry_bytes w → v ≡ w
one_entry v w vs ws e =
    let rights = sym (rights_written v vs.key) ∙ ap (λ (xs : List ℕ). drop 40 xs) e ∙ rights_written w ws.key in
    same_entry _ _ _ _ _ _ _ _ _ _ _ _ _ _
    (sym (file_id_read v vs) ∙ ap (λ (xs : List ℕ). little_number 8 xs) e ∙ file_id_read w ws)
    (sym (client_read v vs) ∙ ap (λ (xs : List ℕ). little_number 8 (drop 8 xs)) e ∙ client_read w ws)
    (sym (file_read v vs) ∙ ap (λ (xs : List ℕ). little_number 8 (drop 16 xs)) e ∙ file_read w ws)
    (sym (key_read v vs) ∙ ap (λ (xs : List ℕ). take 16 (drop 24 xs)) e ∙ key_read w ws)
    (access_same v.access w.access (ap (λ (xs : List ℕ). slice_index xs 0) rights))
    (share_same v.share w.share (ap (λ (xs : List ℕ). slice_index xs 1) rights))
    (state_same v.state w.state (ap (λ (xs : List ℕ). slice_index xs 2) rights))

-- ---- what was read is written

-- a number is written as the eight bytes that it was read from
pub number_written : (xs : List ℕ) → 8 ≤ length xs → ((place : ℕ) → slice_index xs place < 256)
    → little_bytes 8 (little_number 8 xs) ≡ take 8 xs
number_written xs long are =
    let same : little_number 8 (take 8 xs) ≡ from_le_bytes w64 (take 8 xs) = omega arith in
    le_bytes_8 (take 8 xs) (little_number 8 xs) (length-take-le 8 xs long) (small xs are)
    (sym (little_from-take 0 8 8 xs (omega arith)) ∙ same)
  where
    small : (xs : List ℕ) → ((place : ℕ) → slice_index xs place < 256) → (place : ℕ) → slice_index (take 8 xs) place < 256
    small xs are place = grind (arith, are place)

-- the same of a number at a place
pub field_written : (place : ℕ) (xs : List ℕ) → place + 8 ≤ length xs → ((place : ℕ) → slice_index xs place < 256)
    → little_bytes 8 (little_number 8 (drop place xs)) ≡ take 8 (drop place xs)
field_written place xs long are =
    let size = length-drop {A = ℕ} place xs in
    number_written (drop place xs) (omega arith) (λ at. rw (get_or-drop place xs at 0) (are (place + at)))

-- what is from a place on is a field and what is after it
cut : (place n : ℕ) (xs : List ℕ) → drop place xs ≡ take n (drop place xs) ++ drop (place + n) xs
cut place n xs = sym (rw (← drop-drop n place xs) (take-append-drop n (drop place xs)))

five_lists : (a a' b b' c c' d d' e e' : List ℕ) → a ≡ a' → b ≡ b' → c ≡ c' → d ≡ d' → e ≡ e'
    → a ++ (b ++ (c ++ (d ++ e))) ≡ a' ++ (b' ++ (c' ++ (d' ++ e')))
five_lists a a' b b' c c' d d' e e' ea eb ec ed ee = rw (ea, eb, ec, ed, ee) refl

pub entry_written : (xs : List ℕ) (access : Access) (share : Share) (state : State) → length xs ≡ 48
    → ((place : ℕ) → slice_index xs place < 256) → rights_bytes access share state ≡ drop 40 xs
    → entry_bytes (record {
      file_id = little_number 8 xs;
      client = little_number 8 (drop 8 xs);
      file = little_number 8 (drop 16 xs);
      key = take 16 (drop 24 xs);
      access = access;
      share = share;
      state = state;
    }) ≡ xs
unfolding entry_bytes
entry_written xs access share state long are rights =
    five_lists _ _ _ _ _ _ _ _ _ _
    (field_written 0 xs (omega arith) are)
    (field_written 8 xs (omega arith) are)
    (field_written 16 xs (omega arith) are)
    refl
    rights
    ∙ sym (cut 0 8 xs ∙ ap (λ rest. take 8 xs ++ rest) (
    cut 8 8 xs ∙ ap (λ rest. take 8 (drop 8 xs) ++ rest) (
    cut 16 8 xs ∙ ap (λ rest. take 8 (drop 16 xs) ++ rest) (cut 24 16 xs))))
