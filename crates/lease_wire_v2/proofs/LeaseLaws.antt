-- The data of a lease: what is written is read back, and what is read is written back.
use Rattle.std.proofs.Common.{◌≡◌, ℕ, ◌+◌, ◌<◌, ◌≤◌, ◌^◌, Bool, false, if◌then◌else◌, List, length, Option, Some, None, is_some}
use Rattle.std.proofs.Common.{IfSome, refl, sym, ◌∙◌, ap, subst, arith, true, zero, suc, [], ◌∷◌, ◌++◌}
use Rattle.std.specs.Int.RustNames.{bit_and}
use Rattle.std.proofs.lemmas.Nat.{and_le_r}
use Rattle.byteorder.specs.Endian.{little_bytes}
use Rattle.lease_state.specs.State.{State, state_of_bits, bits_of_state}
use Rattle.lease_wire.specs.Field.{number_at, bytes_at}
use Rattle.lease_wire.specs.declared.create.Direction.{Direction}
use Rattle.lease_wire.specs.declared.create.Direction.TheVariants.{Request, Reply}
use Rattle.capture_wire.specs.Fields.{has_flag}
use Rattle.capture_wire.specs.Contexts.{IsLeaseV2}
use Rattle.capture_wire.specs.declared.lease.LeaseV2.{LeaseV2}
use Rattle.lease_wire.proofs.Cells.{sixteen_cells}
use Rattle.lease_wire.proofs.Fields.{state_of_bits-written}
use Rattle.lease_wire_v2.specs.LeaseData.{LeaseData, lease_of, lease_in, lease_bytes, break_flag, parent_flag, parent_bytes, IsCalm}
use Rattle.lease_wire_v2.specs.LeaseData.{IsCanonicalLease, named_flags, LeaseIsRead, LeaseReadsBack, LeaseWritesBack}
use Rattle.lease_wire_v2.proofs.Bytes.{field_written, cut, cut_last, number_read}

-- leases of the same fields are one
pub same_lease : (key key' : List ℕ) (state state' : State) (breaking breaking' : Bool) (parent parent' : Option (List ℕ))
    (epoch epoch' : ℕ) → key ≡ key' → state ≡ state' → breaking ≡ breaking' → parent ≡ parent' → epoch ≡ epoch'
    → ◌≡◌ {A = LeaseData} (record { key = key; state = state; breaking = breaking; parent = parent; epoch = epoch })
    (record { key = key'; state = state'; breaking = breaking'; parent = parent'; epoch = epoch' })
same_lease key key' state state' breaking breaking' parent parent' epoch epoch' k s b p e = rw (k, s, b, p, e) refl

pub lease_is_read : LeaseIsRead
lease_is_read direction bytes lease = (to, from)
  where
    to : IsLeaseV2 direction bytes lease → (length bytes ≡ 52) × (lease_of lease ≡ lease_in direction bytes)
    to is = (is.size, same_lease _ _ _ _ _ _ _ _ _ _ is.key is.state is.breaking is.parent is.epoch)

    from : (length bytes ≡ 52) × (lease_of lease ≡ lease_in direction bytes) → IsLeaseV2 direction bytes lease
    from (size, is) = record {
      size = size;
      key = ap (λ lease. lease.key) is;
      state = ap (λ lease. lease.state) is;
      breaking = ap (λ lease. lease.breaking) is;
      parent = ap (λ lease. lease.parent) is;
      epoch = ap (λ lease. lease.epoch) is;
    }

-- what was written of a lease says it
abbrev Back : Direction → LeaseData → Type 0
Back direction lease = (length (lease_bytes direction lease) ≡ 52) × (lease_in direction (lease_bytes direction lease) ≡ lease)

abbrev leased : State → Bool → ℕ → Option (List ℕ) → List ℕ → LeaseData
leased state breaking epoch parent key = record { key = key; state = state; breaking = breaking; parent = parent; epoch = epoch }

module _ (state : State) (epoch : ℕ) (fits : epoch < 2 ^ 16) where
  alone : (direction : Direction) (breaking : Bool) → IsCalm direction breaking → (key : List ℕ) → length key ≡ 16
      → Back direction (leased state breaking epoch None key)
  alone Request breaking calm = sixteen_cells (λ key. Back Request (leased state breaking epoch None key))
      (λ a b c d e f g h i j k l m n o p.
      (refl, same_lease _ _ _ _ _ _ _ _ _ _ refl (state_of_bits-written state) (sym calm) refl (number_read 2 epoch [] fits)))
  alone Reply true calm = sixteen_cells (λ key. Back Reply (leased state true epoch None key))
      (λ a b c d e f g h i j k l m n o p.
      (refl, same_lease _ _ _ _ _ _ _ _ _ _ refl (state_of_bits-written state) refl refl (number_read 2 epoch [] fits)))
  alone Reply false calm = sixteen_cells (λ key. Back Reply (leased state false epoch None key))
      (λ a b c d e f g h i j k l m n o p.
      (refl, same_lease _ _ _ _ _ _ _ _ _ _ refl (state_of_bits-written state) refl refl (number_read 2 epoch [] fits)))

  below : (direction : Direction) (breaking : Bool) → IsCalm direction breaking → (parent : List ℕ) → length parent ≡ 16
      → (key : List ℕ) → length key ≡ 16 → Back direction (leased state breaking epoch (Some parent) key)
  below Request breaking calm parent set key long = sixteen_cells
      (λ key. Back Request (leased state breaking epoch (Some parent) key))
      (λ a b c d e f g h i j k l m n o p. sixteen_cells (λ parent. Back Request (leased state breaking epoch (Some parent)
      (a ∷ b ∷ c ∷ d ∷ e ∷ f ∷ g ∷ h ∷ i ∷ j ∷ k ∷ l ∷ m ∷ n ∷ o ∷ p ∷ [])))
      (λ a' b' c' d' e' f' g' h' i' j' k' l' m' n' o' p'.
      (refl, same_lease _ _ _ _ _ _ _ _ _ _ refl (state_of_bits-written state) (sym calm) refl (number_read 2 epoch [] fits)))
      parent set) key long
  below Reply true calm parent set key long = sixteen_cells (λ key. Back Reply (leased state true epoch (Some parent) key))
      (λ a b c d e f g h i j k l m n o p. sixteen_cells (λ parent. Back Reply (leased state true epoch (Some parent)
      (a ∷ b ∷ c ∷ d ∷ e ∷ f ∷ g ∷ h ∷ i ∷ j ∷ k ∷ l ∷ m ∷ n ∷ o ∷ p ∷ [])))
      (λ a' b' c' d' e' f' g' h' i' j' k' l' m' n' o' p'.
      (refl, same_lease _ _ _ _ _ _ _ _ _ _ refl (state_of_bits-written state) refl refl (number_read 2 epoch [] fits)))
      parent set) key long
  below Reply false calm parent set key long = sixteen_cells (λ key. Back Reply (leased state false epoch (Some parent) key))
      (λ a b c d e f g h i j k l m n o p. sixteen_cells (λ parent. Back Reply (leased state false epoch (Some parent)
      (a ∷ b ∷ c ∷ d ∷ e ∷ f ∷ g ∷ h ∷ i ∷ j ∷ k ∷ l ∷ m ∷ n ∷ o ∷ p ∷ [])))
      (λ a' b' c' d' e' f' g' h' i' j' k' l' m' n' o' p'.
      (refl, same_lease _ _ _ _ _ _ _ _ _ _ refl (state_of_bits-written state) refl refl (number_read 2 epoch [] fits)))
      parent set) key long

pub lease_reads_back : LeaseReadsBack
lease_reads_back direction lease is = by_parent lease.parent is.parent
  where
    by_parent : (parent : Option (List ℕ)) → IfSome parent (λ key. length key ≡ 16)
        → Back direction (record lease { parent = parent })
    by_parent None set = alone lease.state lease.epoch is.epoch direction lease.breaking is.calm lease.key is.key
    by_parent (Some parent) set = below lease.state lease.epoch is.epoch direction lease.breaking is.calm parent set lease.key
        is.key

-- ---- what is read is written back

pub state_written : (n : ℕ) → n ≤ 7 → bits_of_state (state_of_bits n) ≡ n
state_written zero small = refl
state_written (suc zero) small = refl
state_written (suc (suc zero)) small = refl
state_written (suc (suc (suc zero))) small = refl
state_written (suc (suc (suc (suc zero)))) small = refl
state_written (suc (suc (suc (suc (suc zero))))) small = refl
state_written (suc (suc (suc (suc (suc (suc zero)))))) small = refl
state_written (suc (suc (suc (suc (suc (suc (suc zero))))))) small = refl
state_written (suc (suc (suc (suc (suc (suc (suc (suc n)))))))) small = absurd (omega arith)

-- flags with names alone are few numbers
request_flags : (n : ℕ) (key : List ℕ) → n ≤ 4 → bit_and n 4 ≡ n
    → 0 + (if is_some (if has_flag 4 n then Some key else None) then 4 else 0) ≡ n
request_flags zero key small named = refl
request_flags (suc zero) key small named = absurd (omega arith)
request_flags (suc (suc zero)) key small named = absurd (omega arith)
request_flags (suc (suc (suc zero))) key small named = absurd (omega arith)
request_flags (suc (suc (suc (suc zero)))) key small named = refl
request_flags (suc (suc (suc (suc (suc n))))) key small named = absurd (omega arith)

reply_flags : (n : ℕ) (key : List ℕ) → n ≤ 6 → bit_and n 6 ≡ n
    → (if has_flag 2 n then 2 else 0) + (if is_some (if has_flag 4 n then Some key else None) then 4 else 0) ≡ n
reply_flags zero key small named = refl
reply_flags (suc zero) key small named = absurd (omega arith)
reply_flags (suc (suc zero)) key small named = refl
reply_flags (suc (suc (suc zero))) key small named = absurd (omega arith)
reply_flags (suc (suc (suc (suc zero)))) key small named = refl
reply_flags (suc (suc (suc (suc (suc zero))))) key small named = absurd (omega arith)
reply_flags (suc (suc (suc (suc (suc (suc zero)))))) key small named = refl
reply_flags (suc (suc (suc (suc (suc (suc (suc n))))))) key small named = absurd (omega arith)

flags_back : (direction : Direction) (bytes : List ℕ)
    → bit_and (number_at 20 4 bytes) (named_flags direction) ≡ number_at 20 4 bytes
    → break_flag direction (lease_in direction bytes) + parent_flag (lease_in direction bytes) ≡ number_at 20 4 bytes
flags_back Request bytes named = request_flags (number_at 20 4 bytes) (bytes_at 32 16 bytes)
    (subst (λ n. n ≤ 4) named (and_le_r (number_at 20 4 bytes) 4)) named
flags_back Reply bytes named = reply_flags (number_at 20 4 bytes) (bytes_at 32 16 bytes)
    (subst (λ n. n ≤ 6) named (and_le_r (number_at 20 4 bytes) 6)) named

seven_lists : (a a' b b' c c' d d' e e' f f' g g' : List ℕ) → a ≡ a' → b ≡ b' → c ≡ c' → d ≡ d' → e ≡ e' → f ≡ f' → g ≡ g'
    → a ++ (b ++ (c ++ (d ++ (e ++ (f ++ g))))) ≡ a' ++ (b' ++ (c' ++ (d' ++ (e' ++ (f' ++ g')))))
seven_lists a a' b b' c c' d d' e e' f f' g g' ea eb ec ed ee ef eg = rw (ea, eb, ec, ed, ee, ef, eg) refl

-- 52 bytes are their fields
fields_of : (bytes : List ℕ) → length bytes ≡ 52
    → bytes ≡ bytes_at 0 16 bytes ++ (bytes_at 16 4 bytes ++ (bytes_at 20 4 bytes ++ (bytes_at 24 8 bytes
    ++ (bytes_at 32 16 bytes ++ (bytes_at 48 2 bytes ++ bytes_at 50 2 bytes)))))
fields_of bytes long =
    cut 0 16 bytes ∙ ap (λ rest. bytes_at 0 16 bytes ++ rest) (
    cut 16 4 bytes ∙ ap (λ rest. bytes_at 16 4 bytes ++ rest) (
    cut 20 4 bytes ∙ ap (λ rest. bytes_at 20 4 bytes ++ rest) (
    cut 24 8 bytes ∙ ap (λ rest. bytes_at 24 8 bytes ++ rest) (
    cut 32 16 bytes ∙ ap (λ rest. bytes_at 32 16 bytes ++ rest) (
    cut 48 2 bytes ∙ ap (λ rest. bytes_at 48 2 bytes ++ rest) (cut_last 50 2 bytes long))))))

module _ (direction : Direction) (bytes : List ℕ) (is : IsCanonicalLease direction bytes) where
  -- a field that is known, as it is written
  back : (place count value : ℕ) → place + count ≤ 52 → number_at place count bytes ≡ value
      → little_bytes count value ≡ bytes_at place count bytes
  back place count value within known = let size = is.size
      in rw (← known) (field_written place count bytes (omega arith) is.octets)

  parent_back : (flagged : Bool) → has_flag 4 (number_at 20 4 bytes) ≡ flagged
      → parent_bytes (if flagged then Some (bytes_at 32 16 bytes) else None) ≡ bytes_at 32 16 bytes
  parent_back true flag = refl
  parent_back false flag = sym (is.parent_lease_key (rw flag refl))

  pub lease_back : lease_bytes direction (lease_in direction bytes) ≡ bytes
  lease_back = seven_lists _ _ _ _ _ _ _ _ _ _ _ _ _ _ refl
      (back 16 4 _ (omega arith) (sym (state_written (number_at 16 4 bytes) is.lease_state)))
      (back 20 4 _ (omega arith) (sym (flags_back direction bytes is.flags)))
      (back 24 8 0 (omega arith) is.lease_duration)
      (parent_back (has_flag 4 (number_at 20 4 bytes)) refl)
      (back 48 2 _ (omega arith) refl)
      (back 50 2 0 (omega arith) is.reserved)
      ∙ sym (fields_of bytes is.size)

pub lease_writes_back : LeaseWritesBack
lease_writes_back direction bytes is = lease_back direction bytes is

-- ---- what is written of a value of the code

set_by_length : (parent : Option (List ℕ)) → length (parent_bytes parent) ≡ 16 → IfSome parent (λ key. length key ≡ 16)
set_by_length None long = tt
set_by_length (Some key) long = long

pub lease_layout : (direction : Direction) (lease : LeaseV2) → length lease.key.0 ≡ 16
    → length (parent_bytes (lease_of lease).parent) ≡ 16 → lease.epoch < 2 ^ 16 → IsCalm direction lease.breaking
    → IsLeaseV2 direction (lease_bytes direction (lease_of lease)) lease
lease_layout direction lease key parent epoch calm =
    let back = lease_reads_back direction (lease_of lease) (record {
      key = key;
      parent = set_by_length (lease_of lease).parent parent;
      epoch = epoch;
      calm = calm;
    }) in
    (lease_is_read direction (lease_bytes direction (lease_of lease)) lease).1 (back.0, sym back.1)
