-- What is written of a notification is read back, and what is read is written back.
use Rattle.std.proofs.Common.{◌≡◌, ℕ, zero, suc, ◌+◌, ◌≤◌, ◌++◌, Bool, if◌then◌else◌, List, [], length, take, drop}
use Rattle.std.proofs.Common.{refl, sym, ◌∙◌, ap, arith, ◌==◌, length-drop}
use Rattle.std.proofs.lemmas.List.{length-take-le}
use Rattle.std.specs.Int.RustNames.{bit_and}
use Rattle.byteorder.specs.Endian.{little_bytes}
use Rattle.lease_state.specs.State.{State, state_of_bits, bits_of_state}
use Rattle.lease_wire.specs.Field.{number_at, bytes_at}
use Rattle.lease_wire.specs.Notification.{Notice, IsNotification}
use Rattle.lease_wire.proofs.Cells.{sixteen_cells}
use Rattle.lease_wire.proofs.Fields.{state_of_bits-written, flag-written}
use Rattle.lease_wire_v2.specs.EpochNotice.{EpochNotice, IsEpochNotice, IsBorneNotice, IsCanonicalNotice, epoch_notice_bytes}
use Rattle.lease_wire_v2.specs.EpochNotice.{EpochNoticeReadsBack, EpochNoticeIsUnique, EpochNoticeWritesBack}
use Rattle.lease_wire_v2.specs.EpochNotice.{FirstVersionHasNoEpoch}
use Rattle.lease_wire_v2.proofs.Bytes.{field_written, cut, cut_last, number_read}
use Rattle.lease_wire_v2.proofs.LeaseLaws.{state_written}

abbrev keyed : EpochNotice → List ℕ → EpochNotice
keyed v key = record { notice = record v.notice { key = key }; new_epoch = v.new_epoch }

pub notice_layout : (v : EpochNotice) → IsBorneNotice v → IsEpochNotice (epoch_notice_bytes v) v
notice_layout v is =
    sixteen_cells (λ key. IsEpochNotice (epoch_notice_bytes (keyed v key)) (keyed v key))
    (λ a b c d e f g h i j k l m n o p. record {
      notice = record {
        size = refl;
        structure_size = refl;
        flags = sym (flag-written v.notice.ack_required);
        lease_key = refl;
        current_lease_state = sym (state_of_bits-written v.notice.current);
        new_lease_state = sym (state_of_bits-written v.notice.new);
      };
      new_epoch = sym (number_read 2 v.new_epoch [] is.new_epoch);
    }) v.notice.key is.key

pub key_length : (bytes : List ℕ) (notice : Notice) → IsNotification bytes notice → length notice.key ≡ 16
key_length bytes notice is =
    let size = is.size in
    let within = length-drop {A = ℕ} 8 bytes in
    rw (is.lease_key) (length-take-le 16 (drop 8 bytes) (omega arith))

pub notice_reads_back : EpochNoticeReadsBack
notice_reads_back v rest is =
    sixteen_cells (λ key. IsEpochNotice (take 44 (epoch_notice_bytes (keyed v key) ++ rest)) (keyed v key)
    × (drop 44 (epoch_notice_bytes (keyed v key) ++ rest) ≡ rest))
    (λ a b c d e f g h i j k l m n o p. (
      record {
        notice = record {
          size = refl;
          structure_size = refl;
          flags = sym (flag-written v.notice.ack_required);
          lease_key = refl;
          current_lease_state = sym (state_of_bits-written v.notice.current);
          new_lease_state = sym (state_of_bits-written v.notice.new);
        };
        new_epoch = sym (number_read 2 v.new_epoch [] is.new_epoch);
      },
      refl,
    )) v.notice.key is.key

same_notice : (ack ack' : Bool) (key key' : List ℕ) (current current' new new' : State) (epoch epoch' : ℕ) → ack ≡ ack'
    → key ≡ key' → current ≡ current' → new ≡ new' → epoch ≡ epoch'
    → ◌≡◌ {A = EpochNotice} (record {
      notice = record { ack_required = ack; key = key; current = current; new = new };
      new_epoch = epoch;
    }) (record {
      notice = record { ack_required = ack'; key = key'; current = current'; new = new' };
      new_epoch = epoch';
    })
same_notice ack ack' key key' current current' new new' epoch epoch' a k c n e = rw (a, k, c, n, e) refl

pub notice_is_unique : EpochNoticeIsUnique
notice_is_unique bytes v w first second = same_notice _ _ _ _ _ _ _ _ _ _
    (first.notice.flags ∙ sym second.notice.flags)
    (first.notice.lease_key ∙ sym second.notice.lease_key)
    (first.notice.current_lease_state ∙ sym second.notice.current_lease_state)
    (first.notice.new_lease_state ∙ sym second.notice.new_lease_state)
    (first.new_epoch ∙ sym second.new_epoch)

pub first_version : FirstVersionHasNoEpoch
first_version notice = refl

-- ---- what is read is written back

flag_back : (n : ℕ) → n ≤ 1 → (if bit_and n 1 == 1 then 1 else 0) ≡ n
flag_back zero small = refl
flag_back (suc zero) small = refl
flag_back (suc (suc n)) small = absurd (omega arith)

nine_lists : (a a' b b' c c' d d' e e' f f' g g' h h' i i' : List ℕ) → a ≡ a' → b ≡ b' → c ≡ c' → d ≡ d' → e ≡ e' → f ≡ f'
    → g ≡ g' → h ≡ h' → i ≡ i'
    → a ++ (b ++ (c ++ (d ++ (e ++ (f ++ (g ++ (h ++ i)))))))
    ≡ a' ++ (b' ++ (c' ++ (d' ++ (e' ++ (f' ++ (g' ++ (h' ++ i')))))))
nine_lists a a' b b' c c' d d' e e' f f' g g' h h' i i' ea eb ec ed ee ef eg eh ei = rw (ea, eb, ec, ed, ee, ef, eg, eh, ei) refl

-- 44 bytes are their fields
fields_of : (bytes : List ℕ) → length bytes ≡ 44
    → bytes ≡ bytes_at 0 2 bytes ++ (bytes_at 2 2 bytes ++ (bytes_at 4 4 bytes ++ (bytes_at 8 16 bytes
    ++ (bytes_at 24 4 bytes ++ (bytes_at 28 4 bytes ++ (bytes_at 32 4 bytes ++ (bytes_at 36 4 bytes ++ bytes_at 40 4 bytes)))))))
fields_of bytes long =
    cut 0 2 bytes ∙ ap (λ rest. bytes_at 0 2 bytes ++ rest) (
    cut 2 2 bytes ∙ ap (λ rest. bytes_at 2 2 bytes ++ rest) (
    cut 4 4 bytes ∙ ap (λ rest. bytes_at 4 4 bytes ++ rest) (
    cut 8 16 bytes ∙ ap (λ rest. bytes_at 8 16 bytes ++ rest) (
    cut 24 4 bytes ∙ ap (λ rest. bytes_at 24 4 bytes ++ rest) (
    cut 28 4 bytes ∙ ap (λ rest. bytes_at 28 4 bytes ++ rest) (
    cut 32 4 bytes ∙ ap (λ rest. bytes_at 32 4 bytes ++ rest) (
    cut 36 4 bytes ∙ ap (λ rest. bytes_at 36 4 bytes ++ rest) (cut_last 40 4 bytes long))))))))

module _ (bytes : List ℕ) (v : EpochNotice) (is : IsEpochNotice bytes v) (free : IsCanonicalNotice bytes) where
  -- a field that is known, as it is written
  back : (place count value : ℕ) → place + count ≤ 44 → value ≡ number_at place count bytes
      → little_bytes count value ≡ bytes_at place count bytes
  back place count value within known =
      let size = is.notice.size in
      rw known (field_written place count bytes (omega arith) free.octets)

  state_back : (place : ℕ) (state : State) → state ≡ state_of_bits (number_at place 4 bytes) → number_at place 4 bytes ≤ 7
      → bits_of_state state ≡ number_at place 4 bytes
  state_back place state known small = rw known (state_written (number_at place 4 bytes) small)

  flags_back : (if v.notice.ack_required then 1 else 0) ≡ number_at 4 4 bytes
  flags_back = rw (is.notice.flags) (flag_back (number_at 4 4 bytes) free.flags)

  pub notice_back : epoch_notice_bytes v ≡ bytes
  notice_back = nine_lists _ _ _ _ _ _ _ _ _ _ _ _ _ _ _ _ _ _
      (back 0 2 44 (omega arith) (sym is.notice.structure_size))
      (back 2 2 v.new_epoch (omega arith) is.new_epoch)
      (back 4 4 _ (omega arith) flags_back)
      is.notice.lease_key
      (back 24 4 _ (omega arith) (state_back 24 v.notice.current is.notice.current_lease_state free.current_lease_state))
      (back 28 4 _ (omega arith) (state_back 28 v.notice.new is.notice.new_lease_state free.new_lease_state))
      (back 32 4 0 (omega arith) (sym free.break_reason))
      (back 36 4 0 (omega arith) (sym free.access_mask_hint))
      (back 40 4 0 (omega arith) (sym free.share_mask_hint))
      ∙ sym (fields_of bytes is.notice.size)

pub notice_writes_back : EpochNoticeWritesBack
notice_writes_back bytes v is free = notice_back bytes v is free
