-- The data of durable opens: what is written is read back, and what is read is written back.
use Rattle.std.proofs.Common.{◌≡◌, ℕ, zero, suc, ◌+◌, ◌≤◌, ◌++◌, Bool, true, false, List, [], length}
use Rattle.std.proofs.Common.{refl, sym, ◌∙◌, ap, subst, arith}
use Rattle.std.specs.Int.RustNames.{bit_and}
use Rattle.std.proofs.lemmas.Nat.{and_le_r}
use Rattle.byteorder.specs.Endian.{little_number, little_bytes}
use Rattle.lease_wire.specs.Field.{number_at, bytes_at}
use Rattle.lease_wire.proofs.Cells.{sixteen_cells}
use Rattle.capture_wire.specs.Fields.{has_flag}
use Rattle.capture_wire.specs.Contexts.{IsDurableReconnectV2}
use Rattle.capture_wire.specs.declared.durable.DurableReconnectV2.{DurableReconnectV2}
use Rattle.capture_wire.specs.declared.field.Smb2FileId.{Smb2FileId}
use Rattle.lease_wire_v2.specs.Fields.{AreBytes}
use Rattle.lease_wire_v2.specs.DurableData.{persistent_flag, DurableData, durable_in, durable_bytes}
use Rattle.lease_wire_v2.specs.DurableData.{DurableReadsBack, DurableWritesBack, GrantData}
use Rattle.lease_wire_v2.specs.DurableData.{GrantReadsBack, GrantWritesBack, ReconnectData, reconnect_in, reconnect_bytes}
use Rattle.lease_wire_v2.specs.DurableData.{reconnect_of, IsBorneReconnect, ReconnectReadsBack, ReconnectWritesBack}
use Rattle.lease_wire_v2.proofs.Bytes.{field_written, cut, cut_last, number_read}

flag_read : (persistent : Bool) → has_flag 2 (little_number 4 (little_bytes 4 (persistent_flag persistent))) ≡ persistent
flag_read true = refl
flag_read false = refl

-- the one flag with a name
flag_back : (n : ℕ) → n ≤ 2 → bit_and n 2 ≡ n → persistent_flag (has_flag 2 n) ≡ n
flag_back zero small named = refl
flag_back (suc zero) small named = absurd (omega arith)
flag_back (suc (suc zero)) small named = refl
flag_back (suc (suc (suc n))) small named = absurd (omega arith)

flag_written : (n : ℕ) → bit_and n 2 ≡ n → persistent_flag (has_flag 2 n) ≡ n
flag_written n named = flag_back n (subst (λ m. m ≤ 2) named (and_le_r n 2)) named

-- a field that is known, as it is written
back : (bytes : List ℕ) (place count value : ℕ) → AreBytes bytes → place + count ≤ length bytes → number_at place count bytes
    ≡ value
    → little_bytes count value ≡ bytes_at place count bytes
back bytes place count value are within known = rw (← known) (field_written place count bytes within are)

two_lists : (a a' b b' : List ℕ) → a ≡ a' → b ≡ b' → a ++ b ≡ a' ++ b'
two_lists a a' b b' ea eb = rw (ea, eb) refl

four_lists : (a a' b b' c c' d d' : List ℕ) → a ≡ a' → b ≡ b' → c ≡ c' → d ≡ d' → a ++ (b ++ (c ++ d)) ≡ a' ++ (b' ++ (c' ++ d'))
four_lists a a' b b' c c' d d' ea eb ec ed = rw (ea, eb, ec, ed) refl

-- ---- DH2Q of a request

same_durable : (timeout timeout' : ℕ) (persistent persistent' : Bool) (guid : List ℕ) → timeout ≡ timeout'
    → persistent ≡ persistent'
    → ◌≡◌ {A = DurableData} (record { timeout = timeout; persistent = persistent; create_guid = guid })
    (record { timeout = timeout'; persistent = persistent'; create_guid = guid })
same_durable timeout timeout' persistent persistent' guid t p = rw (t, p) refl

pub durable_reads_back : DurableReadsBack
durable_reads_back durable fits = sixteen_cells (λ guid. (length (durable_bytes (record durable { create_guid = guid })) ≡ 32)
    × (durable_in (durable_bytes (record durable { create_guid = guid })) ≡ record durable { create_guid = guid }))
    (λ a b c d e f g h i j k l m n o p. (
      refl,
      same_durable _ _ _ _ _ (number_read 4 durable.timeout [] fits)
          (flag_read durable.persistent),
    )) durable.create_guid

pub durable_writes_back : DurableWritesBack
durable_writes_back bytes is =
    let size = is.size in
    four_lists _ _ _ _ _ _ _ _ (back bytes 0 4 _ is.octets (omega arith) refl)
    (back bytes 4 4 _ is.octets (omega arith) (sym (flag_written (number_at 4 4 bytes) is.flags)))
    (back bytes 8 8 0 is.octets (omega arith) is.reserved) refl
    ∙ sym (cut 0 4 bytes ∙ ap (λ rest. bytes_at 0 4 bytes ++ rest) (
    cut 4 4 bytes ∙ ap (λ rest. bytes_at 4 4 bytes ++ rest) (
    cut 8 8 bytes ∙ ap (λ rest. bytes_at 8 8 bytes ++ rest) (cut_last 16 16 bytes size))))

-- ---- DH2Q of a response

same_grant : (timeout timeout' : ℕ) (persistent persistent' : Bool) → timeout ≡ timeout' → persistent ≡ persistent'
    → ◌≡◌ {A = GrantData} (record { timeout = timeout; persistent = persistent })
    (record { timeout = timeout'; persistent = persistent' })
same_grant timeout timeout' persistent persistent' t p = rw (t, p) refl

pub grant_reads_back : GrantReadsBack
grant_reads_back grant fits = (refl, same_grant _ _ _ _ (number_read 4 grant.timeout [] fits) (flag_read grant.persistent))

pub grant_writes_back : GrantWritesBack
grant_writes_back bytes is =
    let size = is.size in
    two_lists _ _ _ _ (back bytes 0 4 _ is.octets (omega arith) refl)
    (back bytes 4 4 _ is.octets (omega arith) (sym (flag_written (number_at 4 4 bytes) is.flags)))
    ∙ sym (cut 0 4 bytes ∙ ap (λ rest. bytes_at 0 4 bytes ++ rest) (cut_last 4 4 bytes size))

-- ---- DH2C

same_reconnect : (one one' two two' : ℕ) (guid : List ℕ) (persistent persistent' : Bool) → one ≡ one' → two ≡ two'
    → persistent ≡ persistent'
    → ◌≡◌ {A = ReconnectData} (record { persistent_id = one; volatile_id = two; create_guid = guid; persistent = persistent })
    (record { persistent_id = one'; volatile_id = two'; create_guid = guid; persistent = persistent' })
same_reconnect one one' two two' guid persistent persistent' o t p = rw (o, t, p) refl

pub reconnect_reads_back : ReconnectReadsBack
reconnect_reads_back reconnect fits = sixteen_cells (λ guid.
    (length (reconnect_bytes (record reconnect { create_guid = guid })) ≡ 36)
    × (reconnect_in (reconnect_bytes (record reconnect { create_guid = guid })) ≡ record reconnect { create_guid = guid }))
    (λ a b c d e f g h i j k l m n o p. (
      refl,
      same_reconnect _ _ _ _ _ _ _ (number_read 8 reconnect.persistent_id [] fits.persistent_id)
          (number_read 8 reconnect.volatile_id [] fits.volatile_id) (flag_read reconnect.persistent),
    )) reconnect.create_guid
    fits.create_guid

pub reconnect_writes_back : ReconnectWritesBack
reconnect_writes_back bytes is =
    let size = is.size in
    four_lists _ _ _ _ _ _ _ _ (back bytes 0 8 _ is.octets (omega arith) refl)
    (back bytes 8 8 _ is.octets (omega arith) refl) refl
    (back bytes 32 4 _ is.octets (omega arith) (sym (flag_written (number_at 32 4 bytes) is.flags)))
    ∙ sym (cut 0 8 bytes ∙ ap (λ rest. bytes_at 0 8 bytes ++ rest) (
    cut 8 8 bytes ∙ ap (λ rest. bytes_at 8 8 bytes ++ rest) (
    cut 16 16 bytes ∙ ap (λ rest. bytes_at 16 16 bytes ++ rest) (cut_last 32 4 bytes size))))

-- what is written of a value of the code
pub reconnect_layout : (reconnect : DurableReconnectV2) → IsBorneReconnect (reconnect_of reconnect)
    → IsDurableReconnectV2 (reconnect_bytes (reconnect_of reconnect)) reconnect
reconnect_layout reconnect fits =
    let back = reconnect_reads_back (reconnect_of reconnect) fits in
    let is : reconnect_in (reconnect_bytes (reconnect_of reconnect)) ≡ reconnect_of reconnect = back.1 in
    record {
      size = back.0;
      file_id = same_id _ _ _ _ (ap (λ one. one.persistent_id) (sym is)) (ap (λ one. one.volatile_id) (sym is));
      create_guid = ap (λ one. one.create_guid) (sym is);
      persistent = ap (λ one. one.persistent) (sym is);
    }
  where
    same_id : (one one' two two' : ℕ) → one ≡ one' → two ≡ two'
        → ◌≡◌ {A = Smb2FileId} (record { persistent = one; volatile = two }) (record { persistent = one'; volatile = two' })
    same_id one one' two two' o t = rw (o, t) refl
