-- Keys: one key is another where they are equal, and an open has at most one.
use Rattle.lease_laws.proofs.Words.{◌==◌, ◌∙◌, ◌≡◌, Decides-eqb, Key, List, None, Option, Server, Some, ℕ, ap, ap₂, bytes_eq}
use Rattle.lease_laws.proofs.Words.{bytes_eq-Decides, false, is_key, key_eq, key_of, lease_by, put_key, refl, sym, true}
use Rattle.lease_laws.proofs.Words.{true≢false}
use Rattle.lease_laws.proofs.server.Lists.{if_cases, and_parts, and_both}

-- keys of one client and the same bytes are one
pub key_of_parts : (one other : Key) → one.client ≡ other.client → one.bytes ≡ other.bytes → one ≡ other
key_of_parts one other e f = ap₂ (λ client bytes. key_of client bytes) e f

-- equal keys are one key
pub key_eq-same : (one other : Key) → key_eq one other ≡ true → one ≡ other
unfolding key_eq
key_eq-same one other h =
    let parts = and_parts (one.client == other.client) (bytes_eq one.bytes other.bytes) h in
    key_of_parts one other ((Decides-eqb one.client other.client).0 parts.0) ((bytes_eq-Decides one.bytes other.bytes).0 parts.1)

-- a key equals itself
pub key_eq-refl : (key : Key) → key_eq key key ≡ true
unfolding key_eq
key_eq-refl key = and_both (key.client == key.client) (bytes_eq key.bytes key.bytes)
    ((Decides-eqb key.client key.client).1 refl) ((bytes_eq-Decides key.bytes key.bytes).1 refl)

-- what an open's key says: its client and its bytes
is_key-bytes : (key : Key) (client : ℕ) (bytes : List ℕ) → is_key key client (Some bytes) ≡ true → key ≡ key_of client bytes
is_key-bytes key client bytes h =
    let parts = and_parts (key.client == client) (bytes_eq key.bytes bytes) h in
    key_of_parts key (key_of client bytes) ((Decides-eqb key.client client).0 parts.0)
    ((bytes_eq-Decides key.bytes bytes).0 parts.1)

-- a key is itself
pub is_key-refl : (client : ℕ) (bytes : List ℕ) → is_key (key_of client bytes) client (Some bytes) ≡ true
is_key-refl client bytes = and_both (client == client) (bytes_eq bytes bytes)
    ((Decides-eqb client client).1 refl) ((bytes_eq-Decides bytes bytes).1 refl)

-- an open has one key at most
pub is_key-one : (one other : Key) (client : ℕ) (bytes : Option (List ℕ)) → is_key one client bytes ≡ true
    → is_key other client bytes ≡ true → one ≡ other
is_key-one one other client None h k = absurd (true≢false (sym h))
is_key-one one other client (Some bytes) h k = is_key-bytes one client bytes h ∙ sym (is_key-bytes other client bytes k)

-- the lease of an open is that of its key
pub lease_by-key : (server : Server) (key : Key) (client : ℕ) (bytes : Option (List ℕ))
    → is_key key client bytes ≡ true → lease_by server client bytes ≡ server.leases key
lease_by-key server key client None h = absurd (true≢false (sym h))
lease_by-key server key client (Some bytes) h = ap (λ k. server.leases k) (sym (is_key-bytes key client bytes h))

-- a table at the place that was changed
pub put_key-here : {X : Type 0} (table : Key → X) (key : Key) (new : X) → put_key table key new key ≡ new
unfolding put_key
put_key-here table key new = rw (key_eq-refl key) refl

-- what holds of each place of a table, once one is changed
pub put_key-cases : {X : Type 0} (P : X → Type 0) (table : Key → X) (place : Key) (new : X) (key : Key)
    → (key ≡ place → P new) → (key_eq key place ≡ false → P (table key)) → P (put_key table place new key)
unfolding put_key
put_key-cases P table place new key here there =
    if_cases P (key_eq key place) new (table key) (λ e. here (key_eq-same key place e)) there
