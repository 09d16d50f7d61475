-- The keys whose timer ran out, as one more does, and as their client joins.
use Rattle.lease_laws.proofs.Words.{◌==◌, ◌||◌, ◌∙◌, ◌∷◌, ◌≡◌, Bool, Key, List, Server, ℕ, [], ap, ap₂}
use Rattle.lease_laws.proofs.Words.{arith, bytes_eq, bytes_eq-Decides, cond, false, fun_ext, if◌then◌else◌, is_eq, key_eq}
use Rattle.lease_laws.proofs.Words.{list_any, map, nat_cmp, nat_tests, put_key, refl, sym, true}
use Rattle.std.specs.BTreeMap.{is_at}
use Rattle.std.specs.BTreeSet.{BTreeSet, insert_key}
use Rattle.std.specs.Cmp.Lexicographic.{slice_cmp}
use Rattle.std.specs.Map.{lookup}
use Rattle.std.specs.Ordering.{on}
use Rattle.std.specs.declared.cmp.Ordering.{Ordering}
use Rattle.std.specs.declared.cmp.Ordering.TheVariants.{Equal}
use Rattle.lease_laws.proofs.server.Lists.{either}
use Rattle.lease_state.specs.declared.key.LeaseKey.{LeaseKey}
use Rattle.lease_manager.specs.Expired.{ran_out}
use Rattle.lease_manager.specs.OpenIndex.{client_order}
use Rattle.lease_manager.specs.Sets.{values_at, values_or_none}
use Rattle.lease_manager.specs.Table.{Expired, Table, is_expired, server_of}
use Rattle.lease_manager.specs.declared.tables.sets.Sets.{Sets}
use Rattle.lease_manager.specs.declared.values.number.ClientNo.{ClientNo}
use Rattle.lease_manager.proofs.opens.LeftOpens.{ordered}
use Rattle.lease_manager.proofs.sums.Ordering.{bytes_same}

abbrev pub lease_key_order : LeaseKey → LeaseKey → Ordering
lease_key_order = on (λ key. key.0) (slice_cmp nat_cmp)

-- the bytes are those of one of the keys
abbrev pub has_bytes : List ℕ → List LeaseKey → Bool
has_bytes bytes keys = list_any (bytes_eq bytes) (map (λ key. key.0) keys)

abbrev entry_of : ClientNo × BTreeSet LeaseKey → Expired
entry_of entry = record { client = entry.0.0; keys = map (λ key. key.0) entry.1.keys }

at_number : (client other : ClientNo) → is_at (client_order client) other ≡ (client.0 == other.0)
at_number client other = grind (arith, nat_tests)

expired_at : (entries : List (ClientNo × BTreeSet LeaseKey)) (key : Key) → is_expired (map entry_of entries) key
    ≡ has_bytes key.bytes (values_or_none (lookup (is_at (client_order (record { 0 = key.client }))) entries))
expired_at [] key = refl
expired_at (e ∷ entries) key = either (key.client == e.0.0)
    (λ at. rw (at_number (record { 0 = key.client }) e.0, at) refl)
    (λ at. rw (at_number (record { 0 = key.client }) e.0, at) (expired_at entries key))

-- a key is expired where its client's set has its bytes
pub expired_in : (sets : Sets ClientNo LeaseKey) (key : Key) → is_expired (ran_out sets) key
    ≡ has_bytes key.bytes (values_at client_order sets (record { 0 = key.client }))
expired_in sets key = expired_at sets.by_key.entries key

pub found_bytes : (key : LeaseKey) (keys : List LeaseKey) → list_any (is_at (lease_key_order key)) keys ≡ has_bytes key.0 keys
found_bytes key [] = refl
found_bytes key (x ∷ keys) = ap₂ (λ a b. a || b) (bytes_same key.0 x.0) (found_bytes key keys)

same_bytes : (key x : LeaseKey) → lease_key_order key x ≡ Equal → key.0 ≡ x.0
same_bytes key x equal = (bytes_eq-Decides key.0 x.0).0 (sym (bytes_same key.0 x.0) ∙ ap is_eq equal)

inserted_bytes : (bytes : List ℕ) (key : LeaseKey) (keys : List LeaseKey)
    → has_bytes bytes (insert_key lease_key_order keys key) ≡ (bytes_eq bytes key.0 || has_bytes bytes keys)
inserted_bytes bytes key [] = refl
inserted_bytes bytes key (x ∷ keys) = ordered (lease_key_order key x)
    (λ less. rw less refl)
    (λ equal. rw equal (once (bytes_eq bytes key.0) (bytes_eq bytes x.0) (has_bytes bytes keys)
    (ap (bytes_eq bytes) (same_bytes key x equal))))
    (λ more. rw more (ap (λ b. bytes_eq bytes x.0 || b) (inserted_bytes bytes key keys)
    ∙ swapped (bytes_eq bytes x.0) (bytes_eq bytes key.0) (has_bytes bytes keys)))
  where
    once : (a b r : Bool) → a ≡ b → (b || r) ≡ (a || (b || r))
    once a b r e = grind arith

    swapped : (a b r : Bool) → (a || (b || r)) ≡ (b || (a || r))
    swapped a b r = grind arith

pub expired_more : (old new : Sets ClientNo LeaseKey) (client : ClientNo) (bytes : LeaseKey)
    → ((other : ClientNo) → values_at client_order new other
    ≡ (if is_at (client_order client) other then insert_key lease_key_order (values_at client_order old other) bytes
    else values_at client_order old other))
    → is_expired (ran_out new) ≡ put_key (is_expired (ran_out old)) (record { client = client.0; bytes = bytes.0 }) true
unfolding put_key key_eq
expired_more old new client bytes changed = fun_ext (λ key.
    let at : ClientNo = record { 0 = key.client } in
    expired_in new key ∙ (ap (has_bytes key.bytes) (changed at) ∙ either (key.client == client.0)
    (λ its. rw (here client at its, its) (inserted_bytes key.bytes bytes (values_at client_order old at)
    ∙ (either_way (bytes_eq key.bytes bytes.0) (has_bytes key.bytes (values_at client_order old at))
    ∙ ap (cond (bytes_eq key.bytes bytes.0) true) (sym (expired_in old key)))))
    (λ its. rw (here client at its, its) (sym (expired_in old key)))))
  where
    here : (client at : ClientNo) {b : Bool} → (at.0 == client.0) ≡ b → is_at (client_order client) at ≡ b
    here client at its = grind (arith, nat_tests, its)

    either_way : (a b : Bool) → (a || b) ≡ cond a true b
    either_way a b = grind arith

pub expired_less : (old new : Sets ClientNo LeaseKey) (client : ClientNo)
    → ((other : ClientNo) → values_at client_order new other
    ≡ (if is_at (client_order client) other then [] else values_at client_order old other))
    → (key : Key) → is_expired (ran_out new) key ≡ (if key.client == client.0 then false else is_expired (ran_out old) key)
expired_less old new client changed key =
    let at : ClientNo = record { 0 = key.client } in
    expired_in new key ∙ (ap (has_bytes key.bytes) (changed at) ∙ either (key.client == client.0)
    (λ its. rw (here client at its, its) refl)
    (λ its. rw (here client at its, its) (sym (expired_in old key))))
  where
    here : (client at : ClientNo) {b : Bool} → (at.0 == client.0) ≡ b → is_at (client_order client) at ≡ b
    here client at its = grind (arith, nat_tests, its)

abbrev with_expired : Server → (Key → Bool) → Server
with_expired server expired = record server { expired = expired }

pub table_expired : (table : Table) (expired : List Expired) (new : Key)
    → is_expired expired ≡ put_key (is_expired table.expired) new true → server_of (record table { expired = expired })
    ≡ record (server_of table) { expired = put_key (server_of table).expired new true }
table_expired table expired new more = ap (with_expired (server_of table)) more
