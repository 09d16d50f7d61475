-- A client that joins: its connection is listed, and its keys are taken off the expired ones.
use Rattle.lease_laws.proofs.Words.{◌==◌, ◌||◌, ◌∷◌, ◌≡◌, Bool, Key, List, Progress, Server, ℕ, [], ap₂, is_at, refl}
use Rattle.std.specs.BTreeSet.{BTreeSet, Updates, contains}
use Rattle.lease_laws.proofs.Words.{arith, false, fun_ext, if◌then◌else◌, joined, list_any}
use Rattle.lease_laws.proofs.Words.{nat_tests, put, true}
use Rattle.lease_manager.specs.declared.values.number.ClientNo.{ClientNo}
use Rattle.lease_manager.specs.OpenIndex.{client_order}
use Rattle.lease_manager.specs.Outs.{progress_of}
use Rattle.lease_manager.specs.Table.{Expired, Table, is_among, is_expired, server_of}

at_client : (client other : ClientNo) → is_at (client_order client) other ≡ (other.0 == client.0)
at_client client other = grind (arith, nat_tests)

among_is : (clients : List ClientNo) (client : ClientNo)
    → list_any (is_at (client_order client)) clients ≡ is_among clients client.0
among_is [] client = refl
among_is (one ∷ clients) client = ap₂ (λ a b. a || b) (at_client client one) (among_is clients client)

pub present_is : (clients : BTreeSet ClientNo) (client : ClientNo) → contains client_order clients client
    ≡ is_among clients.keys client.0
present_is clients client = among_is clients.keys client

-- the clients before and after one comes or goes
pub present_put : (old new : BTreeSet ClientNo) (client : ClientNo) (there : Bool) → Updates client_order old new client there
    → (n : ℕ) → is_among new.keys n ≡ put (is_among old.keys) client.0 there n
unfolding put
present_put old new client there updates n =
    let at : ClientNo = record { 0 = n } in
    let now = updates.0 at in
    let after = among_is new.keys at in
    let before = among_is old.keys at in
    let same = at_client client at in
    grind (arith, now, after, before, same)

abbrev with_known : Server → (ℕ → Bool) → (Key → Bool) → Progress
with_known server present expired =
    record { server = record server { present = present; expired = expired }; outs = [] }

same_known : (server : Server) (present others : ℕ → Bool) (expired keys : Key → Bool) → present ≡ others → expired ≡ keys
    → with_known server present expired ≡ with_known server others keys
same_known server present others expired keys a b = grind arith

pub tables_joined : (table : Table) (clients : List ClientNo) (expired : List Expired) (client : ClientNo)
    → ((n : ℕ) → is_among clients n ≡ put (is_among table.present) client.0 true n)
    → ((key : Key) → is_expired expired key ≡ (if key.client == client.0 then false else is_expired table.expired key))
    → progress_of (record table { present = clients; expired = expired }) [] ≡ joined client.0 (progress_of table [])
tables_joined table clients expired client more less =
    same_known (server_of table) _ _ _ _ (fun_ext more) (fun_ext less)
