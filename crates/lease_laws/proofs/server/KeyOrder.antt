-- The keys of opens: each open's key is among them, once, and they stand in order.
use Rattle.lease_laws.proofs.Words.{◌∙◌, ◌∷◌, ◌≡◌, Among, Bool, Key, List, None, Open, Option, Server, Some, State, ℕ, ⊎_elim, []}
use Rattle.lease_laws.proofs.Words.{ap, filter, has_key, if◌then◌else◌, inl, inr, is_key, key_added, key_before, key_eq, key_of}
use Rattle.lease_laws.proofs.Words.{keys_of, map, open_key_added, refl, subst, sym, true, true≢false, wants_where}
use Rattle.lease_laws.proofs.server.Keys.{key_eq-same, is_key-refl, is_key-one}
use Rattle.lease_laws.proofs.server.Lists.{if_cases, among_filtered}

-- a key among the keys stays there
key_added-old : (key new : Key) (keys : List Key) → Among key keys → Among key (key_added new keys)
unfolding key_added
key_added-old key new [] a = absurd a
key_added-old key new (other ∷ keys) a = if_cases (λ l. Among key l) (key_eq new other) (other ∷ keys)
    (if key_before new other then new ∷ other ∷ keys else other ∷ key_added new keys)
    (λ e. a)
    (λ e. if_cases (λ l. Among key l) (key_before new other) (new ∷ other ∷ keys) (other ∷ key_added new keys)
    (λ b. inr a) (λ b. ⊎_elim (λ same. inl same) (λ later. inr (key_added-old key new keys later)) a))

-- the added key is there
key_added-new : (new : Key) (keys : List Key) → Among new (key_added new keys)
unfolding key_added
key_added-new new [] = inl refl
key_added-new new (other ∷ keys) = if_cases (λ l. Among new l) (key_eq new other) (other ∷ keys)
    (if key_before new other then new ∷ other ∷ keys else other ∷ key_added new keys)
    (λ e. inl (key_eq-same new other e))
    (λ e. if_cases (λ l. Among new l) (key_before new other) (new ∷ other ∷ keys) (other ∷ key_added new keys)
    (λ b. inl refl) (λ b. inr (key_added-new new keys)))

-- a key among the keys stays there, whatever the open's key
open_key_added-old : (key : Key) (client : ℕ) (bytes : Option (List ℕ)) (keys : List Key) → Among key keys
    → Among key (open_key_added client bytes keys)
open_key_added-old key client None keys a = a
open_key_added-old key client (Some bytes) keys a = key_added-old key (key_of client bytes) keys a

-- the open's key is there
open_key_added-new : (key : Key) (client : ℕ) (bytes : Option (List ℕ)) (keys : List Key)
    → is_key key client bytes ≡ true → Among key (open_key_added client bytes keys)
open_key_added-new key client None keys k = absurd (true≢false (sym k))
open_key_added-new key client (Some bytes) keys k = subst (λ x. Among x (key_added (key_of client bytes) keys))
    (is_key-one (key_of client bytes) key client (Some bytes) (is_key-refl client bytes) k)
    (key_added-new (key_of client bytes) keys)

-- the key of an open is among the keys of the opens
pub keys_of-all : (key : Key) (one : Open) (opens : List Open) → Among one opens → has_key key one ≡ true
    → Among key (keys_of opens)
unfolding keys_of
keys_of-all key one [] a k = absurd a
keys_of-all key one (other ∷ opens) (inl same) k = open_key_added-new key other.client other.lease_key (keys_of opens)
    (ap (λ o. has_key key o) (sym same) ∙ k)
keys_of-all key one (other ∷ opens) (inr a) k = open_key_added-old key other.client other.lease_key
    (keys_of opens) (keys_of-all key one opens a k)

-- what is on a list is mapped with it
pub among_mapped : {X Y : Type 0} (f : X → Y) (x : X) (xs : List X) → Among x xs → Among (f x) (map f xs)
among_mapped f x [] a = absurd a
among_mapped f x (y ∷ xs) (inl same) = inl (ap f same)
among_mapped f x (y ∷ xs) (inr a) = inr (among_mapped f x xs a)

-- the key of an open that passes the test is wanted
pub wants_where-has : (server : Server) (test : Open → Bool) (lowering : State → State) (key : Key) (one : Open)
    → Among one server.opens → test one ≡ true → has_key key one ≡ true
    → Among (record { key = key; lowered = lowering (server.leases key).state }) (wants_where server test lowering)
wants_where-has server test lowering key one a t k =
    among_mapped (λ key. record { key = key; lowered = lowering (server.leases key).state }) key
    (keys_of (filter test server.opens))
    (keys_of-all key one (filter test server.opens) (among_filtered test one server.opens a t) k)
