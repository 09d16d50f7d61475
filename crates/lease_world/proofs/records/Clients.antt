-- What is known of the client that a fact is about.
use Rattle.lease_laws.proofs.Words.{◌&&◌, ◌++◌, ◌+◌, ◌<◌, ◌∙◌, ◌∷◌, ◌≡◌, ◌≤◌, Bool, Fact, List, Some, ℕ, [], ap, arith, believed}
use Rattle.lease_laws.proofs.Words.{drop, false, has_joined, has_strayed, is_empty, is_served, is_settled, is_well_formed}
use Rattle.lease_laws.proofs.Words.{last_of, last_sending, length, length-append, map, map-append, nat_lt, not, refl, sendings}
use Rattle.lease_laws.proofs.Words.{slice_get, subst, suc, sym, takings, true, zero}
use Rattle.std.proofs.lemmas.List.{drop-append-le}
use Rattle.lease_world.specs.judge.Clients.{can_take, took_from, after_taking}
use Rattle.lease_world.specs.judge.Knows.{KnowsClient, RisesTo}
use Rattle.lease_world.specs.judge.Seen.{SeenClient, joined, cache_in}
use Rattle.lease_world.specs.judge.Told.{write_of, pending, place_of}
use Rattle.lease_world.proofs.records.Caches.{cache_over}
use Rattle.lease_world.proofs.records.Others.{client_over, rises-more, rises-low, rises-push}
use Rattle.lease_world.proofs.records.Pending.{self}

longer : (fact : Fact) (past : List Fact) → length past ≤ length (fact ∷ past)
longer fact past = omega arith

-- ---- a client joins

pub client_joins : (client : ℕ) (seen : SeenClient) (past : List Fact) → KnowsClient client seen past
    → KnowsClient client (joined seen) (Fact.Joined client ∷ past)
unfolding has_joined is_served has_strayed sendings takings last_sending is_settled write_of believed pending
client_joins client seen past k = record {
  joined = rw (self client) refl;
  served = rw (self client) refl;
  strayed = k.strayed;
  in_order = rw (self client) (omega arith);
  sent = rw (self client) refl;
  taken = rw (self client) refl;
  rising = let le = rises-low seen.taken seen.sent (length past) k.rising in omega (arith, le);
  settled = k.settled;
  writes = k.writes;
  caches = λ f. cache_over client f (cache_in seen.caches f) past (Fact.Joined client ∷ past) refl (λ n. refl) refl (k.caches f);
}

-- ---- a client leaves, or strays

pub client_drops : (client : ℕ) (seen : SeenClient) (past : List Fact) → KnowsClient client seen past
    → KnowsClient client (record seen { served = false }) (Fact.Dropped client ∷ past)
unfolding has_joined is_served has_strayed sendings takings is_settled write_of believed pending
client_drops client seen past k = client_over client seen (record seen { served = false }) past (Fact.Dropped client ∷ past)
    (longer (Fact.Dropped client) past) refl refl refl refl refl k.joined (rw (self client) refl) k.strayed k.settled k.writes
    (λ f. cache_over client f (cache_in seen.caches f) past (Fact.Dropped client ∷ past) refl (λ n. refl) refl (k.caches f)) k

pub client_expires : (client file : ℕ) (seen : SeenClient) (past : List Fact) → KnowsClient client seen past
    → KnowsClient client (record seen { served = false }) (Fact.Expired client file ∷ past)
unfolding has_joined is_served has_strayed sendings takings is_settled write_of believed pending
client_expires client file seen past k =
    client_over client seen (record seen { served = false }) past (Fact.Expired client file ∷ past)
    (longer (Fact.Expired client file) past) refl refl refl refl refl
    k.joined (rw (self client) refl) k.strayed k.settled k.writes
    (λ f. cache_over client f (cache_in seen.caches f) past (Fact.Expired client file ∷ past) refl (λ n. refl) refl (k.caches f))
    k

pub client_strays : (client : ℕ) (seen : SeenClient) (past : List Fact) → KnowsClient client seen past
    → KnowsClient client (record seen { strayed = true }) (Fact.Strayed client ∷ past)
unfolding has_joined is_served has_strayed sendings takings is_settled write_of believed pending
client_strays client seen past k = client_over client seen (record seen { strayed = true }) past (Fact.Strayed client ∷ past)
    (longer (Fact.Strayed client) past) refl refl refl refl refl k.joined k.served (rw (self client) refl) k.settled k.writes
    (λ f. cache_over client f (cache_in seen.caches f) past (Fact.Strayed client ∷ past) refl (λ n. refl) refl (k.caches f)) k

-- ---- a message is sent

last-push : (n : ℕ) (places : List (List Fact)) (place : List Fact) → n ≤ length places
    → last_of n (places ++ place ∷ []) ≡ last_of n places
last-push zero places place le = refl
last-push (suc n) places place le = get-push places n place le
  where
    get-push : (places : List (List Fact)) (k : ℕ) (place : List Fact) → suc k ≤ length places
        → slice_get (places ++ place ∷ []) k ≡ slice_get places k
    get-push [] k place le = absurd (omega arith)
    get-push (x ∷ places) zero place le = refl
    get-push (x ∷ places) (suc k) place le = get-push places k place (omega arith)

length-places : (places : List (List Fact)) → length (map place_of places) ≡ length places
length-places [] = refl
length-places (x ∷ places) = let e = length-places places in omega (arith, e)

drop-places : (n : ℕ) (places : List (List Fact)) (place : List Fact) → n ≤ length places
    → drop n (map place_of (places ++ place ∷ [])) ≡ drop n (map place_of places) ++ place_of place ∷ []
drop-places n places place le = ap (λ (xs : List ℕ). drop n xs) (map-append place_of places (place ∷ []))
    ∙ drop-append-le n (map place_of places) (place_of place ∷ []) (rw (length-places places) le)

one_longer : (n : ℕ) (places : List (List Fact)) (place : List Fact) → n ≤ length places → n ≤ length (places ++ place ∷ [])
one_longer n places place le = let e = length-append places (place ∷ []) in omega (arith, le, e)

pub client_sent : (client place : ℕ) (seen : SeenClient) (past : List Fact) → place ≡ length past + 1
    → KnowsClient client seen past → KnowsClient client (record seen { sent = seen.sent ++ place ∷ [] }) (Fact.Sent client ∷ past)
unfolding has_joined is_served has_strayed sendings takings last_sending is_settled write_of believed pending
client_sent client place seen past at k = record {
  joined = k.joined;
  served = k.served;
  strayed = k.strayed;
  in_order = rw (self client) (one_longer (takings client past) (sendings client past) past k.in_order);
  sent = rw (self client, at, k.sent) (sym (drop-places (takings client past) (sendings client past) past k.in_order));
  taken = rw (self client, last-push (takings client past) (sendings client past) past k.in_order) k.taken;
  rising =
      let step : RisesTo seen.taken (seen.sent ++ place ∷ []) place =
      rises-push seen.taken seen.sent (length past) place (omega (arith, at)) k.rising in
      rises-more seen.taken (seen.sent ++ place ∷ []) place (length (Fact.Sent client ∷ past)) (omega (arith, at)) step;
  settled = k.settled;
  writes = k.writes;
  caches = λ f. cache_over client f (cache_in seen.caches f) past (Fact.Sent client ∷ past) refl (λ n. refl) refl (k.caches f);
}

-- ---- a message is taken

-- the first message that isn't taken
record NextMessage (n : ℕ) (places : List (List Fact)) (first : ℕ) (rest : List ℕ) : Type 0 where
  within : n < length places
  place : List Fact
  is : last_of (suc n) places ≡ Some place
  is_first : place_of place ≡ first
  is_rest : drop (suc n) (map place_of places) ≡ rest

next_message : (n : ℕ) (places : List (List Fact)) (first : ℕ) (rest : List ℕ)
    → drop n (map place_of places) ≡ first ∷ rest → NextMessage n places first rest
next_message zero [] first rest e = let c : ⊥ = cc in absurd c
next_message (suc n) [] first rest e = let c : ⊥ = cc in absurd c
next_message zero (place ∷ places) first rest e = grind arith
next_message (suc n) (place ∷ places) first rest e = let later = next_message n places first rest e in grind arith

no_message : (n : ℕ) (places : List (List Fact)) → drop n (map place_of places) ≡ [] → length places ≤ n
no_message n [] e = omega arith
no_message zero (place ∷ places) e = let c : ⊥ = cc in absurd c
no_message (suc n) (place ∷ places) e = let le = no_message n places e in omega (arith, le)

one_more_taken : (n : ℕ) → n + 1 ≡ suc n
one_more_taken n = omega arith

took_more : (client place : ℕ) (sent : List ℕ) (seen : SeenClient) (past : List Fact) → seen.sent ≡ place ∷ sent
    → KnowsClient client seen past
    → KnowsClient client (record seen { sent = sent; taken = place; has_taken = true }) (Fact.Took client ∷ past)
unfolding has_joined is_served has_strayed sendings takings last_sending is_settled write_of believed pending
took_more client place sent seen past e k =
    let next : NextMessage (takings client past) (sendings client past) place sent =
    next_message (takings client past) (sendings client past) place sent (sym k.sent ∙ e) in
    let inside = next.within in
    let rises : RisesTo seen.taken (place ∷ sent) (length past) = rw e at k.rising in
    record {
      joined = k.joined;
      served = k.served;
      strayed = k.strayed;
      in_order = rw (self client) (omega (arith, inside));
      sent = rw (self client, one_more_taken (takings client past)) (sym next.is_rest);
      taken = rw (self client, one_more_taken (takings client past), next.is, next.is_first) refl;
      rising = rises-more place sent (length past) (length (Fact.Took client ∷ past)) (longer (Fact.Took client) past) rises.1;
      settled = k.settled;
      writes = k.writes;
      caches = λ f. cache_over client f (cache_in seen.caches f) past (Fact.Took client ∷ past) refl (λ n. refl) refl
          (k.caches f);
    }

has_one : (sent : List ℕ) → not (is_empty sent) ≡ true → (place : ℕ) × (rest : List ℕ) × (sent ≡ place ∷ rest)
has_one sent e = grind arith

both_true : (a b : Bool) → (a && b) ≡ true → (a ≡ true) × (b ≡ true)
both_true a b e = grind arith

took_is : (seen : SeenClient) (place : ℕ) (rest : List ℕ) (sent : List ℕ) → sent ≡ place ∷ rest
    → took_from seen sent ≡ record seen { sent = rest; taken = place; has_taken = true }
took_is seen place rest sent e = rw e refl

pub client_took : (client : ℕ) (seen : SeenClient) (past : List Fact) → can_take seen ≡ true → KnowsClient client seen past
    → KnowsClient client (after_taking seen) (Fact.Took client ∷ past)
client_took client seen past can k =
    let (place, rest, is) = has_one seen.sent (both_true _ _ can).1 in
    subst (λ (s : SeenClient). KnowsClient client s (Fact.Took client ∷ past)) (sym (took_is seen place rest seen.sent is))
    (took_more client place rest seen past is k)

lt_so : (a b : ℕ) → a < b → nat_lt a b ≡ true
lt_so a b h = grind arith

ge_so : (a b : ℕ) → b ≤ a → nat_lt a b ≡ false
ge_so a b h = grind arith

-- a Took is well formed exactly where a message can be taken
pub took-formed : (client : ℕ) (seen : SeenClient) (past : List Fact) → can_take seen ≡ true → KnowsClient client seen past
    → is_well_formed (Fact.Took client) past ≡ true
unfolding is_well_formed
took-formed client seen past can k =
    let parts : (seen.joined ≡ true) × (not (is_empty seen.sent) ≡ true) = both_true _ _ can in
    let (place, rest, is) = has_one seen.sent parts.1 in
    let next = next_message (takings client past) (sendings client past) place rest (sym k.sent ∙ is) in
    rw (sym k.joined ∙ parts.0, lt_so (takings client past) (length (sendings client past)) next.within) refl

and_not : (a b : Bool) → b ≡ false → (a && b) ≡ false
and_not a b e = grind arith

took_nothing : (client : ℕ) (seen : SeenClient) (past : List Fact) (joined : Bool) (sent : List ℕ) → seen.joined ≡ joined
    → seen.sent ≡ sent → (joined && not (is_empty sent)) ≡ false → KnowsClient client seen past
    → is_well_formed (Fact.Took client) past ≡ false
unfolding is_well_formed
took_nothing client seen past false sent j e can k = rw (sym k.joined ∙ j) refl
took_nothing client seen past true [] j e can k = and_not (has_joined client past) _
    (ge_so (takings client past) (length (sendings client past))
    (no_message (takings client past) (sendings client past) (sym k.sent ∙ e)))
took_nothing client seen past true (place ∷ rest) j e can k = let c : ⊥ = cc in absurd c

pub took-malformed : (client : ℕ) (seen : SeenClient) (past : List Fact) → can_take seen ≡ false → KnowsClient client seen past
    → is_well_formed (Fact.Took client) past ≡ false
took-malformed client seen past can k = took_nothing client seen past seen.joined seen.sent refl refl can k
