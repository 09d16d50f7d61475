-- What is known of a client that is given a write, is told of one, has one accepted, or believes something.
use Rattle.lease_laws.proofs.Words.{◌&&◌, ◌++◌, ◌+◌, ◌==◌, ◌||◌, ◌∙◌, ◌∷◌, ◌≡◌, ◌≤◌, Bool, Fact, List, Option, Patch, Settlement}
use Rattle.lease_laws.proofs.Words.{State, ℕ, [], ap, append_assoc, arith, believed, false, filter, filter-append, has_joined}
use Rattle.lease_laws.proofs.Words.{has_strayed, if◌then◌else◌, is_served, is_settled, length, not, option_map, refl, sendings}
use Rattle.lease_laws.proofs.Words.{sym, takings, true}
use Rattle.lease_world.specs.judge.Clients.{Writes, WritesCache, Settles, Believes, Accepts, HasCache, with_write, with_belief}
use Rattle.lease_world.specs.declared.judging.covers.Layer.{Layer}
use Rattle.lease_world.specs.judge.Covers.{layer_of, layers_at, stack_in}
use Rattle.lease_world.specs.judge.Knows.{KnowsCache, KnowsClient}
use Rattle.lease_world.specs.judge.Seen.{SeenClient, SeenCache, SeenWrite, Waiting, cache_in, write_in, has_settled, accepted_as}
use Rattle.lease_world.specs.judge.Told.{write_of, pending, is_unsettled}
use Rattle.lease_world.proofs.records.Caches.{cache_over, pending-agree}
use Rattle.lease_world.proofs.records.Others.{client_over}
use Rattle.lease_world.proofs.records.Covered.{layers_kept, layers_push}
use Rattle.lease_world.proofs.records.Pending.{self, filter-and, unsettled-more, pending-settled}

longer : (fact : Fact) (past : List Fact) → length past ≤ length (fact ∷ past)
longer fact past = omega arith

-- a client all of whose caches but that of one file are as before
pub each_cache : (client file : ℕ) (old new : List SeenCache) (past next : List Fact) (cache : SeenCache)
    → HasCache old new file cache → KnowsCache client file cache next
    → ((other : ℕ) → (other == file) ≡ false → KnowsCache client other (cache_in old other) next)
    → (other : ℕ) → KnowsCache client other (cache_in new other) next
each_cache client file old new past next cache has here others other = grind arith

-- ---- a belief

pub client_believes : (client file : ℕ) (state : State) (seen now : SeenClient) (past : List Fact)
    → Believes file state seen now → KnowsClient client seen past
    → KnowsClient client now (Fact.Believes client file state ∷ past)
unfolding has_joined is_served has_strayed sendings takings is_settled write_of believed pending
client_believes client file state seen now past is k =
    rw is.0 (client_over client seen (record seen { caches = now.caches }) past (Fact.Believes client file state ∷ past)
    (longer (Fact.Believes client file state) past) refl refl refl refl refl k.joined k.served k.strayed k.settled k.writes
    (each_cache client file seen.caches now.caches past (Fact.Believes client file state ∷ past)
    (with_belief state (cache_in seen.caches file)) is.1 (record {
      belief = rw (self client, self file) refl;
      covers = (k.caches file).covers;
    })
    (λ g e. cache_over client g (cache_in seen.caches g) past (Fact.Believes client file state ∷ past)
    (other_file (client == client) g e) (λ n. refl) refl (k.caches g))) k)
  where
    other_file : (b : Bool) (g : ℕ) → (g == file) ≡ false
        → (if b && file == g then state else believed client g past) ≡ believed client g past
    other_file b g e = let apart : (b && file == g) ≡ false = grind arith in rw apart refl

-- ---- a write is accepted

same_number : (client number n : ℕ) (x y : Option SeenWrite)
    → (if n == number then x else y) ≡ (if client == client && number == n then x else y)
same_number client number n x y = grind arith

-- a value by a number, of which that of one number is new
at_number : (number n : ℕ) (x y : Option SeenWrite) (here there : Option SeenWrite) → (n ≡ number → x ≡ here) → y ≡ there
    → (if n == number then x else y) ≡ (if n == number then here else there)
at_number number n x y here there same e = grind arith

pub client_accepts : (client file number : ℕ) (patch : Patch) (seen now : SeenClient) (past : List Fact)
    → Accepts file number patch seen now → KnowsClient client seen past
    → KnowsClient client now (Fact.Changed file client number patch ∷ past)
unfolding has_joined is_served has_strayed sendings takings is_settled write_of believed pending
client_accepts client file number patch seen now past is k =
    rw is.0 (client_over client seen (record seen { writes = now.writes }) past (Fact.Changed file client number patch ∷ past)
    (longer (Fact.Changed file client number patch) past) refl refl refl refl refl k.joined k.served k.strayed k.settled
    (λ n. is.1 n ∙ (at_number number n (option_map (accepted_as file patch) (write_in seen number)) (write_in seen n)
    (option_map (accepted_as file patch) (write_of client n past)) (write_of client n past)
    (λ e. rw e (ap (λ (o : Option SeenWrite). option_map (accepted_as file patch) o) (k.writes number))) (k.writes n)
    ∙ same_number client number n (option_map (accepted_as file patch) (write_of client n past)) (write_of client n past)))
    (λ f. cache_over client f (cache_in seen.caches f) past (Fact.Changed file client number patch ∷ past) refl (λ n. refl) refl
    (k.caches f)) k)

-- ---- a write is settled

settled_number : (client number n : ℕ) (b c : Bool) → b ≡ c
    → (if n == number then true else b) ≡ ((client == client && number == n) || c)
settled_number client number n b c e = grind arith

-- what is known of a cache once one more number is settled
settled_cache : (client file number : ℕ) (outcome : Settlement) (cache : SeenCache) (past : List Fact)
    → KnowsCache client file cache past → KnowsCache client file cache (Fact.Settled client number outcome ∷ past)
unfolding believed pending
settled_cache client file number outcome cache past k = record {
  belief = k.belief;
  covers = λ position. filter-and (λ (l : Layer). not (number == l.number)) (is_unsettled client past)
      (is_unsettled client (Fact.Settled client number outcome ∷ past))
      (layers_at position cache.fresh ++ stack_in cache.covers position) (unsettled-more client number outcome past)
      ∙ (ap (λ (ls : List Layer). filter (λ l. not (number == l.number)) ls) (k.covers position)
      ∙ (sym (layers_kept position (λ n. not (number == n)) (pending client file past past))
      ∙ ap (λ (ws : List Waiting). layers_at position ws) (sym (pending-settled client file number outcome past past))));
}

pub client_settles : (client number : ℕ) (outcome : Settlement) (seen now : SeenClient) (past : List Fact)
    → Settles number seen now → KnowsClient client seen past → KnowsClient client now (Fact.Settled client number outcome ∷ past)
unfolding has_joined is_served has_strayed sendings takings is_settled write_of
client_settles client number outcome seen now past is k =
    rw is.0 (client_over client seen (record seen { settled = now.settled }) past (Fact.Settled client number outcome ∷ past)
    (longer (Fact.Settled client number outcome) past) refl refl refl refl refl k.joined k.served k.strayed
    (λ n. is.1 n ∙ settled_number client number n (has_settled seen n) (is_settled client n past) (k.settled n)) k.writes
    (λ f. settled_cache client f number outcome (cache_in seen.caches f) past (k.caches f)) k)

-- ---- a write is given

kept_pending : (client file number : ℕ) (patch : Patch) (buffered : Bool) (past : List Fact)
    → is_settled client number past ≡ false → pending client file (Fact.Wrote client file number patch buffered ∷ past)
    (Fact.Wrote client file number patch buffered ∷ past)
    ≡ pending client file (Fact.Wrote client file number patch buffered ∷ past) past
    ++ record { number = number; patch = patch } ∷ []
unfolding pending is_settled
kept_pending client file number patch buffered past e = rw (self client, self file, e) refl

skipped_pending : (client file other number : ℕ) (patch : Patch) (buffered : Bool) (past : List Fact)
    → ((file == other) ≡ true → is_settled client number past ≡ true)
    → pending client other past (Fact.Wrote client file number patch buffered ∷ past) ≡ pending client other past past
unfolding pending
skipped_pending client file other number patch buffered past settled = grind arith

-- the cache of the file with one write more
with_one_write : (client file number : ℕ) (patch : Patch) (buffered : Bool) (cache : SeenCache) (past : List Fact)
    → is_settled client number past ≡ false → KnowsCache client file cache past
    → KnowsCache client file (with_write number patch cache) (Fact.Wrote client file number patch buffered ∷ past)
unfolding believed is_settled
with_one_write client file number patch buffered cache past off k =
    let next : List Fact = Fact.Wrote client file number patch buffered ∷ past in
    let one : Waiting = record { number = number; patch = patch } in
    record {
      belief = k.belief;
      covers = λ position. ap (λ (ls : List Layer). filter (is_unsettled client next) ls)
          (ap (λ (ls : List Layer). ls ++ stack_in cache.covers position) (layers_push position cache.fresh one)
          ∙ append_assoc (layer_of position one) (layers_at position cache.fresh) (stack_in cache.covers position))
          ∙ (filter-append (is_unsettled client next) (layer_of position one)
          (layers_at position cache.fresh ++ stack_in cache.covers position)
          ∙ (ap (λ (ls : List Layer). ls ++ filter (is_unsettled client next)
          (layers_at position cache.fresh ++ stack_in cache.covers position))
          (one_open (is_unsettled client next) _ _ (ap not off)) ∙ (ap (λ (ls : List Layer). layer_of position one ++ ls)
          (k.covers position ∙ ap (λ (ws : List Waiting). layers_at position ws)
          (pending-agree client file past next past (λ n. refl)))
          ∙ (sym (layers_push position (pending client file next past) one)
          ∙ ap (λ (ws : List Waiting). layers_at position ws) (sym (kept_pending client file number patch buffered past off))))));
    }
  where
    one_open : (test : Layer → Bool) (b : Bool) (layer : Layer) → test layer ≡ true
        → filter test (if b then layer ∷ [] else []) ≡ (if b then layer ∷ [] else [])
    one_open test b layer e = grind arith

-- the cache of another file, or of a number that was settled already
without_write : (client file other number : ℕ) (patch : Patch) (buffered : Bool) (cache : SeenCache) (past : List Fact)
    → ((file == other) ≡ true → is_settled client number past ≡ true) → KnowsCache client other cache past
    → KnowsCache client other cache (Fact.Wrote client file number patch buffered ∷ past)
unfolding believed is_settled
without_write client file other number patch buffered cache past settled k =
    cache_over client other cache past (Fact.Wrote client file number patch buffered ∷ past) refl (λ n. refl)
    (skipped_pending client file other number patch buffered past settled) k

other_way : (file other : ℕ) (settled : Bool) → (other == file) ≡ false → (file == other) ≡ true → settled ≡ true
other_way file other settled e f = grind arith

written_caches : (client number : ℕ) (write : SeenWrite) (old new : List SeenCache) (settled : Bool) (past : List Fact)
    → is_settled client number past ≡ settled → WritesCache settled number write old new
    → ((f : ℕ) → KnowsCache client f (cache_in old f) past) → (f : ℕ) → KnowsCache client f (cache_in new f)
    (Fact.Wrote client write.file number write.patch write.buffered ∷ past)
written_caches client number write old new true past e is k = λ f.
    rw (is f) (without_write client write.file f number write.patch write.buffered (cache_in old f) past (λ _. e) (k f))
written_caches client number write old new false past e is k =
    each_cache client write.file old new past (Fact.Wrote client write.file number write.patch write.buffered ∷ past)
    (with_write number write.patch (cache_in old write.file)) is
    (with_one_write client write.file number write.patch write.buffered (cache_in old write.file) past e (k write.file))
    (λ f apart. without_write client write.file f number write.patch write.buffered (cache_in old f) past
    (other_way write.file f (is_settled client number past) apart) (k f))

pub client_writes : (client number place : ℕ) (file : ℕ) (patch : Patch) (buffered : Bool) (seen now : SeenClient)
    (past : List Fact) → place ≡ length past + 1
    → Writes number (record { file = file; place = place; buffered = buffered; patch = patch; accepted = false }) seen now
    → KnowsClient client seen past → KnowsClient client now (Fact.Wrote client file number patch buffered ∷ past)
unfolding has_joined is_served has_strayed sendings takings is_settled write_of
client_writes client number place file patch buffered seen now past at is k =
    rw is.0 (client_over client seen (record seen { writes = now.writes; caches = now.caches }) past
    (Fact.Wrote client file number patch buffered ∷ past)
    (longer (Fact.Wrote client file number patch buffered) past) refl refl refl refl refl k.joined k.served k.strayed k.settled
    (λ n. is.1 n ∙ rw (at, k.writes n) (same_number client number n _ (write_of client n past)))
    (written_caches client number (record { file = file; place = place; buffered = buffered; patch = patch; accepted = false })
    seen.caches now.caches (has_settled seen number) past (sym (k.settled number)) is.2 k.caches) k)
