-- Files and clients that a fact leaves alone.
use Rattle.lease_laws.proofs.Words.{◌++◌, ◌∙◌, ◌∷◌, ◌≡◌, ◌≤◌, Fact, List, ℕ, [], arith, drop, false, has_joined, has_strayed}
use Rattle.lease_laws.proofs.Words.{is_served, is_settled, last_sending, length, refl, sendings, sym, takings}
use Rattle.lease_world.specs.judge.Knows.{KnowsFile, KnowsCache, KnowsClient, RisesTo}
use Rattle.lease_world.specs.judge.Seen.{SeenFile, SeenClient, cache_in, write_in, has_settled}
use Rattle.lease_world.specs.judge.Told.{write_of, sent_places}
use Rattle.lease_world.proofs.records.Caches.{cache_over}
use Rattle.lease_world.proofs.records.Skips.{touches, concerns, started-skip, start-skip, changes-skip, touch-skip, joined-skip}
use Rattle.lease_world.proofs.records.Skips.{served-skip, strayed-skip, sendings-skip, takings-skip, settled-skip, write-skip}
use Rattle.lease_world.proofs.records.Skips.{believed-skip, pending-skip}

pub file_stays : (file : ℕ) (seen : SeenFile) (fact : Fact) (past : List Fact) → touches file fact ≡ false
    → KnowsFile file seen past → KnowsFile file seen (fact ∷ past)
file_stays file seen fact past e k = record {
  started = k.started ∙ sym (started-skip file fact past e);
  start = k.start ∙ sym (start-skip file fact past e);
  changes = k.changes ∙ sym (changes-skip file fact past e);
  touches = λ c. k.touches c ∙ sym (touch-skip c file fact past e);
}

pub rises-more : (low : ℕ) (xs : List ℕ) (high higher : ℕ) → high ≤ higher → RisesTo low xs high → RisesTo low xs higher
rises-more low [] high higher le r = omega (arith, le, r)
rises-more low (x ∷ xs) high higher le r = (r.0, rises-more x xs high higher le r.1)

pub rises-low : (low : ℕ) (xs : List ℕ) (high : ℕ) → RisesTo low xs high → low ≤ high
rises-low low [] high r = r
rises-low low (x ∷ xs) high r = let le = rises-low x xs high r.1 in omega (arith, r.0, le)

pub rises-push : (low : ℕ) (xs : List ℕ) (high next : ℕ) → high ≤ next → RisesTo low xs high → RisesTo low (xs ++ next ∷ []) next
rises-push low [] high next le r = let last : next ≤ next = omega arith in (omega (arith, r, le), last)
rises-push low (x ∷ xs) high next le r = (r.0, rises-push x xs high next le r.1)

-- what is known of the messages, where none came, went or was taken
pub taken-same : (client : ℕ) (past next : List Fact) → sendings client next ≡ sendings client past
    → takings client next ≡ takings client past → last_sending client next ≡ last_sending client past
unfolding last_sending
taken-same client past next s t = rw (s, t) refl

sent-same : (client : ℕ) (past next : List Fact) → sendings client next ≡ sendings client past
    → takings client next ≡ takings client past
    → drop (takings client next) (sent_places client next) ≡ drop (takings client past) (sent_places client past)
sent-same client past next s t = rw (s, t) refl

order-same : (client : ℕ) (past next : List Fact) → sendings client next ≡ sendings client past
    → takings client next ≡ takings client past → takings client past ≤ length (sendings client past)
    → takings client next ≤ length (sendings client next)
order-same client past next s t le = rw (s, t) le

-- Where messages are as before, what is known of a client needs to be shown of the rest alone.
pub client_over : (client : ℕ) (seen now : SeenClient) (past next : List Fact) → length past ≤ length next
    → sendings client next ≡ sendings client past → takings client next ≡ takings client past
    → now.sent ≡ seen.sent → now.taken ≡ seen.taken → now.has_taken ≡ seen.has_taken
    → now.joined ≡ has_joined client next → now.served ≡ is_served client next → now.strayed ≡ has_strayed client next
    → ((number : ℕ) → has_settled now number ≡ is_settled client number next)
    → ((number : ℕ) → write_in now number ≡ write_of client number next)
    → ((file : ℕ) → KnowsCache client file (cache_in now.caches file) next)
    → KnowsClient client seen past → KnowsClient client now next
client_over client seen now past next le s t sent taken has_taken joined served strayed settled writes caches k = record {
  joined = joined;
  served = served;
  strayed = strayed;
  in_order = order-same client past next s t k.in_order;
  sent = sent ∙ (k.sent ∙ sym (sent-same client past next s t));
  taken = rw (has_taken, taken, taken-same client past next s t) k.taken;
  rising = rw (sent, taken) (rises-more seen.taken seen.sent (length past) (length next) le k.rising);
  settled = settled;
  writes = writes;
  caches = caches;
}

longer : (fact : Fact) (past : List Fact) → length past ≤ length (fact ∷ past)
longer fact past = omega arith

pub client_stays : (client : ℕ) (seen : SeenClient) (fact : Fact) (past : List Fact) → concerns client fact ≡ false
    → KnowsClient client seen past → KnowsClient client seen (fact ∷ past)
client_stays client seen fact past e k = client_over client seen seen past (fact ∷ past) (longer fact past)
    (sendings-skip client fact past e) (takings-skip client fact past e) refl refl refl
    (k.joined ∙ sym (joined-skip client fact past e)) (k.served ∙ sym (served-skip client fact past e))
    (k.strayed ∙ sym (strayed-skip client fact past e))
    (λ n. k.settled n ∙ sym (settled-skip client n fact past e))
    (λ n. k.writes n ∙ sym (write-skip client n fact past e))
    (λ f. cache_over client f (cache_in seen.caches f) past (fact ∷ past) (believed-skip client f fact past e)
    (λ n. settled-skip client n fact past e) (pending-skip client f fact past past e) (k.caches f)) k
