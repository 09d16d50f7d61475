-- What others do, in a client's eyes: nothing that is sent to it or taken by it, no write of it, no open or change of a
-- file whose writes it caches, and no change of a file that it reads from its cache.
use Rattle.lease_laws.proofs.Words.{◌&&◌, ◌==◌, ◌||◌, ◌∙◌, ◌∷◌, ◌≡◌, ◌≢◌, Among, Bool, Fact, Key, Lease, List, None, Note, Open}
use Rattle.lease_laws.proofs.Words.{Option, Patch, Some, State, ℕ, [], ⊤, ap, content_of, eqb-true, fact_of, false}
use Rattle.lease_laws.proofs.Words.{has_buffered, has_key, has_written, is_touched, not, refl, same_patch, sendings, sym}
use Rattle.lease_laws.proofs.Words.{takings, true}
use Rattle.lease_laws.proofs.server.Lists.{clash, either, not_true}
use Rattle.lease_coherence.specs.Agreement.{touched_since_lost}
use Rattle.lease_coherence.proofs.records.Later.{past_noted}

-- what a lease is, or is broken to
abbrev pub ends_by : Option State → State → State
ends_by None state = state
ends_by (Some lowered) state = lowered

abbrev pub ends_as : Lease → State
ends_as lease = ends_by lease.broken_to lease.state

-- no lease of the client's opens on the file holds writes; none is left with reads
abbrev pub HasNoWriter : ℕ → List Open → (Key → Lease) → ℕ → Type 0
HasNoWriter c opens leases file = (key : Key) (one : Open) → one.client ≡ c → Among one opens → one.file ≡ file
    → has_key key one ≡ true → (leases key).state.write ≡ false

abbrev pub HasNoReader : ℕ → List Open → (Key → Lease) → ℕ → Type 0
HasNoReader c opens leases file = (key : Key) (one : Open) → one.client ≡ c → Among one opens → one.file ≡ file
    → has_key key one ≡ true → (ends_as (leases key)).read ≡ false

-- a fact that spares a client
abbrev pub Spares : ℕ → List Open → (Key → Lease) → Fact → Type 0
Spares c opens leases (Fact.Start file bytes) = ⊥
Spares c opens leases (Fact.Joined client) = client ≢ c
Spares c opens leases (Fact.Sent client) = client ≢ c
Spares c opens leases (Fact.Took client) = client ≢ c
Spares c opens leases (Fact.Wrote client file number patch buffered) = client ≢ c
Spares c opens leases (Fact.Opened file client) = HasNoWriter c opens leases file
Spares c opens leases (Fact.Changed file client number patch) = HasNoWriter c opens leases file × HasNoReader c opens leases file
Spares c opens leases fact = ⊤

pub record IsSpared (c : ℕ) (opens : List Open) (leases : Key → Lease) (past new : List Fact) : Type 0 where
  pub sent : sendings c new ≡ sendings c past
  pub took : takings c new ≡ takings c past
  pub written : (file number : ℕ) (patch : Patch) → has_written c file number patch new ≡ has_written c file number patch past
  pub buffered : (file number : ℕ) → has_buffered c file number new ≡ has_buffered c file number past
  pub clean : (key : Key) (one : Open) → one.client ≡ c → Among one opens → has_key key one ≡ true → (number : ℕ)
      → (has_buffered c one.file number past ≡ true → (leases key).state.write ≡ true)
      → is_touched c one.file number past ≡ false → is_touched c one.file number new ≡ false
  pub content : (key : Key) (one : Open) → one.client ≡ c → Among one opens → has_key key one ≡ true
      → (ends_as (leases key)).read ≡ true → content_of one.file new ≡ content_of one.file past
  pub alone : (key : Key) (one : Open) → one.client ≡ c → Among one opens → has_key key one ≡ true
      → (leases key).state.write ≡ true → touched_since_lost c one.file past ≡ false → touched_since_lost c one.file new ≡ false

pub spared_same : (c : ℕ) (opens : List Open) (leases : Key → Lease) (past : List Fact) → IsSpared c opens leases past past
spared_same c opens leases past = record {
  sent = refl;
  took = refl;
  written = λ file number patch. refl;
  buffered = λ file number. refl;
  clean = λ key one own there has number writes e. e;
  content = λ key one own there has reads. refl;
  alone = λ key one own there has writes e. e;
}

pub spared_then : (c : ℕ) (opens next : List Open) (leases after : Key → Lease) (past middle new : List Fact)
    → ((one : Open) → one.client ≡ c → Among one opens → Among one next)
    → ((key : Key) (one : Open) → one.client ≡ c → has_key key one ≡ true → after key ≡ leases key)
    → IsSpared c opens leases past middle → IsSpared c next after middle new → IsSpared c opens leases past new
spared_then c opens next leases after past middle new kept same h k = record {
  sent = k.sent ∙ h.sent;
  took = k.took ∙ h.took;
  written = λ file number patch. k.written file number patch ∙ h.written file number patch;
  buffered = λ file number. k.buffered file number ∙ h.buffered file number;
  clean = λ key one own there has number writes e. k.clean key one own (kept one own there) has number
      (λ b. ap (λ (l : Lease). l.state.write) (same key one own has) ∙ writes (sym (h.buffered one.file number) ∙ b))
      (h.clean key one own there has number writes e);
  content = λ key one own there has reads.
      k.content key one own (kept one own there) has (ap (λ (l : Lease). (ends_as l).read) (same key one own has) ∙ reads)
      ∙ h.content key one own there has reads;
  alone = λ key one own there has writes e. k.alone key one own (kept one own there) has
      (ap (λ (l : Lease). l.state.write) (same key one own has) ∙ writes) (h.alone key one own there has writes e);
}

-- ---- one fact

-- where nothing was buffered, or it isn't of the file, nothing is touched
untouched : (here apart was : Bool) (touched : Bool) → (here ≡ true → was ≡ true → ⊥) → touched ≡ false
    → ((here && apart && was) || touched) ≡ false
untouched true true true touched never e = absurd (never refl refl)
untouched true true false touched never e = e
untouched true false was touched never e = e
untouched false apart was touched never e = e

opened_clean : (c : ℕ) (opens : List Open) (leases : Key → Lease) (past : List Fact) (file client : ℕ)
    → HasNoWriter c opens leases file → (key : Key) (one : Open) → one.client ≡ c → Among one opens
    → has_key key one ≡ true → (number : ℕ) → (has_buffered c one.file number past ≡ true → (leases key).state.write ≡ true)
    → (file == one.file) ≡ true → has_buffered c one.file number past ≡ true → ⊥
opened_clean c opens leases past file client none key one own there has number writes here was =
    clash (leases key).state.write (writes was) (none key one own there (sym (eqb-true file one.file here)) has)

since : (a b : Bool) → b ≡ false → (a && b) ≡ false
since true b e = e
since false b e = refl

untouched_since : (here apart : Bool) (touched : Bool) → (here ≡ true → ⊥) → touched ≡ false
    → ((here && apart) || touched) ≡ false
untouched_since true apart touched never e = absurd (never refl)
untouched_since false apart touched never e = e

pub spared_fact : (c : ℕ) (opens : List Open) (leases : Key → Lease) (fact : Fact) (past : List Fact)
    → Spares c opens leases fact → IsSpared c opens leases past (fact ∷ past)
unfolding sendings takings has_buffered has_written is_touched content_of touched_since_lost
spared_fact c opens leases (Fact.Start file bytes) past s = absurd s
spared_fact c opens leases (Fact.Joined client) past s = let was = spared_same c opens leases past in record {
  sent = rw (no client s) refl;
  took = rw (no client s) refl;
  written = was.written;
  buffered = was.buffered;
  clean = was.clean;
  content = was.content;
  alone = was.alone;
}
  where
    no : (d : ℕ) → d ≢ c → (d == c) ≡ false
    no d ne = not_true (d == c) (λ e. ne (eqb-true d c e))
spared_fact c opens leases (Fact.Dropped client) past s = record {
  sent = refl;
  took = refl;
  written = λ f n p. refl;
  buffered = λ f n. refl;
  clean = λ key one own there has number writes e. e;
  content = λ key one own there has reads. refl;
  alone = λ key one own there has writes e. since (not (client == c)) (touched_since_lost c one.file past) e;
}
spared_fact c opens leases (Fact.Expired client file) past s = record {
  sent = refl;
  took = refl;
  written = λ f n p. refl;
  buffered = λ f n. refl;
  clean = λ key one own there has number writes e. e;
  content = λ key one own there has reads. refl;
  alone = λ key one own there has writes e. e;
}
spared_fact c opens leases (Fact.Sent client) past s = record {
  sent = rw (no client s) refl;
  took = refl;
  written = λ f n p. refl;
  buffered = λ f n. refl;
  clean = λ key one own there has number writes e. e;
  content = λ key one own there has reads. refl;
  alone = λ key one own there has writes e. e;
}
  where
    no : (d : ℕ) → d ≢ c → (d == c) ≡ false
    no d ne = not_true (d == c) (λ e. ne (eqb-true d c e))
spared_fact c opens leases (Fact.Took client) past s = record {
  sent = refl;
  took = rw (no client s) refl;
  written = λ f n p. refl;
  buffered = λ f n. refl;
  clean = λ key one own there has number writes e. e;
  content = λ key one own there has reads. refl;
  alone = λ key one own there has writes e. e;
}
  where
    no : (d : ℕ) → d ≢ c → (d == c) ≡ false
    no d ne = not_true (d == c) (λ e. ne (eqb-true d c e))
spared_fact c opens leases (Fact.Opened file client) past s = record {
  sent = refl;
  took = refl;
  written = λ f n p. refl;
  buffered = λ f n. refl;
  clean = λ key one own there has number writes e.
      untouched (file == one.file) (not (client == c)) (has_buffered c one.file number past) (is_touched c one.file number past)
      (opened_clean c opens leases past file client s key one own there has number writes) e;
  content = λ key one own there has reads. refl;
  alone = λ key one own there has writes e. untouched_since (file == one.file) (not (client == c))
      (touched_since_lost c one.file past)
      (λ here. clash (leases key).state.write writes (s key one own there (sym (eqb-true file one.file here)) has)) e;
}
spared_fact c opens leases (Fact.Changed file client number patch) past s = record {
  sent = refl;
  took = refl;
  written = λ f n p. refl;
  buffered = λ f n. refl;
  clean = λ key one own there has n writes e. untouched (file == one.file) (not (client == c)) (has_buffered c one.file n past)
      (is_touched c one.file n past) (opened_clean c opens leases past file client s.0 key one own there has n writes) e;
  content = λ key one own there has reads. either (file == one.file)
      (λ here. clash (ends_as (leases key)).read reads (s.1 key one own there (sym (eqb-true file one.file here)) has))
      (λ away. rw (away) refl);
  alone = λ key one own there has writes e. untouched_since (file == one.file) (not (client == c))
      (touched_since_lost c one.file past)
      (λ here. clash (leases key).state.write writes (s.0 key one own there (sym (eqb-true file one.file here)) has)) e;
}
spared_fact c opens leases (Fact.Wrote client file number patch buffered) past s = record {
  sent = refl;
  took = refl;
  written = λ f n p. none client f n p s;
  buffered = λ f n. no client f n s;
  clean = λ key one own there has n writes e. e;
  content = λ key one own there has reads. refl;
  alone = λ key one own there has writes e. e;
}
  where
    no : (d f n : ℕ) → d ≢ c → ((d == c && file == f && number == n && buffered) || has_buffered c f n past)
        ≡ has_buffered c f n past
    no d f n ne = rw (not_true (d == c) (λ e. ne (eqb-true d c e))) refl

    none : (d f n : ℕ) (p : Patch) → d ≢ c
        → ((d == c && file == f && number == n && same_patch patch p) || has_written c f n p past) ≡ has_written c f n p past
    none d f n p ne = rw (not_true (d == c) (λ e. ne (eqb-true d c e))) refl
spared_fact c opens leases (Fact.Settled client number outcome) past s = record {
  sent = refl;
  took = refl;
  written = λ f n p. refl;
  buffered = λ f n. refl;
  clean = λ key one own there has n writes e. e;
  content = λ key one own there has reads. refl;
  alone = λ key one own there has writes e. e;
}
spared_fact c opens leases fact past s = record {
  sent = refl;
  took = refl;
  written = λ f n p. refl;
  buffered = λ f n. refl;
  clean = λ key one own there has n writes e. e;
  content = λ key one own there has reads. refl;
  alone = λ key one own there has writes e. e;
}

pub spared_two : (c : ℕ) (opens : List Open) (leases : Key → Lease) (fact other : Fact) (past : List Fact)
    → Spares c opens leases fact → Spares c opens leases other → IsSpared c opens leases past (other ∷ fact ∷ past)
spared_two c opens leases fact other past s t = spared_then c opens opens leases leases past (fact ∷ past)
    (other ∷ fact ∷ past) (λ one own a. a) (λ key one own has. refl) (spared_fact c opens leases fact past s)
    (spared_fact c opens leases other (fact ∷ past) t)

-- ---- notes of another client

note_spares : (c : ℕ) (opens : List Open) (leases : Key → Lease) (client : ℕ) (note : Note) → client ≢ c
    → Spares c opens leases (fact_of client note)
note_spares c opens leases client (Note.Wrote file number patch buffered) ne = ne
note_spares c opens leases client note ne = tt

pub spared_noted : (c : ℕ) (opens : List Open) (leases : Key → Lease) (client : ℕ) (past : List Fact)
    (notes : List Note) → client ≢ c → IsSpared c opens leases past (past_noted client past notes)
spared_noted c opens leases client past [] ne = spared_same c opens leases past
spared_noted c opens leases client past (note ∷ notes) ne = spared_then c opens opens leases leases past
    (fact_of client note ∷ past) (past_noted client (fact_of client note ∷ past) notes) (λ one own a. a)
    (λ key one own has. refl) (spared_fact c opens leases (fact_of client note) past (note_spares c opens leases client note ne))
    (spared_noted c opens leases client (fact_of client note ∷ past) notes ne)
