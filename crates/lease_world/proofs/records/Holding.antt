-- Holders of files, over one fact more.
use Rattle.lease_laws.proofs.Words.{◌<◌, ◌==◌, ◌∙◌, ◌∷◌, ◌≡◌, ◌≢◌, ◌≤◌, Bool, Fact, List, State, ℕ, ap, arith, believed}
use Rattle.lease_laws.proofs.Words.{cases_Bool, eqb-true, false, has_strayed, if◌then◌else◌, inl, inr, is_good, is_served}
use Rattle.lease_laws.proofs.Words.{nothing_cached, refl, sym, true}
use Rattle.lease_world.specs.judge.Holders.{without_holder, conflicts_with, believed_by, HasEntered, Leaves, Moves}
use Rattle.lease_world.specs.judge.Knows.{held, IsCounted, KnowsHolders}
use Rattle.lease_world.specs.judge.Seen.{SeenCache, SeenClient, Holders, holders_in, cache_in, is_good_client, is_conflict}
use Rattle.lease_world.proofs.records.Counts.{counted-with, counted-without, counted-same, conflict-one, conflict-none}
use Rattle.lease_world.proofs.records.Knowing.{match_bool, each_place}

-- ---- what a client holds

held-good : (client file : ℕ) (past : List Fact) → is_good client past ≡ true → held file past client ≡ believed client file past
unfolding held
held-good client file past good = rw good refl

pub held-bad : (client file : ℕ) (past : List Fact) → is_good client past ≡ false → held file past client ≡ nothing_cached
unfolding held
held-bad client file past bad = rw bad refl

no_conflict : (state : State) → is_conflict state nothing_cached ≡ false
no_conflict state = grind arith

-- who conflicts by what it holds is good
pub good-by-conflict : (client file : ℕ) (past : List Fact) (state : State)
    → is_conflict state (held file past client) ≡ true → is_good client past ≡ true
good-by-conflict client file past state e = elim (cases_Bool (is_good client past)) [
  | inl good ↦ good
  | inr bad ↦
      let f : false ≡ true = sym (no_conflict state) ∙ (rw (held-bad client file past bad) at e) in
      let c : ⊥ = cc in absurd c
]

held-same : (client file : ℕ) (past next : List Fact) → is_good client next ≡ is_good client past
    → believed client file next ≡ believed client file past → held file next client ≡ held file past client
unfolding held
held-same client file past next good belief = rw (good, belief) refl

bad-same : (client file : ℕ) (past next : List Fact) → is_good client next ≡ false → is_good client past ≡ false
    → held file next client ≡ held file past client
bad-same client file past next bad was = held-bad client file next bad ∙ sym (held-bad client file past was)

-- ---- numbers of clients

within-few : (holders : List Holders) (past : List Fact) (client : ℕ) → KnowsHolders holders past → is_good client past ≡ true
    → client < 256
within-few holders past client k good = grind arith

-- ---- where each client is good as before

pub holders-same : (past next : List Fact) (old new : List Holders) → new ≡ old
    → ((c : ℕ) → is_good c next ≡ is_good c past) → ((c f : ℕ) → believed c f next ≡ believed c f past)
    → KnowsHolders old past → KnowsHolders new next
holders-same past next old new same goods beliefs k = rw same (record {
  few = λ c big. goods c ∙ k.few c big;
  counted = λ f. counted-same (held f past) (held f next) (holders_in old f)
      (λ c. held-same c f past next (goods c) (beliefs c f)) (k.counted f);
})

-- by the fact nobody becomes good or isn't good any more, and no belief changes
abbrev pub is_steady : Fact → Bool
is_steady (Fact.Joined client) = false
is_steady (Fact.Dropped client) = false
is_steady (Fact.Expired client file) = false
is_steady (Fact.Strayed client) = false
is_steady (Fact.Believes client file state) = false
is_steady _ = true

good-steady : (fact : Fact) (past : List Fact) → is_steady fact ≡ true → (client : ℕ)
    → is_good client (fact ∷ past) ≡ is_good client past
unfolding is_good is_served has_strayed
good-steady fact past e client = grind arith

belief-steady : (fact : Fact) (past : List Fact) → is_steady fact ≡ true → (client file : ℕ)
    → believed client file (fact ∷ past) ≡ believed client file past
unfolding believed
belief-steady fact past e client file = grind arith

pub holders-stay : (fact : Fact) (past : List Fact) (old new : List Holders) → is_steady fact ≡ true → new ≡ old
    → KnowsHolders old past → KnowsHolders new (fact ∷ past)
holders-stay fact past old new steady same k =
    holders-same past (fact ∷ past) old new same (good-steady fact past steady) (belief-steady fact past steady) k

-- ---- a client is good no more

pub holders-leave : (client : ℕ) (seen : SeenClient) (past next : List Fact) (old new : List Holders)
    → is_good_client seen ≡ is_good client past → ((f : ℕ) → (cache_in seen.caches f).belief ≡ believed client f past)
    → is_good client next ≡ false → ((c : ℕ) → c ≢ client → is_good c next ≡ is_good c past)
    → ((c f : ℕ) → believed c f next ≡ believed c f past) → Leaves seen old new → KnowsHolders old past → KnowsHolders new next
holders-leave client seen past next old new told belief bad others beliefs leaves k = record {
  few = λ c big. each_place (λ n. 256 ≤ n → is_good n next ≡ false) client (λ h. bad) (λ n ne h. others n ne ∙ k.few n h) c big;
  counted = λ f. match_bool (is_good_client seen) leaves
      (λ on has. rw (has f) (at_file f (sym told ∙ on)))
      (λ off same. rw same (counted-same (held f past) (held f next) (holders_in old f)
      (each_place (λ c. held f next c ≡ held f past c) client (bad-same client f past next bad (sym told ∙ off))
      (λ c ne. held-same c f past next (others c ne) (beliefs c f))) (k.counted f)));
}
  where
    at_file : (f : ℕ) → is_good client past ≡ true
        → IsCounted (held f next) (without_holder (cache_in seen.caches f).belief (holders_in old f))
    at_file f good = rw (belief f, ← held-good client f past good)
        (counted-without (held f past) (held f next) client (holders_in old f) (within-few old past client k good)
        (λ c ne. held-same c f past next (others c ne) (beliefs c f)) (held-bad client f next bad) (k.counted f))

-- ---- a client becomes good

pub holders-enter : (client : ℕ) (caches : List SeenCache) (past next : List Fact) (old new : List Holders) → client < 256
    → ((f : ℕ) → (cache_in caches f).belief ≡ believed client f next)
    → is_good client past ≡ false → is_good client next ≡ true → ((c : ℕ) → c ≢ client → is_good c next ≡ is_good c past)
    → ((c f : ℕ) → believed c f next ≡ believed c f past)
    → HasEntered caches old new → KnowsHolders old past → KnowsHolders new next
holders-enter client caches past next old new within belief bad good others beliefs has k = record {
  few = λ c big. others c (λ e. omega (arith, e, big, within)) ∙ k.few c big;
  counted = λ f. rw (has f, belief f, ← held-good client f next good)
      (counted-with (held f past) (held f next) client (holders_in old f) within
      (λ c ne. held-same c f past next (others c ne) (beliefs c f)) (held-bad client f past bad) (k.counted f));
}

-- another good client, and what conflicts of the two beliefs
pub record Rival (client file : ℕ) (state : State) (past : List Fact) : Type 0 where
  pub other : ℕ
  pub apart : other ≢ client
  pub good : is_good other past ≡ true
  pub conflict : is_conflict state (believed other file past) ≡ true

rival-held : (client file : ℕ) (state : State) (past : List Fact) (other : ℕ) → other ≢ client
    → is_conflict state (held file past other) ≡ true → Rival client file state past
rival-held client file state past other apart e =
    let good : is_good other past ≡ true = good-by-conflict other file past state e in
    record {
      other = other;
      apart = apart;
      good = good;
      conflict = rw (held-good other file past good) at e;
    }

free-held : (file : ℕ) (state : State) (past : List Fact) (other : ℕ) → is_good other past ≡ true
    → is_conflict state (held file past other) ≡ false → is_conflict state (believed other file past) ≡ false
free-held file state past other good e = rw (held-good other file past good) at e

-- of a client that isn't good yet
pub enter-rival : (client file : ℕ) (state : State) (holders : List Holders) (past : List Fact) → is_good client past ≡ false
    → conflicts_with state (holders_in holders file) ≡ true → KnowsHolders holders past → Rival client file state past
enter-rival client file state holders past bad e k =
    let one = conflict-one (held file past) state (holders_in holders file) (k.counted file) e in
    rival-held client file state past one.0
    (λ is. let was : is_good one.0 past ≡ true = good-by-conflict one.0 file past state one.1 in
    let f : true ≡ false = sym was ∙ (ap (λ (c : ℕ). is_good c past) is ∙ bad) in let c : ⊥ = cc in c) one.1

pub enter-free : (file : ℕ) (state : State) (holders : List Holders) (past : List Fact) (other : ℕ)
    → conflicts_with state (holders_in holders file) ≡ false → KnowsHolders holders past → is_good other past ≡ true
    → is_conflict state (believed other file past) ≡ false
enter-free file state holders past other e k good = free-held file state past other good
    (conflict-none (held file past) state (holders_in holders file) (k.counted file) e other
    (within-few holders past other k good))

-- ---- a good client believes something else

-- the others' holding
but : ℕ → (ℕ → State) → ℕ → State
but client held other = if other == client then nothing_cached else held other

but-here : (client : ℕ) (held : ℕ → State) → but client held client ≡ nothing_cached
unfolding but
but-here client held = let e : (client == client) ≡ true = grind arith in rw e refl

but-other : (client : ℕ) (held : ℕ → State) (other : ℕ) → other ≢ client → but client held other ≡ held other
unfolding but
but-other client held other ne = let e : (other == client) ≡ false = grind arith in rw e refl

counted-but : (client file : ℕ) (belief : State) (holders : List Holders) (past : List Fact) → is_good client past ≡ true
    → belief ≡ believed client file past → KnowsHolders holders past
    → IsCounted (but client (held file past)) (without_holder belief (holders_in holders file))
counted-but client file belief holders past good is k = rw (is, ← held-good client file past good)
    (counted-without (held file past) (but client (held file past)) client (holders_in holders file)
    (within-few holders past client k good) (but-other client (held file past)) (but-here client (held file past))
    (k.counted file))

pub believe-rival : (client file : ℕ) (belief state : State) (holders : List Holders) (past : List Fact)
    → is_good client past ≡ true → belief ≡ believed client file past
    → conflicts_with state (without_holder belief (holders_in holders file)) ≡ true → KnowsHolders holders past
    → Rival client file state past
believe-rival client file belief state holders past good is e k =
    let one = conflict-one (but client (held file past)) state (without_holder belief (holders_in holders file))
    (counted-but client file belief holders past good is k) e in
    let apart : one.0 ≢ client = λ same. himself one.0 same one.1 in
    rival-held client file state past one.0 apart (rw (but-other client (held file past) one.0 apart) at one.1)
  where
    himself : (other : ℕ) → other ≡ client → is_conflict state (but client (held file past) other) ≡ true → ⊥
    himself other same e =
        let f : false ≡ true = sym (no_conflict state) ∙ (rw (same, but-here client (held file past)) at e) in
        let c : ⊥ = cc in c

pub believe-free : (client file : ℕ) (belief state : State) (holders : List Holders) (past : List Fact) (other : ℕ)
    → is_good client past ≡ true → belief ≡ believed client file past
    → conflicts_with state (without_holder belief (holders_in holders file)) ≡ false → KnowsHolders holders past
    → other ≢ client → is_good other past ≡ true → is_conflict state (believed other file past) ≡ false
believe-free client file belief state holders past other good is e k apart good_too = free-held file state past other good_too
    (rw (but-other client (held file past) other apart) at
    (conflict-none (but client (held file past)) state (without_holder belief (holders_in holders file))
    (counted-but client file belief holders past good is k) e other (within-few holders past other k good_too)))

pub holders-move : (client file : ℕ) (state : State) (seen : SeenClient) (past next : List Fact) (old new : List Holders)
    → is_good_client seen ≡ is_good client past → ((f : ℕ) → (cache_in seen.caches f).belief ≡ believed client f past)
    → ((c : ℕ) → is_good c next ≡ is_good c past) → believed client file next ≡ state
    → ((c f : ℕ) → c ≢ client → believed c f next ≡ believed c f past)
    → ((f : ℕ) → f ≢ file → believed client f next ≡ believed client f past)
    → Moves seen file state old new → KnowsHolders old past → KnowsHolders new next
holders-move client file state seen past next old new told belief goods is others elsewhere moves k = record {
  few = λ c big. goods c ∙ k.few c big;
  counted = λ f. match_bool (is_good_client seen) moves
      (λ on has. rw (has f) (moved (sym told ∙ on) f))
      (λ off same. rw same (counted-same (held f past) (held f next) (holders_in old f)
      (each_place (λ c. held f next c ≡ held f past c) client
      (bad-same client f past next (goods client ∙ (sym told ∙ off)) (sym told ∙ off))
      (λ c ne. held-same c f past next (goods c) (others c f ne))) (k.counted f)));
}
  where
    here : is_good client past ≡ true → IsCounted (held file next) (believed_by seen file state old)
    here good = rw (← is, ← held-good client file next (goods client ∙ good))
        (counted-with (but client (held file past)) (held file next) client
        (without_holder (cache_in seen.caches file).belief (holders_in old file)) (within-few old past client k good)
        (λ c ne. held-same c file past next (goods c) (others c file ne) ∙ sym (but-other client (held file past) c ne))
        (but-here client (held file past))
        (counted-but client file (cache_in seen.caches file).belief old past good (belief file) k))

    away : (f : ℕ) → f ≢ file → IsCounted (held f next) (holders_in old f)
    away f ne = counted-same (held f past) (held f next) (holders_in old f)
        (each_place (λ c. held f next c ≡ held f past c) client (held-same client f past next (goods client) (elsewhere f ne))
        (λ c apart. held-same c f past next (goods c) (others c f apart))) (k.counted f)

    differ : (f : ℕ) → (f == file) ≡ false → f ≡ file → ⊥
    differ f ne same = grind arith

    moved : is_good client past ≡ true → (f : ℕ)
        → IsCounted (held f next) (if f == file then believed_by seen file state old else holders_in old f)
    moved good f = elim (cases_Bool (f == file)) [
      | inl e ↦ rw (e, eqb-true f file e) (here good)
      | inr ne ↦ rw ne (away f (λ same. differ f ne same))
    ]
