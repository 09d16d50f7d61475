-- One write cache, over one fact more.
use Rattle.lease_laws.proofs.Words.{◌∙◌, ◌∷◌, ◌≡◌, ◌≢◌, Bool, Fact, List, OneWriteCache, State, ℕ, arith}
use Rattle.lease_laws.proofs.Words.{believed, cases_Bool, false, has_strayed, has_two_caches, inl}
use Rattle.lease_laws.proofs.Words.{inr, is_good, is_served, nothing_cached, subst, sym, true}
use Rattle.lease_laws.proofs.records.VerdictLemmas.{one_cache-test}
use Rattle.lease_world.specs.judge.Seen.{is_conflict}

-- ---- facts by which no client becomes good and no belief changes

-- the fact makes no client good and changes no belief
abbrev pub is_quiet : Fact → Bool
is_quiet (Fact.Joined client) = false
is_quiet (Fact.Believes client file state) = false
is_quiet _ = true

was_good : (client : ℕ) (fact : Fact) (past : List Fact) → is_quiet fact ≡ true → is_good client (fact ∷ past) ≡ true
    → is_good client past ≡ true
unfolding is_good has_strayed is_served
was_good client fact past q g = grind arith

pub same_belief : (client file : ℕ) (fact : Fact) (past : List Fact) → is_quiet fact ≡ true
    → believed client file (fact ∷ past) ≡ believed client file past
unfolding believed
same_belief client file fact past q = grind arith

pub one-stays : (fact : Fact) (past : List Fact) → is_quiet fact ≡ true → OneWriteCache past → OneWriteCache (fact ∷ past)
one-stays fact past q one file client other ne good writes good_too = same_belief other file fact past q
    ∙ one file client other ne (was_good client fact past q good)
    (subst (λ (s : State). s.write ≡ true) (same_belief client file fact past q) writes) (was_good other fact past q good_too)

-- ---- conflicts of two beliefs

-- a conflict is one of these
conflict_either : (one other : State) → is_conflict one other ≡ true
    → (one.write ≡ true → other ≡ nothing_cached) → (other.write ≡ true → one ≡ nothing_cached) → ⊥
conflict_either one other e f g = grind arith

-- two good clients that conflict are two caches
pub two-where : (past : List Fact) (client other file : ℕ) → other ≢ client
    → is_good client past ≡ true → is_good other past ≡ true
    → is_conflict (believed client file past) (believed other file past) ≡ true → has_two_caches past ≡ true
two-where past client other file ne good good_too conflict = elim (cases_Bool (has_two_caches past)) [
  | inl two ↦ two
  | inr none ↦
      let one : OneWriteCache past = one_cache-test past none in
      absurd (conflict_either (believed client file past) (believed other file past) conflict
      (λ w. one file client other ne good w good_too)
      (λ w. one file other client (λ e. ne (sym e)) good_too w good))
]

-- where there is one write cache, no two good clients conflict
pub none-conflicts : (past : List Fact) (client other file : ℕ) → OneWriteCache past → other ≢ client
    → is_good client past ≡ true → is_good other past ≡ true
    → is_conflict (believed client file past) (believed other file past) ≡ false
none-conflicts past client other file one ne good good_too = grind arith

-- One write cache after a fact about one client, of which no other good client is a rival.
pub one-after : (past next : List Fact) (client : ℕ) → OneWriteCache past
    → ((other : ℕ) → other ≢ client → is_good other next ≡ is_good other past)
    → ((other file : ℕ) → other ≢ client → believed other file next ≡ believed other file past)
    → (is_good client next ≡ true → (file other : ℕ) → other ≢ client → is_good other next ≡ true
    → is_conflict (believed client file next) (believed other file next) ≡ false) → OneWriteCache next
one-after past next client one goods beliefs free file a b ne good writes good_too = grind arith
