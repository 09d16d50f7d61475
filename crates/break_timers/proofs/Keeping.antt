-- Timers by number and by lease, as they start, stop and run out.
use Rattle.lease_laws.proofs.Words.{◌+◌, ◌==◌, ◌∙◌, ◌≡◌, Decides-eqb, Key, None, Option, Some, Updates, ℕ, ap, arith, bytes_eq}
use Rattle.lease_laws.proofs.Words.{false, fun_ext, get, if◌then◌else◌, is_at, key_eq, nat_cmp, nat_tests, put, put_key}
use Rattle.lease_laws.proofs.Words.{refl, sym, true≢false, List, [], ◌∷◌}
use Rattle.std.specs.BTreeMap.{BTreeMap}
use Rattle.lease_laws.proofs.server.Keys.{key_eq-same, key_eq-refl}
use Rattle.lease_laws.proofs.server.Lists.{either}
use Rattle.lease_manager.proofs.sums.Ordering.{order_eq-back}
use Rattle.lease_manager.specs.KeyOrder.{key_order}
use Rattle.break_timers.specs.Timers.{AreKept, AreTimers, Timers, run_out, started, stopped, unless}

turned : (one other : Key) → key_eq other one ≡ key_eq one other
unfolding key_eq
turned one other = let e = bytes_turned one.bytes other.bytes in grind (arith, nat_tests, e)
  where
    bytes_turned : (xs ys : List ℕ) → bytes_eq ys xs ≡ bytes_eq xs ys
    bytes_turned [] [] = refl
    bytes_turned [] (y ∷ ys) = refl
    bytes_turned (x ∷ xs) [] = refl
    bytes_turned (x ∷ xs) (y ∷ ys) = let e = bytes_turned xs ys in grind (arith, nat_tests, e)

at_number : (n m : ℕ) → is_at (nat_cmp n) m ≡ (m == n)
at_number n m = grind (arith, nat_tests)

numbers_put : (before after : BTreeMap ℕ Key) (n : ℕ) (value : Option Key) → Updates nat_cmp before after n value
    → get nat_cmp after ≡ put (get nat_cmp before) n value
unfolding put
numbers_put before after n value updates = fun_ext (λ m. updates.0 m ∙ rw (at_number n m) (grind arith))

keys_put : (before after : BTreeMap Key ℕ) (key : Key) (value : Option ℕ) → Updates key_order before after key value
    → get key_order after ≡ put_key (get key_order before) key value
unfolding put_key
keys_put before after key value updates = fun_ext (λ other. updates.0 other ∙ rw (order_eq-back key other) (grind arith))

-- ---- a timer goes

module _ (last : ℕ) (numbers : ℕ → Option Key) (keys : Key → Option ℕ) where
  apart : AreTimers last numbers keys → (n m : ℕ) (key other : Key) → keys key ≡ Some n → numbers m ≡ Some other
      → (m == n) ≡ false → key_eq other key ≡ false
  apart kept n m key other at runs off = either (key_eq other key)
      (λ e.
      let is : Some m ≡ Some n = sym (kept.back m other runs) ∙ (ap keys (key_eq-same other key e) ∙ at) in
      grind (arith, nat_tests, off, is))
      (λ e. e)

  kept_less : AreTimers last numbers keys → (n : ℕ) (key : Key) → keys key ≡ Some n
      → AreTimers last (put numbers n None) (put_key keys key None)
  unfolding put put_key
  kept_less kept n key at = record {
    back = λ m other runs. either (m == n)
        (λ e. absurd (cc (rw e at runs)))
        (λ e.
        let was : numbers m ≡ Some other = rw e at runs in
        rw (apart kept n m key other at was e) (kept.back m other was));
    same = λ m one other known runs. either (m == n)
        (λ e. absurd (cc (rw e at runs)))
        (λ e. either (key_eq one key)
        (λ f. absurd (cc (rw f at known)))
        (λ f. kept.same m one other (rw f at known) (rw e at runs)));
    bound = λ m one known. either (key_eq one key)
        (λ f. absurd (cc (rw f at known)))
        (λ f. kept.bound m one (rw f at known));
  }

  stopped_one : AreTimers last numbers keys → (n : ℕ) (key : Key) → keys key ≡ Some n
      → (m : ℕ) → put numbers n None m ≡ unless key (numbers m)
  unfolding put
  stopped_one kept n key at m = by_case (numbers m) refl
    where
      by_case : (found : Option Key) → numbers m ≡ found → (if m == n then None else numbers m) ≡ unless key (numbers m)
      by_case None e = rw e (grind arith)
      by_case (Some other) e = either (m == n)
          (λ f.
          let known : keys key ≡ Some m = at ∙ ap Some (sym ((Decides-eqb m n).0 f)) in
          let is = kept.same m key other known e in
          rw (e, f, is, key_eq-refl key) refl)
          (λ f. rw (e, f, sym (turned key other) ∙ apart kept n m key other at e f) refl)

  stopped_none : AreTimers last numbers keys → (key : Key) → ((n : ℕ) → keys key ≡ Some n → ⊥)
      → (m : ℕ) → numbers m ≡ unless key (numbers m)
  stopped_none kept key never m = by_case (numbers m) refl
    where
      by_case : (found : Option Key) → numbers m ≡ found → numbers m ≡ unless key (numbers m)
      by_case None e = rw e refl
      by_case (Some other) e = either (key_eq key other)
          (λ f. absurd (never m (ap keys (key_eq-same key other f) ∙ kept.back m other e)))
          (λ f. rw (e, f) refl)

-- ---- a timer comes

module _ (last next : ℕ) (numbers : ℕ → Option Key) (keys : Key → Option ℕ) (key : Key) where
  not_yet : AreTimers last numbers keys → next ≡ last + 1 → (other : Key) → keys other ≡ Some next → ⊥
  not_yet kept is other at = let below = kept.bound next other at in absurd (grind (arith, below, is))

  kept_known : AreTimers last numbers keys → next ≡ last + 1 → ((m : ℕ) → numbers m ≡ Some key → ⊥)
      → AreTimers next numbers (put_key keys key (Some next))
  unfolding put_key
  kept_known kept is none = record {
    back = λ m other runs. either (key_eq other key)
        (λ e. absurd (none m (runs ∙ ap Some (key_eq-same other key e))))
        (λ e. rw e (kept.back m other runs));
    same = λ m one other known runs. either (key_eq one key)
        (λ e.
        let at : Some next ≡ Some m = rw e at known in
        absurd (not_yet kept is other (kept.back m other runs ∙ sym at)))
        (λ e. kept.same m one other (rw e at known) runs);
    bound = λ m one known. either (key_eq one key)
        (λ e. let at : Some next ≡ Some m = rw e at known in grind (arith, at))
        (λ e. let below = kept.bound m one (rw e at known) in grind (arith, below, is));
  }

  kept_more : AreTimers last numbers keys → next ≡ last + 1 → ((m : ℕ) → numbers m ≡ Some key → ⊥)
      → AreTimers next (put numbers next (Some key)) (put_key keys key (Some next))
  unfolding put put_key
  kept_more kept is none = let known = kept_known kept is none in record {
    back = λ m other runs. either (m == next)
        (λ e.
        let same : other ≡ key = grind (arith, rw e at runs) in
        rw (same, key_eq-refl key) (ap Some (sym ((Decides-eqb m next).0 e))))
        (λ e. known.back m other (rw e at runs));
    same = λ m one other at runs. either (m == next)
        (λ e. either (key_eq one key)
        (λ f. sym (grind (arith, rw e at runs)) ∙ sym (key_eq-same one key f))
        (λ f. absurd (not_yet kept is one (rw f at at ∙ ap Some ((Decides-eqb m next).0 e)))))
        (λ e. known.same m one other at (rw e at runs));
    bound = λ m one at. known.bound m one at;
  }

-- ---- in the maps

pub less_kept : (last : ℕ) (before after : BTreeMap ℕ Key) (keys later : BTreeMap Key ℕ) (n : ℕ) (key : Key)
    → AreKept last before keys → get key_order keys key ≡ Some n → Updates nat_cmp before after n None
    → Updates key_order keys later key None → AreKept last after later
less_kept last before after keys later n key kept at numbers known =
    rw (numbers_put before after n None numbers, keys_put keys later key None known)
    (kept_less last (get nat_cmp before) (get key_order keys) kept n key at)

abbrev timers : ℕ → (ℕ → Option Key) → Timers
timers last numbers = record { started = last; running = numbers }

pub ran_out : (last : ℕ) (before after : BTreeMap ℕ Key) (n : ℕ) → Updates nat_cmp before after n None
    → timers last (get nat_cmp after) ≡ run_out n (timers last (get nat_cmp before))
ran_out last before after n updates = ap (timers last) (numbers_put before after n None updates)

pub stops_one : (last : ℕ) (before after : BTreeMap ℕ Key) (keys : BTreeMap Key ℕ) (n : ℕ) (key : Key)
    → AreKept last before keys → get key_order keys key ≡ Some n → Updates nat_cmp before after n None
    → timers last (get nat_cmp after) ≡ stopped key (timers last (get nat_cmp before))
stops_one last before after keys n key kept at updates = ap (timers last) (numbers_put before after n None updates
    ∙ fun_ext (stopped_one last (get nat_cmp before) (get key_order keys) kept n key at))

pub stops_none : (last : ℕ) (numbers : BTreeMap ℕ Key) (keys : BTreeMap Key ℕ) (key : Key) → AreKept last numbers keys
    → ((n : ℕ) → get key_order keys key ≡ Some n → ⊥)
    → timers last (get nat_cmp numbers) ≡ stopped key (timers last (get nat_cmp numbers))
stops_none last numbers keys key kept never = ap (timers last)
    (fun_ext (stopped_none last (get nat_cmp numbers) (get key_order keys) kept key never))

-- after it was stopped
none_runs : (key : Key) (found : Option Key) → unless key found ≡ Some key → ⊥
none_runs key None e = absurd (cc e)
none_runs key (Some other) e = either (key_eq key other)
    (λ f. absurd (cc (rw f at e)))
    (λ f.
    let same : other ≡ key = grind (arith, rw f at e) in
    absurd (true≢false (rw (same, key_eq-refl key) at f)))

stopped_before : (key : Key) (old : Timers) (last : ℕ) (numbers : BTreeMap ℕ Key)
    → timers last (get nat_cmp numbers) ≡ stopped key old → (m : ℕ) → get nat_cmp numbers m ≡ Some key → ⊥
stopped_before key old last numbers is m runs =
    none_runs key (old.running m) (sym (ap (λ (t : Timers). t.running m) is) ∙ runs)

pub known_kept : (old : Timers) (last next : ℕ) (numbers : BTreeMap ℕ Key) (keys later : BTreeMap Key ℕ) (key : Key)
    → AreKept last numbers keys → next ≡ last + 1 → timers last (get nat_cmp numbers) ≡ stopped key old
    → Updates key_order keys later key (Some next) → AreKept next numbers later
known_kept old last next numbers keys later key kept is stop known = rw (keys_put keys later key (Some next) known)
    (kept_known last next (get nat_cmp numbers) (get key_order keys) key kept is (stopped_before key old last numbers stop))

pub more_kept : (old : Timers) (last next : ℕ) (before after : BTreeMap ℕ Key) (keys later : BTreeMap Key ℕ) (key : Key)
    → AreKept last before keys → next ≡ last + 1 → timers last (get nat_cmp before) ≡ stopped key old
    → Updates nat_cmp before after next (Some key) → Updates key_order keys later key (Some next) → AreKept next after later
more_kept old last next before after keys later key kept is stop numbers known =
    rw (numbers_put before after next (Some key) numbers, keys_put keys later key (Some next) known)
    (kept_more last next (get nat_cmp before) (get key_order keys) key kept is (stopped_before key old last before stop))

pub starts : (old : Timers) (last next : ℕ) (before after : BTreeMap ℕ Key) (key : Key)
    → next ≡ last + 1 → timers last (get nat_cmp before) ≡ stopped key old
    → Updates nat_cmp before after next (Some key) → timers next (get nat_cmp after) ≡ started key old
starts old last next before after key is stop updates =
    let count : last ≡ old.started = ap (λ (t : Timers). t.started) stop in
    let ran : get nat_cmp before ≡ (stopped key old).running = ap (λ (t : Timers). t.running) stop in
    rw (numbers_put before after next (Some key) updates, ran, is, count) refl
