-- The opens that end by a try, as they are told.
use Rattle.lease_laws.proofs.Words.{◌<◌, ◌==◌, ◌∙◌, ◌∷◌, ◌≡◌, ◌||◌, Among, AreInOrder, Bool, Decides-eqb, List, Open, Server, ℕ}
use Rattle.lease_laws.proofs.Words.{[], ap, arith, false, filter, if◌then◌else◌, inl, inr, list_any, map, nat_cmp, nat_tests, not}
use Rattle.lease_laws.proofs.Words.{refl, subst, sym, true, without}
use Rattle.std.specs.BTreeSet.{insert_key}
use Rattle.lease_laws.proofs.server.Lists.{among_filter, either, has_any}
use Rattle.manager_model.specs.Decisions.{Decision}
use Rattle.manager_model.specs.Handling.{ended_between, is_open}
use Rattle.lease_manager.specs.Ending.{AreEnded, EndsMore, all_added}
use Rattle.lease_manager.specs.Kept.{is_one_of}
use Rattle.lease_manager.specs.LeftOpens.{ids_of}
use Rattle.lease_manager.proofs.opens.Filing.{greater}
use Rattle.lease_manager.proofs.opens.LeftOpens.{inserted_first}
use Rattle.lease_manager.proofs.opens.Tabling.{chosen, filter_alike}

-- ---- FileIds that are added to rising ones

inserted_behind : (n m : ℕ) (ids : List ℕ) → n < m → insert_key nat_cmp (n ∷ ids) m ≡ n ∷ insert_key nat_cmp ids m
inserted_behind n m ids less = rw (greater m n less) refl

skipped : (n : ℕ) (ids : List ℕ) (more : List Open) → ((one : Open) → Among one more → n < one.file_id)
    → all_added (n ∷ ids) (ids_of more) ≡ n ∷ all_added ids (ids_of more)
skipped n ids [] above = refl
skipped n ids (one ∷ more) above =
    ap (λ l. all_added l (ids_of more)) (inserted_behind n one.file_id ids (above one (inl refl)))
    ∙ skipped n (insert_key nat_cmp ids one.file_id) more (λ other a. above other (inr a))

abbrev either_of : (Open → Bool) → (Open → Bool) → Open → Bool
either_of one other = λ o. one o || other o

without_both : (test closing : Open → Bool) (opens : List Open)
    → without closing (without test opens) ≡ without (either_of test closing) opens
without_both test closing [] = refl
without_both test closing (one ∷ opens) = let later = without_both test closing opens in
    either (test one)
    (λ t. rw t later)
    (λ t. either (closing one) (λ c. rw (t, c) later) (λ c. rw (t, c) (ap (λ l. one ∷ l) later)))

added_both : (test closing : Open → Bool) (opens : List Open) → AreInOrder opens
    → all_added (ids_of (filter test opens)) (ids_of (filter closing (without test opens)))
    ≡ ids_of (filter (either_of test closing) opens)
added_both test closing [] order = refl
added_both test closing (one ∷ opens) order =
    let later = added_both test closing opens order.1 in
    let above : (other : Open) → Among other (filter closing (without test opens)) → one.file_id < other.file_id =
    λ other a. order.0 other (among_filter (λ o. not (test o)) other opens
    (among_filter closing other (without test opens) a).0).0 in
    either (test one)
    (λ t. rw t (skipped one.file_id (ids_of (filter test opens)) (filter closing (without test opens)) above
    ∙ ap (λ l. one.file_id ∷ l) later))
    (λ t. either (closing one)
    (λ c. rw (t, c) (ap (λ l. all_added l (ids_of (filter closing (without test opens))))
    (inserted_first one.file_id (filter test opens) (λ other a. order.0 other (among_filter test other opens a).0))
    ∙ (skipped one.file_id (ids_of (filter test opens)) (filter closing (without test opens)) above
    ∙ ap (λ l. one.file_id ∷ l) later)))
    (λ c. rw (t, c) later))

-- ---- steps of a try

none_pass : (opens : List Open) → (let ids : List ℕ = [] in ids) ≡ ids_of (filter (λ one. false) opens)
none_pass [] = refl
none_pass (one ∷ opens) = none_pass opens

all_left : (opens : List Open) → opens ≡ without (λ one. false) opens
all_left [] = refl
all_left (one ∷ opens) = ap (λ l. one ∷ l) (all_left opens)

pub none_ended : (opens : List Open) → AreEnded opens [] opens
none_ended opens = record { test = λ one. false; ended = none_pass opens; left = all_left opens }

pub ends_same : (opens now : List Open) (ids : List ℕ) → now ≡ opens → EndsMore opens ids now ids
ends_same opens now ids same = λ before order ended. subst (AreEnded before ids) (sym same) ended

pub ends_then : (opens middle now : List Open) (ids more last : List ℕ) → EndsMore opens ids middle more
    → EndsMore middle more now last → EndsMore opens ids now last
ends_then opens middle now ids more last first second = λ before order ended. second before order (first before order ended)

pub ends_closed : (opens now : List Open) (ids more closed : List ℕ) (closing : Open → Bool)
    → closed ≡ ids_of (filter closing opens) → now ≡ without closing opens → more ≡ all_added ids closed
    → EndsMore opens ids now more
ends_closed opens now ids more closed closing are left is = λ before order ended. record {
  test = either_of ended.test closing;
  ended = is ∙ (ap (all_added ids) (are ∙ ap (λ l. ids_of (filter closing l)) ended.left)
      ∙ (ap (λ l. all_added l (ids_of (filter closing (without ended.test before)))) ended.ended
      ∙ added_both ended.test closing before order));
  left = left ∙ (ap (without closing) ended.left ∙ without_both ended.test closing before);
}

-- ---- what is told

among_numbers : (one : Open) (opens : List Open)
    → list_any (λ (other : Open). other.file_id == one.file_id) opens ≡ is_one_of (ids_of opens) one
among_numbers one [] = refl
among_numbers one (other ∷ opens) = let later = among_numbers one opens in grind (arith, nat_tests, later)

twice : (b : Bool) → not (not b) ≡ b
twice true = refl
twice false = refl

filter_same : (f g : Open → Bool) (opens : List Open) → ((one : Open) → f one ≡ g one) → filter f opens ≡ filter g opens
filter_same f g [] same = refl
filter_same f g (one ∷ opens) same = let later = filter_same f g opens same
    in rw (same one) (ap (λ l. if g one then one ∷ l else l) later)

ids_told : (opens : List Open) → map Decision.Ended (ids_of opens) ≡ map (λ (one : Open). Decision.Ended one.file_id) opens
ids_told [] = refl
ids_told (one ∷ opens) = ap (λ l. Decision.Ended one.file_id ∷ l) (ids_told opens)

-- those that pass the test ended, and the FileIds of the others are left
pub ended_by : (before after : Server) (ids : List ℕ) (test : Open → Bool) → AreInOrder before.opens
    → ids ≡ ids_of (filter test before.opens) → ids_of after.opens ≡ ids_of (without test before.opens)
    → map Decision.Ended ids ≡ ended_between before after
unfolding ended_between
ended_by before after ids test order are left =
    let open_still : (one : Open) → Among one before.opens → is_open after one ≡ not (test one) =
    λ one a. among_numbers one after.opens ∙ (ap (λ l. is_one_of l one) left
    ∙ chosen (λ o. not (test o)) before.opens one order a) in
    let same : without (is_open after) before.opens ≡ filter test before.opens =
    filter_alike (is_open after) (λ o. not (test o)) before.opens open_still
    ∙ filter_same (λ o. not (not (test o))) test before.opens (λ one. twice (test one)) in
    ap (map Decision.Ended) are ∙ (ids_told (filter test before.opens)
    ∙ ap (map (λ (one : Open). Decision.Ended one.file_id)) (sym same))

pub ended_are : (before after : Server) (ids : List ℕ) → AreInOrder before.opens → AreEnded before.opens ids after.opens
    → map Decision.Ended ids ≡ ended_between before after
ended_are before after ids order ended = ended_by before after ids ended.test order ended.ended (ap ids_of ended.left)

all_open : (test : Open → Bool) (opens : List Open) → ((one : Open) → Among one opens → test one ≡ true) → without test opens ≡ []
all_open test [] all = refl
all_open test (one ∷ opens) all = rw (all one (inl refl)) (all_open test opens (λ other a. all other (inr a)))

-- where no open changes none ended
pub none_between : (server : Server) → ended_between server server ≡ []
unfolding ended_between
none_between server = ap (map (λ (one : Open). Decision.Ended one.file_id)) (all_open (is_open server) server.opens (λ one a.
    has_any (λ (other : Open). other.file_id == one.file_id) one server.opens a ((Decides-eqb one.file_id one.file_id).1 refl)))

pub ended_so : (opens now : List Open) (first ids : List ℕ) → first ≡ [] → AreInOrder opens → EndsMore opens first now ids
    → AreEnded opens ids now
ended_so opens now first ids none order more =
    more opens order (subst (λ l. AreEnded opens l opens) (sym none) (none_ended opens))

-- where the opens are the same none ended
pub none_ends : (before after : Server) → after.opens ≡ before.opens → ended_between before after ≡ []
unfolding ended_between
none_ends before after same = ap (λ (opens : List Open). map (λ (one : Open). Decision.Ended one.file_id)
    (without (λ (one : Open). list_any (λ (other : Open). other.file_id == one.file_id) opens) before.opens)) same
    ∙ none_between before
