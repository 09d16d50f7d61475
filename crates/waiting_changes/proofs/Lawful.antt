-- Tries are calls to give up, and each change that waits goes on or waits on.
use Rattle.lease_laws.proofs.Words.{◌+◌, ◌++◌, ◌∷◌, ◌≡◌, Bool, List, [], ap, arith, filter, length, map, not, refl, None}
use Rattle.lease_laws.proofs.Words.{true, false, without, ◌&&◌}
use Rattle.lease_laws.proofs.server.Lists.{among_filter, either}
use Rattle.lease_manager.specs.GivingUp.{extent_of}
use Rattle.manager_model.specs.Handling.{Handling, give_up}
use Rattle.waiting_changes.specs.Changes.{Going, asked_for, asked_for_all, changed, concluded, goes, goes_on, going_with}
use Rattle.waiting_changes.specs.Changes.{handling_in, is_free, is_on, own_of, tried_after}
use Rattle.waiting_changes.specs.Laws.{Becomes, ChangesAreAnswered, TriesAreFair, call_for, managed_along}
use Rattle.waiting_changes.specs.declared.change.Change.{Change}

along : (changes : List Change) (now : Handling) → asked_for_all changes now ≡ managed_along (map call_for changes) now
unfolding asked_for_all managed_along
along [] now = refl
along (one ∷ changes) now = along changes (asked_for one now)

pub counted : {X : Type 0} (picked test : X → Bool) (xs : List X) → length (filter test xs)
    ≡ length (filter test (filter picked xs)) + length (filter test (without picked xs))
counted picked test [] = refl
counted picked test (x ∷ xs) =
    let later = counted picked test xs in
    either (picked x)
    (λ p. rw p (either (test x) (λ t. rw t (omega (arith, later))) (λ t. rw t later)))
    (λ p. rw p (either (test x) (λ t. rw t (omega (arith, later))) (λ t. rw t later)))

both_free : (on free : Bool) → (on && free) ≡ true → free ≡ true
both_free on free both = grind (arith, both)

both_on : (on free : Bool) → (on && free) ≡ true → on ≡ true
both_on on free both = grind (arith, both)

hindered : (on free : Bool) → not (on && free) ≡ true → on ≡ true → free ≡ false
hindered on free stays there = grind (arith, stays, there)

pub tries_are_fair : TriesAreFair
tries_are_fair file going =
    let asked = asked_for_all (filter (is_on file) going.waiting) (handling_in going) in
    let same = along (filter (is_on file) going.waiting) (handling_in going) in
    let test : Change → Bool = goes file asked.manager.server in record {
      gone = filter test going.waiting;
      calls = ap (λ (h : Handling). h.manager) same;
      told = ap (λ (h : Handling). h.told ++ map goes_on (filter test going.waiting)) same;
      free = λ one a. both_free (is_on file one) (is_free asked.manager.server one) (among_filter test one going.waiting a).1;
      in_the_way = λ one a there. hindered (is_on file one) (is_free asked.manager.server one)
          (among_filter (λ x. not (test x)) one going.waiting a).1 there;
      each_once = λ what. counted test what going.waiting;
      others = λ one a. both_on (is_on file one) (is_free asked.manager.server one) (among_filter test one going.waiting a).1;
    }

becomes : (one : Change) (going : Going) → Becomes one going (concluded one going)
becomes one going = either (is_free going.manager.server one)
    (λ free. rw free (Becomes.GoesOn free refl refl))
    (λ free. rw free (Becomes.Waits free refl refl))

same_manager : (one : Change) (going : Going) → (concluded one going).manager ≡ going.manager
same_manager one going = either (is_free going.manager.server one) (λ free. rw free refl) (λ free. rw free refl)

pub changes_are_answered : ChangesAreAnswered
unfolding changed
changes_are_answered manager waiting one =
    let before : Going = tried_after None [] (going_with waiting
    (give_up manager (own_of one) one.file.0 (extent_of one.extent))) in record {
      same = same_manager one before;
      becomes = becomes one before;
    }
