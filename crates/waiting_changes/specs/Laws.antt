-- What holds of changes that wait, whatever the manager and whatever waits.
use Rattle.std.specs.Prelude.{◌≡◌, ◌+◌, ℕ, Bool, true, false, None, List, [], ◌∷◌, ◌++◌, map, filter, length}
use Rattle.lease_laws.specs.server.Laws.{Among}
use Rattle.lease_manager.specs.GivingUp.{extent_of}
use Rattle.manager_model.specs.Handling.{Handling, Manager}
use Rattle.manager_model.specs.Hosting.{Coming, managed}
use Rattle.waiting_changes.specs.Changes.{Going, changed, goes_on, handling_in, is_free, is_on, own_of, tried_after, tried_on}
use Rattle.waiting_changes.specs.Changes.{waits}
use Rattle.waiting_changes.specs.declared.change.Change.{Change}

-- the call of the manager by which others give up what is in a change's way
abbrev pub call_for : Change → Coming
call_for one = Coming.GivesUp (own_of one) one.file.0 (extent_of one.extent)

-- what a manager comes to along these calls, and tells of them
unfoldable pub managed_along : List Coming → Handling → Handling
managed_along [] now = now
managed_along (coming ∷ comings) now = managed_along comings (record {
  manager = (managed now.manager coming).manager;
  told = now.told ++ (managed now.manager coming).told;
})

-- A try on a file.
--   calls: to the manager it is calls by which others give up, so that what holds of all its calls holds
--   told: these changes go on after what those tell
--   free: nothing is in the way of each of them
--   in_the_way: something is in the way of each that waits on there
--   each_once: whatever is counted, each change of before goes on or waits on, and does so once
--   others: on other files the same wait
pub record IsTry (file : ℕ) (before after : Going) : Type 0 where
  pub gone : List Change
  pub calls : after.manager
      ≡ (managed_along (map call_for (filter (is_on file) before.waiting)) (handling_in before)).manager
  pub told : after.told ≡ (managed_along (map call_for (filter (is_on file) before.waiting)) (handling_in before)).told
      ++ map goes_on gone
  pub free : (one : Change) → Among one gone → is_free after.manager.server one ≡ true
  pub in_the_way : (one : Change) → Among one after.waiting → is_on file one ≡ true
      → is_free after.manager.server one ≡ false
  pub each_once : (test : Change → Bool) → length (filter test before.waiting)
      ≡ length (filter test gone) + length (filter test after.waiting)
  pub others : (one : Change) → Among one gone → is_on file one ≡ true

abbrev pub TriesAreFair : Type 0
TriesAreFair = (file : ℕ) (going : Going) → IsTry file going (tried_on file going)

-- What becomes of a change as it is asked for: it goes on, and nothing is in its way; or it waits after the others, and something
-- is.
pub data Becomes (one : Change) (before after : Going) : Type 0 where
  GoesOn : (free : is_free after.manager.server one ≡ true) (told : after.told ≡ before.told ++ goes_on one ∷ [])
      (waiting : after.waiting ≡ before.waiting) → Becomes one before after
  Waits : (in_the_way : is_free after.manager.server one ≡ false) (told : after.told ≡ before.told ++ waits one ∷ [])
      (waiting : after.waiting ≡ before.waiting ++ one ∷ []) → Becomes one before after

-- others give up what is in the change's way, and where that closed an open what waits is tried
abbrev pub after_giving_up : Manager → List Change → Change → Going
after_giving_up manager waiting one = tried_after None [] (record {
  manager = (managed manager (call_for one)).manager;
  waiting = waiting;
  told = (managed manager (call_for one)).told;
})

-- A change is asked for: after that it goes on or waits, and nothing else is done.
pub record IsAskedFor (manager : Manager) (waiting : List Change) (one : Change) (after : Going) : Type 0 where
  pub same : after.manager ≡ (after_giving_up manager waiting one).manager
  pub becomes : Becomes one (after_giving_up manager waiting one) after

abbrev pub ChangesAreAnswered : Type 0
ChangesAreAnswered = (manager : Manager) (waiting : List Change) (one : Change)
    → IsAskedFor manager waiting one (changed manager waiting one)
