-- Whole runs of calls where changes wait, as runs of the manager.
use Rattle.std.specs.Prelude.{◌≡◌, ◌+◌, ◌++◌, ◌∷◌, ⊤, ℕ, Bool, true, false, List, [], Option}
use Rattle.std.specs.Prelude.{map, filter, length}
use Rattle.std.specs.List.{flat_map, list_any}
use Rattle.lease_laws.specs.server.Laws.{Among}
use Rattle.lease_model.specs.values.Lists.{without}
use Rattle.manager_model.specs.Decisions.{Decision}
use Rattle.manager_model.specs.Handling.{Handling, Manager}
use Rattle.manager_model.specs.Hosting.{Coming, HasFreeTag, HaveFreeTags, managed}
use Rattle.waiting_changes.specs.Changes.{Going, changed, goes_on, handling_in, tried_after, waits}
use Rattle.waiting_changes.specs.Laws.{call_for, managed_along}
use Rattle.waiting_changes.specs.declared.change.Change.{Change}

-- ---- what comes where changes wait

-- Comes: a call of the manager. Where it is a client's request, own is that client and its tag. It is about these files. Changes
--   that pass the test wait no longer, and of them this is told.
-- Changes: a change is asked for.
pub data Calling : Type 0 where
  Comes : (coming : Coming) (own : Option (ℕ × ℕ)) (about : List ℕ) (leaves : Change → Bool) (noted : List Decision)
      → Calling
  Changes : (one : Change) → Calling

-- the manager's own call of it
abbrev pub own_call : Calling → Coming
own_call (Calling.Comes coming own about leaves noted) = coming
own_call (Calling.Changes one) = call_for one

abbrev pub asked_at : Calling → List Change
asked_at (Calling.Comes coming own about leaves noted) = []
asked_at (Calling.Changes one) = one ∷ []

abbrev pub is_left_at : Change → Calling → Bool
is_left_at one (Calling.Comes coming own about leaves noted) = leaves one
is_left_at one (Calling.Changes other) = false

-- what waits is tried after it
abbrev pub come_to : Manager → List Change → Calling → Going
come_to manager waiting (Calling.Comes coming own about leaves noted) = tried_after own about (record {
  manager = (managed manager coming).manager;
  waiting = without leaves waiting;
  told = (managed manager coming).told ++ noted;
})
come_to manager waiting (Calling.Changes one) = changed manager waiting one

-- what was told before stands first
abbrev pub going_on : Calling → Going → Going
going_on calling going = record {
  manager = (come_to going.manager going.waiting calling).manager;
  waiting = (come_to going.manager going.waiting calling).waiting;
  told = going.told ++ (come_to going.manager going.waiting calling).told;
}

unfoldable pub going_along : List Calling → Going → Going
going_along [] going = going
going_along (calling ∷ callings) going = going_along callings (going_on calling going)

-- each request comes under a tag under which none waits
abbrev pub AskFreely : List Calling → Going → Type 0
AskFreely [] going = ⊤
AskFreely (calling ∷ callings) going =
    HasFreeTag going.manager (own_call calling) × AskFreely callings (going_on calling going)

-- ---- step by step

-- A call of the manager; or a change goes on, or begins to wait; or these wait no longer, and this is told of them.
pub data Step : Type 0 where
  Calls : (coming : Coming) → Step
  GoesOn : (one : Change) → Step
  Waits : (one : Change) → Step
  Leaves : (gone : List Change) (noted : List Decision) → Step

abbrev pub stepped : Step → Handling → Handling
stepped (Step.Calls coming) now = record {
  manager = (managed now.manager coming).manager;
  told = now.told ++ (managed now.manager coming).told;
}
stepped (Step.GoesOn one) now = record { manager = now.manager; told = now.told ++ goes_on one ∷ [] }
stepped (Step.Waits one) now = record { manager = now.manager; told = now.told ++ waits one ∷ [] }
stepped (Step.Leaves gone noted) now = record { manager = now.manager; told = now.told ++ noted }

unfoldable pub stepped_along : List Step → Handling → Handling
stepped_along [] now = now
stepped_along (step ∷ steps) now = stepped_along steps (stepped step now)

abbrev pub call_at : Step → List Coming
call_at (Step.Calls coming) = coming ∷ []
call_at (Step.GoesOn one) = []
call_at (Step.Waits one) = []
call_at (Step.Leaves gone noted) = []

abbrev pub went_on_at : Step → List Change
went_on_at (Step.Calls coming) = []
went_on_at (Step.GoesOn one) = one ∷ []
went_on_at (Step.Waits one) = []
went_on_at (Step.Leaves gone noted) = []

abbrev pub left_at : Step → List Change
left_at (Step.Calls coming) = []
left_at (Step.GoesOn one) = []
left_at (Step.Waits one) = []
left_at (Step.Leaves gone noted) = gone

abbrev pub calls_in : List Step → List Coming
calls_in steps = flat_map call_at steps

-- others give up
abbrev pub gives_up : Coming → Bool
gives_up (Coming.GivesUp own file extent) = true
gives_up (Coming.Joins client) = false
gives_up (Coming.Asks client tag request) = false
gives_up (Coming.Acknowledges client given) = false
gives_up (Coming.IsCut client) = false
gives_up (Coming.Expires key) = false
gives_up (Coming.Scavenges file_id) = false
gives_up (Coming.Withdraws file client tag) = false
gives_up (Coming.Leaves client file_ids tags) = false

-- ---- the law

-- A run where changes wait is one of the manager.
--   same: these steps come to what it comes to, and tell what it tells, in that order
--   manager: to the manager it is their calls
--   own: these are the calls that came, with others among them by which keys give up
--   tags: each request comes under a free tag in them, where it does so in the run
--   each_once: whatever is counted, each change that waited or was asked for goes on, leaves, or waits at the end, and once
--   left: those that leave pass the test of a call
pub record IsOfManager (callings : List Calling) (before : Going) : Type 0 where
  pub steps : List Step
  pub same : handling_in (going_along callings before) ≡ stepped_along steps (handling_in before)
  pub manager : (going_along callings before).manager ≡ (managed_along (calls_in steps) (handling_in before)).manager
  pub own : without gives_up (calls_in steps) ≡ without gives_up (map own_call callings)
  pub tags : AskFreely callings before → HaveFreeTags before.manager (calls_in steps)
  pub each_once : (test : Change → Bool)
      → length (filter test before.waiting) + length (filter test (flat_map asked_at callings))
      ≡ length (filter test (flat_map went_on_at steps)) + length (filter test (flat_map left_at steps))
      + length (filter test (going_along callings before).waiting)
  pub left : (one : Change) → Among one (flat_map left_at steps) → list_any (is_left_at one) callings ≡ true

abbrev pub RunsAreOfManagers : Type 0
RunsAreOfManagers = (callings : List Calling) (before : Going) → IsOfManager callings before
