-- What calls of a manager in a handle come to, by the rules of managers.
use Rattle.std.specs.Prelude.{◌≡◌, ◌++◌, ℕ, Bool, true, false, List, [], ◌∷◌, map, Option, Some, None, if◌then◌else◌}
use Rattle.std.specs.List.{list_any}
use Rattle.break_timers.specs.Numbering.{noted_all, numbers_told}
use Rattle.break_timers.specs.Timers.{Timers, run_out, stopped, timers_of}
use Rattle.lease_manager.specs.Outs.{decisions}
use Rattle.lease_manager.specs.Table.{manager_of}
use Rattle.lease_manager.specs.declared.values.decision.Decision.{Decision}
use Rattle.lease_model.specs.messages.Requests.{FileRequest}
use Rattle.lease_model.specs.values.Keys.{Key}
use Rattle.lease_model.specs.values.Lists.{without}
use Rattle.manager_model.specs.Decisions as told
use Rattle.manager_model.specs.Handling as rules
use Rattle.manager_model.specs.Handling.{Handling, Manager}
use Rattle.machines_c.specs.manager.About.{at, at_client, at_key, closed_by, expired_at, if_breaking, if_present, if_waiting}
use Rattle.machines_c.specs.manager.Asked.{is_answered, is_over}
use Rattle.machines_c.specs.manager.Fields.{number_field}
use Rattle.machines_c.specs.manager.Listed.{IsUnlisted}
use Rattle.machines_c.specs.declared.manager.managing.Managing.{Managing}
use Rattle.waiting_changes.specs.Changes.{Going, asks_as, changed, going_of, going_with, is_asked_by, is_left_of, tried_after}
use Rattle.waiting_changes.specs.declared.change.Change.{Change}

-- what the last call decided: nothing, where no manager is held
abbrev pub decided : Option Managing → List Decision
decided None = []
decided (Some one) = one.decisions.items

-- the numbers of the timers that its decisions start, 0 for none
abbrev pub numbered : Option Managing → List ℕ
numbered None = []
numbered (Some one) = one.numbers.items

-- The manager did what the rules say, changes that wait were tried again, and what is decided of both stands there. Of these
-- timers those have gone that the decisions stop, and those have come that they start. Nothing is listed any longer.
pub record HandledWith (before : Timers) (after : Going) (new : Managing) : Type 0 where
  pub going : going_of new.changes new.manager new.decisions.items ≡ after
  pub timers : timers_of new.timers ≡ noted_all (decisions new.decisions.items) before
  pub numbers : new.numbers.items ≡ map number_field (numbers_told (decisions new.decisions.items) before)
  pub unlisted : IsUnlisted new.listed

-- What waits was tried again after what stands there, which was about these files, and timers are noted of all of it.
pub record IsTriedAfter (own : Option (ℕ × ℕ)) (files : List ℕ) (old new : Managing) : Type 0 where
  pub going : going_of new.changes new.manager new.decisions.items
      ≡ tried_after own files (going_of old.changes old.manager old.decisions.items)
  pub timers : timers_of new.timers ≡ noted_all (decisions new.decisions.items) (timers_of old.timers)
  pub numbers : new.numbers.items ≡ map number_field (numbers_told (decisions new.decisions.items) (timers_of old.timers))
  pub listed : new.listed ≡ old.listed

-- a call by this rule, about these files, after which what waits is tried again
abbrev pub and_tried : (Manager → List ℕ) → (Manager → Handling) → List Change → Manager → Going
and_tried files rule waiting manager = tried_after None (files manager) (going_with waiting (rule manager))

abbrev pub Handled : (Manager → List ℕ) → (Manager → Handling) → Managing → Managing → Type 0
Handled files rule old new = HandledWith (timers_of old.timers) (and_tried files rule old.changes (manager_of old.manager)) new

-- A client's request under a tag.
abbrev pub Asked : ℕ → ℕ → FileRequest → Managing → Managing → Type 0
Asked client tag request old new = HandledWith (timers_of old.timers)
    (tried_after (Some (client, tag)) (closed_by client request (manager_of old.manager))
    (going_with old.changes (rules.receive (manager_of old.manager) client tag request))) new

-- The client's connection is gone, and nothing that it asked for waits.
abbrev pub Cut : ℕ → Managing → Managing → Type 0
Cut client old new = HandledWith (timers_of old.timers) (and_tried (if_present client (at_client client))
    (λ one. rules.cut one client) (without (is_asked_by client) old.changes) (manager_of old.manager)) new

-- The client left these opens, and what it asked for under these tags.
abbrev pub Left : ℕ → List ℕ → List ℕ → Managing → Managing → Type 0
Left client file_ids tags old new = HandledWith (timers_of old.timers) (and_tried (if_present client (at_client client))
    (λ one. rules.leave one client file_ids tags) (without (is_left_of client tags) old.changes) (manager_of old.manager)) new

-- What waits on the file of the client under the tag is taken back: a request, or a change.
abbrev pub with_withdrawn : ℕ → ℕ → ℕ → List Change → Handling → Going
with_withdrawn file client tag waiting now = record {
  manager = now.manager;
  waiting = without (asks_as file client tag) waiting;
  told = now.told
      ++ (if list_any (asks_as file client tag) waiting then told.Decision.Withdrawn client tag ∷ [] else []);
}

abbrev pub Withdrawn : ℕ → ℕ → ℕ → Managing → Managing → Type 0
Withdrawn file client tag old new = HandledWith (timers_of old.timers)
    (tried_after None (if_waiting file client tag (at file) (manager_of old.manager))
    (with_withdrawn file client tag old.changes (rules.withdraw (manager_of old.manager) file client tag))) new

-- A change was asked for.
abbrev pub ChangeAsked : Change → Managing → Managing → Type 0
ChangeAsked one old new =
    HandledWith (timers_of old.timers) (changed (manager_of old.manager) old.changes one) new

-- No timer runs for the break of the key that ends.
abbrev pub Expired : Key → Managing → Managing → Type 0
Expired key old new = HandledWith (stopped key (timers_of old.timers)) (and_tried (if_breaking key (at_key key))
    (λ one. rules.expire one key) old.changes (manager_of old.manager)) new

-- The same, where no timer of it is there.
abbrev pub Ended : Key → Managing → Managing → Type 0
Ended key old new = HandledWith (timers_of old.timers) (and_tried (if_breaking key (at_key key))
    (λ one. rules.expire one key) old.changes (manager_of old.manager)) new

-- the timer of a break of this lease has run out, if it still ran
abbrev pub expired_if : Option Key → Manager → Handling
expired_if None manager = rules.handling manager
expired_if (Some key) manager = rules.expire manager key

-- The timer of this number has run out.
abbrev pub RunOut : ℕ → Managing → Managing → Type 0
RunOut number old new = HandledWith (run_out number (timers_of old.timers))
    (and_tried (expired_at ((timers_of old.timers).running number))
    (expired_if ((timers_of old.timers).running number)) old.changes (manager_of old.manager)) new

-- Where a call does nothing, the manager is never lost.
abbrev pub MayBeLostUnless : (Manager → Bool) → Managing → Type 0
MayBeLostUnless is_idle old = is_idle (manager_of old.manager) ≡ true → ⊥

abbrev pub MayBeLostUnlessOver : ℕ → Managing → Type 0
MayBeLostUnlessOver number old = is_over number (timers_of old.timers) (manager_of old.manager) ≡ true → ⊥

-- neither a request waits on the file under the tag, nor a change
abbrev pub MayBeLostUnlessAnswered : ℕ → ℕ → ℕ → Managing → Type 0
MayBeLostUnlessAnswered client tag file old =
    is_answered client tag file (manager_of old.manager) ≡ true → list_any (asks_as file client tag) old.changes ≡ false → ⊥
