-- Changes that wait are tried again after a call of the manager.
use Rattle.lease_laws.proofs.Words.{◌++◌, ◌==◌, ◌∙◌, ◌∷◌, ◌≡◌, Decides-eqb, List, [], ap, ap₂, append-nil, arith, false, length}
use Rattle.lease_laws.proofs.Words.{list_any, map, nat_tests}
use Rattle.lease_laws.proofs.Words.{Bool, Err, None, Ok, Open, Option, Result, Some, option_map, refl, subst, sym, true}
use Rattle.lease_laws.proofs.Words.{without, ℕ}
use Rattle.std.specs.Prelude.{OnOk, unwrap_or}
use Rattle.lease_laws.proofs.server.Lists.{either}
use Rattle.break_timers.specs.Timers.{Timers, timers_of}
use Rattle.lease_manager.specs.Outs.{IsAfter, decisions}
use Rattle.lease_manager.specs.Queues.{file_numbers}
use Rattle.lease_manager.specs.Table.{Table, manager_of}
use Rattle.lease_manager.specs.declared.values.decision.Decision as code
use Rattle.lease_manager.specs.declared.values.number.FileNo.{FileNo}
use Rattle.machines_c.specs.manager.About.{file_of, listed}
use Rattle.break_timers.specs.Numbering.{noted_all, numbers_told}
use Rattle.manager_model.specs.Decisions.{Decision}
use Rattle.manager_model.specs.Handling.{Handling, Manager}
use Rattle.machines_c.specs.declared.manager.managing.Managing.{Managing}
use Rattle.machines_c.specs.manager.Calls.{HandledWith, IsTriedAfter, with_withdrawn}
use Rattle.machines_c.specs.manager.Fields.{number_field}
use Rattle.machines_c.specs.manager.Listed.{IsUnlisted}
use Rattle.waiting_changes.specs.Changes.{Going, asked_for_all, asks_as, closes_another, going_of, going_with, tried_after}
use Rattle.waiting_changes.specs.Changes.{tried_on, tried_on_all}
use Rattle.waiting_changes.specs.declared.change.Change.{Change}

-- ---- where no change waits nothing is tried

abbrev of_none : Manager → List Decision → Going
of_none manager told = record { manager = manager; waiting = []; told = told }

one_try : (file : ℕ) (manager : Manager) (told : List Decision) → tried_on file (of_none manager told) ≡ of_none manager told
unfolding asked_for_all
one_try file manager told = ap (of_none manager) (append-nil told)

no_tries : (files : List ℕ) (manager : Manager) (told : List Decision)
    → tried_on_all files (of_none manager told) ≡ of_none manager told
unfolding tried_on_all
no_tries [] manager told = refl
no_tries (file ∷ files) manager told = ap (tried_on_all files) (one_try file manager told) ∙ no_tries files manager told

no_changes : (waiting : List Change) → (length waiting == 0) ≡ true → waiting ≡ []
no_changes [] none = refl
no_changes (one ∷ waiting) none = let e = (Decides-eqb (length (one ∷ waiting)) 0).0 none in absurd (omega (arith, e))

untried_of : (own : Option (ℕ × ℕ)) (files : List ℕ) (manager : Manager) (told : List Decision)
    → tried_after own files (of_none manager told) ≡ of_none manager told
untried_of own files manager told = either (list_any (closes_another own) told)
    (λ closed. rw closed (no_tries [] manager told))
    (λ none. rw none (no_tries files manager told))

pub untried : (own : Option (ℕ × ℕ)) (files : List ℕ) (waiting : List Change) (now : Handling) → (length waiting == 0) ≡ true
    → tried_after own files (going_with waiting now) ≡ going_with waiting now
untried own files waiting now none = subst (λ w. tried_after own files (going_with w now) ≡ going_with w now)
    (sym (no_changes waiting none)) (untried_of own files now.manager now.told)

-- nor where nothing was decided, about no file
pub idly_tried : (own : Option (ℕ × ℕ)) (files : List ℕ) (going : Going) → files ≡ [] → going.told ≡ []
    → tried_after own files going ≡ going
unfolding tried_on_all
idly_tried own files going none silent = rw (none, silent) refl

-- where changes wait, the files are those that the call is about
pub same_tries : (own : Option (ℕ × ℕ)) (files about : List ℕ) (waiting : List Change) (now : Handling)
    → ((length waiting == 0) ≡ false → files ≡ about)
    → tried_after own files (going_with waiting now) ≡ tried_after own about (going_with waiting now)
same_tries own files about waiting now same = either (length waiting == 0)
    (λ none. untried own files waiting now none ∙ sym (untried own about waiting now none))
    (λ some. ap (λ fs. tried_after own fs (going_with waiting now)) (same some))

-- ---- a call, and the tries after it

pub after_of : (waiting : List Change) (table : Table) (given : List code.Decision) (now : Handling) → IsAfter table given now
    → going_of waiting table given ≡ going_with waiting now
after_of waiting table given now is =
    ap₂ (λ m t. record { manager = m; waiting = waiting; told = t }) is.manager is.told

-- what was tried after this is what the call comes to
pub handled_from : (before : Timers) (own : Option (ℕ × ℕ)) (files : List ℕ) (start after : Going) (mid new : Managing)
    → IsTriedAfter own files mid new → going_of mid.changes mid.manager mid.decisions.items ≡ start
    → tried_after own files start ≡ after → timers_of mid.timers ≡ before → IsUnlisted mid.listed → HandledWith before after new
handled_from before own files start after mid new tried starts is timers unlisted = record {
  going = tried.going ∙ (ap (tried_after own files) starts ∙ is);
  timers = subst (λ t. timers_of new.timers ≡ noted_all (decisions new.decisions.items) t) timers tried.timers;
  numbers = subst (λ t. new.numbers.items ≡ map number_field (numbers_told (decisions new.decisions.items) t)) timers
      tried.numbers;
  unlisted = subst IsUnlisted (sym tried.listed) unlisted;
}

pub handled : (before : Timers) (own : Option (ℕ × ℕ)) (files about : List ℕ) (waiting : List Change) (now : Handling)
    (mid new : Managing) → IsTriedAfter own files mid new → IsAfter mid.manager mid.decisions.items now → mid.changes ≡ waiting
    → timers_of mid.timers ≡ before → IsUnlisted mid.listed → ((length waiting == 0) ≡ false → files ≡ about)
    → HandledWith before (tried_after own about (going_with waiting now)) new
handled before own files about waiting now mid new tried decided kept timers unlisted same =
    handled_from before own files (going_with waiting now) (tried_after own about (going_with waiting now)) mid new tried
    (ap (λ w. going_of w mid.manager mid.decisions.items) kept ∙ after_of waiting mid.manager mid.decisions.items now decided)
    (same_tries own files about waiting now same) timers unlisted

-- ---- the file of a lease

pub listed_is : (found : Option FileNo) (one : Option Open)
    → option_map (λ file. file.0) found ≡ option_map (λ one. one.file) one → listed found ≡ file_of one
listed_is None None same = refl
listed_is None (Some one) same = absurd (cc same)
listed_is (Some file) None same = absurd (cc same)
listed_is (Some file) (Some one) same = ap (λ n. n ∷ []) (ap (λ o. unwrap_or o 0) same)

-- ---- what was called and tried, and what is noted of it

on_ok_three : {T E P Q R S : Type 0} (r : Result T E) → (P → Q → R → S) → OnOk r P → OnOk r Q → OnOk r R → OnOk r S
on_ok_three (Ok x) f p q r = f p q r
on_ok_three (Err e) f p q r = tt

abbrev IsSame : Managing → Managing → Type 0
IsSame mid new = (new.manager ≡ mid.manager) × (new.changes ≡ mid.changes) × (new.decisions ≡ mid.decisions)
    × (new.listed ≡ mid.listed)

abbrev AreTimers : Managing → Managing → Type 0
AreTimers mid new = timers_of new.timers ≡ noted_all (decisions mid.decisions.items) (timers_of mid.timers)

abbrev AreNumbers : Managing → Managing → Type 0
AreNumbers mid new =
    new.numbers.items ≡ map number_field (numbers_told (decisions mid.decisions.items) (timers_of mid.timers))

-- as it stands before that is noted
pub record IsSoFar (before : Timers) (after : Going) (mid : Managing) : Type 0 where
  pub going : going_of mid.changes mid.manager mid.decisions.items ≡ after
  pub timers : timers_of mid.timers ≡ before

pub tried_now : {T E : Type 0} (r : Result T E) (own : Option (ℕ × ℕ)) (files : List ℕ) (old mid new : Managing)
    → IsSoFar (timers_of old.timers) (tried_after own files (going_of old.changes old.manager old.decisions.items)) mid
    → mid.listed ≡ old.listed → OnOk r (AreTimers mid new) → OnOk r (AreNumbers mid new) → OnOk r (IsSame mid new)
    → OnOk r (IsTriedAfter own files old new)
tried_now r own files old mid new so_far listed = on_ok_three r (λ timers numbers same. record {
  going = rw (same.0, same.1, same.2) so_far.going;
  timers = rw (same.2, ← so_far.timers) timers;
  numbers = rw (same.2, ← so_far.timers) numbers;
  listed = same.3 ∙ listed;
})

pub handled_now : {T E : Type 0} (r : Result T E) (before : Timers) (after : Going) (mid new : Managing)
    → IsSoFar before after mid → IsUnlisted mid.listed → OnOk r (AreTimers mid new) → OnOk r (AreNumbers mid new)
    → OnOk r (IsSame mid new) → OnOk r (HandledWith before after new)
handled_now r before after mid new so_far unlisted = on_ok_three r (λ timers numbers same. record {
  going = rw (same.0, same.1, same.2) so_far.going;
  timers = rw (same.2, ← so_far.timers) timers;
  numbers = rw (same.2, ← so_far.timers) numbers;
  unlisted = subst IsUnlisted (sym same.3) unlisted;
})

-- where nothing has to be tried
pub skipped : (own : Option (ℕ × ℕ)) (files : List FileNo) (old : Managing)
    → ((length old.changes == 0) ≡ false → (files ≡ []) × (decisions old.decisions.items ≡ []))
    → going_of old.changes old.manager old.decisions.items
    ≡ tried_after own (file_numbers files) (going_of old.changes old.manager old.decisions.items)
skipped own files old idle = either (length old.changes == 0)
    (λ none. sym (untried own (file_numbers files) old.changes
    (record { manager = manager_of old.manager; told = decisions old.decisions.items }) none))
    (λ some. sym (idly_tried own (file_numbers files) (going_of old.changes old.manager old.decisions.items)
    (ap file_numbers (idle some).0) (idle some).1))

-- ---- changes that are taken back

pub some_of : (test : Change → Bool) (waiting : List Change) → (length (without test waiting) == 0) ≡ false
    → (length waiting == 0) ≡ false
some_of test [] some = some
some_of test (one ∷ waiting) some = grind (arith, nat_tests)

without_none : (test : Change → Bool) (waiting : List Change) → list_any test waiting ≡ false → without test waiting ≡ waiting
without_none test [] none = refl
without_none test (one ∷ waiting) none = either (test one)
    (λ t. absurd (cc (rw t at none)))
    (λ t. rw t (ap (λ l. one ∷ l) (without_none test waiting (rw t at none))))

pub change_withdrawn : (file client tag : ℕ) (waiting left : List Change) (table : Table) (had given : List code.Decision)
    (now : Handling) → IsAfter table had now → list_any (asks_as file client tag) waiting ≡ true
    → left ≡ without (asks_as file client tag) waiting → decisions given ≡ decisions had ++ Decision.Withdrawn client tag ∷ []
    → going_of left table given ≡ with_withdrawn file client tag waiting now
change_withdrawn file client tag waiting left table had given now is some less more = rw (
  is.manager,
  less,
  more,
  is.told,
  some,
) refl

pub no_change_withdrawn : (file client tag : ℕ) (waiting : List Change) (table : Table) (had : List code.Decision)
    (now : Handling) → IsAfter table had now → list_any (asks_as file client tag) waiting ≡ false
    → going_of waiting table had ≡ with_withdrawn file client tag waiting now
no_change_withdrawn file client tag waiting table had now is none =
    rw (is.manager, is.told, none, without_none (asks_as file client tag) waiting none) (rw (append-nil now.told) refl)
