-- Runs where changes wait are runs of the manager, step by step.
use Rattle.lease_laws.proofs.Words.{◌+◌, ◌++◌, ◌∙◌, ◌∷◌, ◌≡◌, Among, Bool, List, Option, [], ap}
use Rattle.lease_laws.proofs.Words.{append-nil, append_assoc, arith}
use Rattle.lease_laws.proofs.Words.{filter, filter-append, flat_map, flat_map-append, if◌then◌else◌, length}
use Rattle.lease_laws.proofs.Words.{length-append, list_any, map}
use Rattle.lease_laws.proofs.Words.{None, ap₂, not, refl, subst, sym, true, true≢false, without, ℕ, ⊎_elim}
use Rattle.lease_laws.proofs.server.Lists.{or_of_true}
use Rattle.std.specs.Prelude.{⊤}
use Rattle.lease_laws.proofs.server.Lists.{among_append, among_filter, either}
use Rattle.lease_manager.specs.GivingUp.{extent_of}
use Rattle.manager_model.specs.Decisions.{Decision}
use Rattle.manager_model.specs.Handling.{Handling, Manager, give_up}
use Rattle.manager_model.specs.Hosting.{Coming, HasFreeTag, HaveFreeTags, managed}
use Rattle.waiting_changes.proofs.Lawful.{counted}
use Rattle.waiting_changes.specs.Changes.{Going, asked_for, asked_for_all, changed, closes_another, concluded, goes, goes_on}
use Rattle.waiting_changes.specs.Changes.{going_with, handling_in, is_free, is_on, own_of, tried_after, tried_on, tried_on_all}
use Rattle.waiting_changes.specs.Laws.{call_for, managed_along}
use Rattle.waiting_changes.specs.Runs.{AskFreely, Calling, RunsAreOfManagers, Step, asked_at, call_at, calls_in, come_to}
use Rattle.waiting_changes.specs.Runs.{gives_up, going_along, going_on, is_left_at, left_at, own_call, stepped, stepped_along}
use Rattle.waiting_changes.specs.Runs.{went_on_at}
use Rattle.waiting_changes.specs.declared.change.Change.{Change}

-- ---- steps

stepped_append : (xs ys : List Step) (now : Handling) → stepped_along (xs ++ ys) now ≡ stepped_along ys (stepped_along xs now)
unfolding stepped_along
stepped_append [] ys now = refl
stepped_append (x ∷ xs) ys now = stepped_append xs ys (stepped x now)

-- what was told before
abbrev after : List Decision → Handling → Handling
after told now = record { manager = now.manager; told = told ++ now.told }

one_after : (told : List Decision) (step : Step) (now : Handling) → stepped step (after told now)
    ≡ after told (stepped step now)
one_after told (Step.Calls coming) now = ap (λ t. record { manager = (managed now.manager coming).manager; told = t })
    (append_assoc told now.told (managed now.manager coming).told)
one_after told (Step.GoesOn one) now =
    ap (λ t. record { manager = now.manager; told = t }) (append_assoc told now.told (goes_on one ∷ []))
one_after told (Step.Waits one) now = ap (λ t. record { manager = now.manager; told = t })
    (append_assoc told now.told (Decision.Waits one.client.0 one.tag.0 ∷ []))
one_after told (Step.Leaves gone noted) now =
    ap (λ t. record { manager = now.manager; told = t }) (append_assoc told now.told noted)

all_after : (told : List Decision) (steps : List Step) (now : Handling)
    → stepped_along steps (after told now) ≡ after told (stepped_along steps now)
unfolding stepped_along
all_after told [] now = refl
all_after told (x ∷ xs) now = ap (stepped_along xs) (one_after told x now) ∙ all_after told xs (stepped x now)

calls_alone : (steps : List Step) (now other : Handling) → now.manager ≡ other.manager
    → (stepped_along steps now).manager ≡ (managed_along (calls_in steps) other).manager
unfolding stepped_along managed_along
calls_alone [] now other same = same
calls_alone (Step.Calls coming ∷ steps) now other same =
    calls_alone steps (stepped (Step.Calls coming) now) (stepped (Step.Calls coming) other) (ap (λ m.
    (managed m coming).manager) same)
calls_alone (Step.GoesOn one ∷ steps) now other same = calls_alone steps (stepped (Step.GoesOn one) now) other same
calls_alone (Step.Waits one ∷ steps) now other same = calls_alone steps (stepped (Step.Waits one) now) other same
calls_alone (Step.Leaves gone noted ∷ steps) now other same =
    calls_alone steps (stepped (Step.Leaves gone noted) now) other same

free_append : (xs ys : List Step) (now : Handling) → HaveFreeTags now.manager (calls_in xs)
    → HaveFreeTags (stepped_along xs now).manager (calls_in ys) → HaveFreeTags now.manager (calls_in (xs ++ ys))
unfolding stepped_along
free_append [] ys now first later = later
free_append (Step.Calls coming ∷ xs) ys now first later =
    (first.0, free_append xs ys (stepped (Step.Calls coming) now) first.1 later)
free_append (Step.GoesOn one ∷ xs) ys now first later = free_append xs ys (stepped (Step.GoesOn one) now) first later
free_append (Step.Waits one ∷ xs) ys now first later = free_append xs ys (stepped (Step.Waits one) now) first later
free_append (Step.Leaves gone noted ∷ xs) ys now first later =
    free_append xs ys (stepped (Step.Leaves gone noted) now) first later

-- ---- tries

abbrev asking : List Change → List Step
asking changes = map (λ one. Step.Calls (call_for one)) changes

abbrev freeing : List Change → List Step
freeing changes = map (λ one. Step.GoesOn one) changes

asked : (changes : List Change) (now : Handling) → asked_for_all changes now ≡ stepped_along (asking changes) now
unfolding asked_for_all stepped_along
asked [] now = refl
asked (one ∷ changes) now = asked changes (asked_for one now)

freed : (changes : List Change) (now : Handling)
    → stepped_along (freeing changes) now ≡ record { manager = now.manager; told = now.told ++ map goes_on changes }
unfolding stepped_along
freed [] now = ap (λ t. record { manager = now.manager; told = t }) (sym (append-nil now.told))
freed (one ∷ changes) now = freed changes (stepped (Step.GoesOn one) now)
    ∙ ap (λ t. record { manager = now.manager; told = t }) (append_assoc now.told (goes_on one ∷ []) (map goes_on changes))

abbrev asked_on : ℕ → Going → List Change
asked_on file going = filter (is_on file) going.waiting

abbrev after_asking : ℕ → Going → Handling
after_asking file going = asked_for_all (asked_on file going) (handling_in going)

abbrev freed_at : ℕ → Going → List Change
freed_at file going = filter (goes file (after_asking file going).manager.server) going.waiting

abbrev try_steps : ℕ → Going → List Step
try_steps file going = asking (asked_on file going) ++ freeing (freed_at file going)

abbrev all_tries : List ℕ → Going → List Step
all_tries [] going = []
all_tries (file ∷ files) going = try_steps file going ++ all_tries files (tried_on file going)

same_try : (file : ℕ) (going : Going) → handling_in (tried_on file going)
    ≡ stepped_along (try_steps file going) (handling_in going)
same_try file going = sym (
    stepped_append (asking (asked_on file going)) (freeing (freed_at file going)) (handling_in going)
    ∙ ap (stepped_along (freeing (freed_at file going))) (sym (asked (asked_on file going) (handling_in going)))
    ∙ freed (freed_at file going) (after_asking file going))

same_tries : (files : List ℕ) (going : Going)
    → handling_in (tried_on_all files going) ≡ stepped_along (all_tries files going) (handling_in going)
unfolding tried_on_all stepped_along
same_tries [] going = refl
same_tries (file ∷ files) going = same_tries files (tried_on file going)
    ∙ ap (stepped_along (all_tries files (tried_on file going))) (same_try file going)
    ∙ sym (stepped_append (try_steps file going) (all_tries files (tried_on file going)) (handling_in going))

-- each of these is a call by which others give up
abbrev AreGivingUp : List Coming → Type 0
AreGivingUp [] = ⊤
AreGivingUp (coming ∷ comings) = (gives_up coming ≡ true) × AreGivingUp comings

giving_append : (xs ys : List Coming) → AreGivingUp xs → AreGivingUp ys → AreGivingUp (xs ++ ys)
giving_append [] ys first later = later
giving_append (x ∷ xs) ys first later = (first.0, giving_append xs ys first.1 later)

asking_gives : (changes : List Change) → AreGivingUp (calls_in (asking changes))
asking_gives [] = tt
asking_gives (one ∷ changes) = (refl, asking_gives changes)

freeing_calls : (changes : List Change) → calls_in (freeing changes) ≡ []
freeing_calls [] = refl
freeing_calls (one ∷ changes) = freeing_calls changes

try_gives : (file : ℕ) (going : Going) → AreGivingUp (calls_in (try_steps file going))
try_gives file going = subst AreGivingUp
    (sym (flat_map-append call_at (asking (asked_on file going)) (freeing (freed_at file going))))
    (giving_append (calls_in (asking (asked_on file going))) (calls_in (freeing (freed_at file going)))
    (asking_gives (asked_on file going)) (subst AreGivingUp (sym (freeing_calls (freed_at file going))) tt))

tries_give : (files : List ℕ) (going : Going) → AreGivingUp (calls_in (all_tries files going))
tries_give [] going = tt
tries_give (file ∷ files) going = subst AreGivingUp
    (sym (flat_map-append call_at (try_steps file going) (all_tries files (tried_on file going))))
    (giving_append (calls_in (try_steps file going)) (calls_in (all_tries files (tried_on file going)))
    (try_gives file going) (tries_give files (tried_on file going)))

none_else : (comings : List Coming) → AreGivingUp comings → without gives_up comings ≡ []
none_else [] are = refl
none_else (coming ∷ comings) are = rw are.0 (none_else comings are.1)

freely : (coming : Coming) (manager : Manager) → gives_up coming ≡ true → HasFreeTag manager coming
freely (Coming.GivesUp own file extent) manager is = tt
freely (Coming.Joins client) manager is = tt
freely (Coming.Asks client tag request) manager is = absurd (true≢false (sym is))
freely (Coming.Acknowledges client given) manager is = tt
freely (Coming.IsCut client) manager is = tt
freely (Coming.Expires key) manager is = tt
freely (Coming.Scavenges file_id) manager is = tt
freely (Coming.Withdraws file client tag) manager is = tt
freely (Coming.Leaves client file_ids tags) manager is = tt

all_freely : (comings : List Coming) (manager : Manager) → AreGivingUp comings → HaveFreeTags manager comings
all_freely [] manager are = tt
all_freely (coming ∷ comings) manager are =
    (freely coming manager are.0, all_freely comings (managed manager coming).manager are.1)

-- ---- counts

abbrev count : (Change → Bool) → List Change → ℕ
count test changes = length (filter test changes)

count_append : (test : Change → Bool) (xs ys : List Change) → count test (xs ++ ys) ≡ count test xs + count test ys
count_append test xs ys = ap length (filter-append test xs ys) ∙ length-append (filter test xs) (filter test ys)

asking_goes : (changes : List Change) → flat_map went_on_at (asking changes) ≡ []
asking_goes [] = refl
asking_goes (one ∷ changes) = asking_goes changes

asking_leaves : (changes : List Change) → flat_map left_at (asking changes) ≡ []
asking_leaves [] = refl
asking_leaves (one ∷ changes) = asking_leaves changes

freeing_goes : (changes : List Change) → flat_map went_on_at (freeing changes) ≡ changes
freeing_goes [] = refl
freeing_goes (one ∷ changes) = ap (λ cs. one ∷ cs) (freeing_goes changes)

freeing_leaves : (changes : List Change) → flat_map left_at (freeing changes) ≡ []
freeing_leaves [] = refl
freeing_leaves (one ∷ changes) = freeing_leaves changes

try_goes : (file : ℕ) (going : Going) → flat_map went_on_at (try_steps file going) ≡ freed_at file going
try_goes file going = flat_map-append went_on_at (asking (asked_on file going)) (freeing (freed_at file going))
    ∙ ap₂ (λ xs ys. xs ++ ys) (asking_goes (asked_on file going)) (freeing_goes (freed_at file going))

try_leaves : (file : ℕ) (going : Going) → flat_map left_at (try_steps file going) ≡ []
try_leaves file going = flat_map-append left_at (asking (asked_on file going)) (freeing (freed_at file going))
    ∙ ap₂ (λ xs ys. xs ++ ys) (asking_leaves (asked_on file going)) (freeing_leaves (freed_at file going))

tries_leave : (files : List ℕ) (going : Going) → flat_map left_at (all_tries files going) ≡ []
tries_leave [] going = refl
tries_leave (file ∷ files) going = flat_map-append left_at (try_steps file going) (all_tries files (tried_on file going))
    ∙ ap₂ (λ xs ys. xs ++ ys) (try_leaves file going) (tries_leave files (tried_on file going))

tries_once : (files : List ℕ) (going : Going) (test : Change → Bool) → count test going.waiting
    ≡ count test (flat_map went_on_at (all_tries files going)) + count test (tried_on_all files going).waiting
unfolding tried_on_all
tries_once [] going test = omega arith
tries_once (file ∷ files) going test =
    let now = counted (goes file (after_asking file going).manager.server) test going.waiting in
    let later = tries_once files (tried_on file going) test in
    let both = ap (count test) (flat_map-append went_on_at (try_steps file going) (all_tries files (tried_on file going)))
    ∙ count_append test (flat_map went_on_at (try_steps file going)) (flat_map went_on_at
    (all_tries files (tried_on file going))) in
    let went = ap (count test) (try_goes file going) in
    omega (arith, now, later, both, went)

-- ---- calls

abbrev files_of : Option (ℕ × ℕ) → List ℕ → Going → List ℕ
files_of own about going = if list_any (closes_another own) going.told then map (λ one. one.file.0) going.waiting else about

abbrev after_call : Manager → List Change → Coming → (Change → Bool) → List Decision → Going
after_call manager waiting coming leaves noted = record {
  manager = (managed manager coming).manager;
  waiting = without leaves waiting;
  told = (managed manager coming).told ++ noted;
}

abbrev after_giving : Manager → List Change → Change → Going
after_giving manager waiting one =
    going_with waiting (give_up manager (own_of one) one.file.0 (extent_of one.extent))

abbrev last_step : Change → Going → Step
last_step one going = if is_free going.manager.server one then Step.GoesOn one else Step.Waits one

abbrev later_steps : Manager → List Change → Calling → List Step
later_steps manager waiting (Calling.Comes coming own about leaves noted) = Step.Leaves (filter leaves waiting) noted
    ∷ all_tries (files_of own about (after_call manager waiting coming leaves noted))
    (after_call manager waiting coming leaves noted)
later_steps manager waiting (Calling.Changes one) =
    all_tries (files_of None [] (after_giving manager waiting one)) (after_giving manager waiting one)
    ++ last_step one (tried_after None [] (after_giving manager waiting one)) ∷ []

abbrev call_steps : Manager → List Change → Calling → List Step
call_steps manager waiting calling = Step.Calls (own_call calling) ∷ later_steps manager waiting calling

same_last : (one : Change) (going : Going) → handling_in (concluded one going)
    ≡ stepped (last_step one going) (handling_in going)
same_last one going = either (is_free going.manager.server one) (λ free. rw free refl) (λ free. rw free refl)

same_call : (manager : Manager) (waiting : List Change) (calling : Calling) → handling_in (come_to manager waiting calling)
    ≡ stepped_along (call_steps manager waiting calling) (record { manager = manager; told = [] })
unfolding changed stepped_along
same_call manager waiting (Calling.Comes coming own about leaves noted) =
    let start = after_call manager waiting coming leaves noted in same_tries (files_of own about start) start
same_call manager waiting (Calling.Changes one) =
    let start = after_giving manager waiting one in
    let tries = all_tries (files_of None [] start) start in
    let last = last_step one (tried_after None [] start) in
    same_last one (tried_after None [] start)
    ∙ ap (stepped last) (same_tries (files_of None [] start) start)
    ∙ sym (stepped_append tries (last ∷ []) (handling_in start))

last_calls : (one : Change) (going : Going) → calls_in (last_step one going ∷ []) ≡ []
last_calls one going = either (is_free going.manager.server one) (λ free. rw free refl) (λ free. rw free refl)

last_leaves : (one : Change) (going : Going) → flat_map left_at (last_step one going ∷ []) ≡ []
last_leaves one going = either (is_free going.manager.server one) (λ free. rw free refl) (λ free. rw free refl)

later_give : (manager : Manager) (waiting : List Change) (calling : Calling)
    → AreGivingUp (calls_in (later_steps manager waiting calling))
later_give manager waiting (Calling.Comes coming own about leaves noted) =
    let start = after_call manager waiting coming leaves noted in tries_give (files_of own about start) start
later_give manager waiting (Calling.Changes one) =
    let start = after_giving manager waiting one in
    let tries = all_tries (files_of None [] start) start in
    let last = last_step one (tried_after None [] start) in
    subst AreGivingUp (sym (flat_map-append call_at tries (last ∷ [])))
    (giving_append (calls_in tries) (calls_in (last ∷ [])) (tries_give (files_of None [] start) start)
    (subst AreGivingUp (sym (last_calls one (tried_after None [] start))) tt))

first_alone : (coming : Coming) (comings : List Coming) → AreGivingUp comings
    → without gives_up (coming ∷ comings) ≡ without gives_up (coming ∷ [])
first_alone coming comings are = either (gives_up coming)
    (λ gives. rw gives (none_else comings are))
    (λ gives. rw gives (ap (λ cs. coming ∷ cs) (none_else comings are)))

last_once : (one : Change) (going : Going) (test : Change → Bool) → count test going.waiting + count test (one ∷ [])
    ≡ count test (flat_map went_on_at (last_step one going ∷ [])) + count test (concluded one going).waiting
last_once one going test = either (is_free going.manager.server one)
    (λ free. rw free (omega arith))
    (λ free. rw free (omega (arith, count_append test going.waiting (one ∷ []))))

call_once : (manager : Manager) (waiting : List Change) (calling : Calling) (test : Change → Bool)
    → count test waiting + count test (asked_at calling)
    ≡ count test (flat_map went_on_at (call_steps manager waiting calling))
    + count test (flat_map left_at (call_steps manager waiting calling)) + count test (come_to manager waiting calling).waiting
unfolding changed
call_once manager waiting (Calling.Comes coming own about leaves noted) test =
    let start = after_call manager waiting coming leaves noted in
    let tries = all_tries (files_of own about start) start in
    let stay = counted leaves test waiting in
    let tried = tries_once (files_of own about start) start test in
    let left = count_append test (filter leaves waiting) (flat_map left_at tries)
    ∙ ap (λ cs. count test (filter leaves waiting) + count test cs) (tries_leave (files_of own about start) start) in
    omega (arith, stay, tried, left)
call_once manager waiting (Calling.Changes one) test =
    let start = after_giving manager waiting one in
    let tries = all_tries (files_of None [] start) start in
    let last = last_step one (tried_after None [] start) in
    let tried = tries_once (files_of None [] start) start test in
    let answered = last_once one (tried_after None [] start) test in
    let went = ap (count test) (flat_map-append went_on_at tries (last ∷ []))
    ∙ count_append test (flat_map went_on_at tries) (flat_map went_on_at (last ∷ [])) in
    let left = ap (count test) (flat_map-append left_at tries (last ∷ [])
    ∙ ap₂ (λ xs ys. xs ++ ys) (tries_leave (files_of None [] start) start) (last_leaves one
    (tried_after None [] start))) in
    omega (arith, tried, answered, went, left)

call_left : (manager : Manager) (waiting : List Change) (calling : Calling) (one : Change)
    → Among one (flat_map left_at (call_steps manager waiting calling)) → is_left_at one calling ≡ true
call_left manager waiting (Calling.Comes coming own about leaves noted) one there =
    let start = after_call manager waiting coming leaves noted in
    let tries = all_tries (files_of own about start) start in
    ⊎_elim (λ first. (among_filter leaves one waiting first).1)
    (λ later. absurd (subst (Among one) (tries_leave (files_of own about start) start) later))
    (among_append one (filter leaves waiting) (flat_map left_at tries) there)
call_left manager waiting (Calling.Changes other) one there =
    let start = after_giving manager waiting other in
    let tries = all_tries (files_of None [] start) start in
    let last = last_step other (tried_after None [] start) in
    absurd (subst (Among one) (flat_map-append left_at tries (last ∷ [])
    ∙ ap₂ (λ xs ys. xs ++ ys) (tries_leave (files_of None [] start) start) (last_leaves other
    (tried_after None [] start))) there)

-- ---- runs

abbrev on_steps : Calling → Going → List Step
on_steps calling going = call_steps going.manager going.waiting calling

abbrev run_steps : List Calling → Going → List Step
run_steps [] going = []
run_steps (calling ∷ callings) going = on_steps calling going ++ run_steps callings (going_on calling going)

same_on : (calling : Calling) (going : Going)
    → handling_in (going_on calling going) ≡ stepped_along (on_steps calling going) (handling_in going)
same_on calling going =
    let begun : Handling = record { manager = going.manager; told = [] } in
    ap (after going.told) (same_call going.manager going.waiting calling)
    ∙ sym (all_after going.told (on_steps calling going) begun)
    ∙ ap (λ t. stepped_along (on_steps calling going) (record { manager = going.manager; told = t })) (append-nil going.told)

same_run : (callings : List Calling) (going : Going)
    → handling_in (going_along callings going) ≡ stepped_along (run_steps callings going) (handling_in going)
unfolding going_along stepped_along
same_run [] going = refl
same_run (calling ∷ callings) going = same_run callings (going_on calling going)
    ∙ ap (stepped_along (run_steps callings (going_on calling going))) (same_on calling going)
    ∙ sym (stepped_append (on_steps calling going) (run_steps callings (going_on calling going)) (handling_in going))

run_own : (callings : List Calling) (going : Going)
    → without gives_up (calls_in (run_steps callings going)) ≡ without gives_up (map own_call callings)
run_own [] going = refl
run_own (calling ∷ callings) going =
    let here = on_steps calling going in
    let later = run_steps callings (going_on calling going) in
    let stays : Coming → Bool = λ coming. not (gives_up coming) in
    ap (without gives_up) (flat_map-append call_at here later)
    ∙ filter-append stays (calls_in here) (calls_in later)
    ∙ ap₂ (λ xs ys. xs ++ ys)
    (first_alone (own_call calling) (calls_in (later_steps going.manager going.waiting calling))
    (later_give going.manager going.waiting calling))
    (run_own callings (going_on calling going))
    ∙ sym (filter-append stays (own_call calling ∷ []) (map own_call callings))

run_tags : (callings : List Calling) (going : Going) → AskFreely callings going
    → HaveFreeTags going.manager (calls_in (run_steps callings going))
run_tags [] going asks = tt
run_tags (calling ∷ callings) going asks =
    let later = calls_in (later_steps going.manager going.waiting calling) in
    free_append (on_steps calling going) (run_steps callings (going_on calling going)) (handling_in going)
    (asks.0, all_freely later (managed going.manager (own_call calling)).manager (later_give going.manager going.waiting calling))
    (subst (λ m. HaveFreeTags m (calls_in (run_steps callings (going_on calling going)))) (ap
    (λ h. h.manager) (same_on calling going))
    (run_tags callings (going_on calling going) asks.1))

run_once : (callings : List Calling) (going : Going) (test : Change → Bool)
    → count test going.waiting + count test (flat_map asked_at callings)
    ≡ count test (flat_map went_on_at (run_steps callings going)) + count test (flat_map left_at (run_steps callings going))
    + count test (going_along callings going).waiting
unfolding going_along
run_once [] going test = omega arith
run_once (calling ∷ callings) going test =
    let here = on_steps calling going in
    let later = run_steps callings (going_on calling going) in
    let first = call_once going.manager going.waiting calling test in
    let rest = run_once callings (going_on calling going) test in
    let asked = count_append test (asked_at calling) (flat_map asked_at callings) in
    let went = ap (count test) (flat_map-append went_on_at here later)
    ∙ count_append test (flat_map went_on_at here) (flat_map went_on_at later) in
    let left = ap (count test) (flat_map-append left_at here later)
    ∙ count_append test (flat_map left_at here) (flat_map left_at later) in
    omega (arith, first, rest, asked, went, left)

run_left : (callings : List Calling) (going : Going) (one : Change) → Among one (flat_map left_at (run_steps callings going))
    → list_any (is_left_at one) callings ≡ true
run_left [] going one there = absurd there
run_left (calling ∷ callings) going one there =
    let here = flat_map left_at (on_steps calling going) in
    let later = flat_map left_at (run_steps callings (going_on calling going)) in
    ⊎_elim
    (λ first. rw (call_left going.manager going.waiting calling one first) refl)
    (λ second. or_of_true (is_left_at one calling) (list_any (is_left_at one) callings) (run_left callings
    (going_on calling going) one second))
    (among_append one here later
    (subst (Among one) (flat_map-append left_at (on_steps calling going) (run_steps callings
    (going_on calling going))) there))

pub runs_are_of_managers : RunsAreOfManagers
runs_are_of_managers callings before = record {
  steps = run_steps callings before;
  same = same_run callings before;
  manager = ap (λ h. h.manager) (same_run callings before)
      ∙ calls_alone (run_steps callings before) (handling_in before) (handling_in before) refl;
  own = run_own callings before;
  tags = run_tags callings before;
  each_once = run_once callings before;
  left = run_left callings before;
}
