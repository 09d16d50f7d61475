-- A pass over a file's queue, place by place, and the passes one after another.
use Rattle.lease_laws.proofs.Words.{◌++◌, ◌+◌, ◌<◌, ◌∙◌, ◌∷◌, ◌≡◌, ◌≤◌, Bool, List, Out, Outcome}
use Rattle.lease_laws.proofs.Words.{Progress, Server, Some, Tried, ℕ, [], ap, append-nil, arith, begun, Decides-eqb, ⊎_elim}
use Rattle.lease_laws.proofs.Words.{concluded, drop, ended, false, get_or, held_left, is_behind}
use Rattle.lease_laws.proofs.Words.{Held, length, put, refl, suc, sym, take, tried, true, zero}
use Rattle.std.proofs.lemmas.List.{drop_all, length-map, take-map}
use Rattle.std.proofs.Math.Seq.{take-suc, drop-cons}
use Rattle.manager_model.proofs.passes.Ways.{goes_on, is_over, is_passed_over, is_tried, passes_on, passes_stop, try_of}
use Rattle.std.specs.List.{remove, slice_get}
use Rattle.lease_laws.proofs.server.Lists.{clash, either}
use Rattle.manager_model.specs.Decisions.{Decision, told_of}
use Rattle.manager_model.specs.Handling.{Handling, Manager, Pass, Tagged, after_try, ended_between, ends, gone_on, held_in}
use Rattle.manager_model.specs.Handling.{left_waiting, one_pass, pass_answered, queued}
use Rattle.manager_model.specs.Handling as rules
use Rattle.manager_model.specs.Laws.{PassesAnswer, PassesAreEnough}
use Rattle.lease_manager.proofs.tries.Breaking.{silent}
use Rattle.lease_manager.proofs.tries.Ending.{none_between}
use Rattle.lease_manager.specs.Outs.{handling_of, progress_of}
use Rattle.lease_manager.specs.Passing.{pass_at, is_waiting}
use Rattle.lease_manager.specs.Queues.{file_numbers}
use Rattle.lease_manager.specs.declared.values.number.FileNo.{FileNo}
use Rattle.lease_manager.specs.StillWaiting.{IsTriedInVain, WaitStill}
use Rattle.lease_manager.specs.Table.{Queue, Table, manager_of, queue_at, requeued, server_of}

-- ---- the steps of passes

-- ---- a queue, from a place on

cells : (q : List Tagged) (place : ℕ) (one : Tagged) → place < length q → one ≡ get_or q place one
    → drop place q ≡ one ∷ drop (place + 1) q
cells q place one inside is =
    let e : suc place ≡ place + 1 = omega arith in
    drop-cons q place one inside ∙ (ap (λ x. x ∷ drop (suc place) q) (sym is) ∙ ap (λ n. one ∷ drop n q) e)

taken : (q : List Tagged) (place : ℕ) (one : Tagged) → place < length q → one ≡ get_or q place one
    → take (place + 1) q ≡ take place q ++ one ∷ []
taken q place one inside is =
    let e : place + 1 ≡ suc place = omega arith in
    rw e (take-suc q place one inside ∙ ap (λ x. take place q ++ x ∷ []) (sym is))

abbrev without_place : List Tagged → ℕ → List Tagged
without_place q place = take place q ++ drop (place + 1) q

removed_is : (q : List Tagged) (place : ℕ) → remove q place ≡ without_place q place
removed_is q place = let e : suc place ≡ place + 1 = omega arith in ap (λ n. take place q ++ drop n q) e

front_left : (q : List Tagged) (place : ℕ) → place < length q → take place (without_place q place) ≡ take place q
front_left [] place inside = absurd (omega arith)
front_left (one ∷ q) zero inside = refl
front_left (one ∷ q) (suc place) inside = let later = front_left q place (omega arith) in grind arith

back_left : (q : List Tagged) (place : ℕ) → place < length q → drop place (without_place q place) ≡ drop (place + 1) q
back_left [] place inside = absurd (omega arith)
back_left (one ∷ q) zero inside = refl
back_left (one ∷ q) (suc place) inside = let later = back_left q place (omega arith) in grind arith

one_less : (q : List Tagged) (place : ℕ) → place < length q → length (without_place q place) + 1 ≡ length q
one_less [] place inside = absurd (omega arith)
one_less (one ∷ q) zero inside = omega arith
one_less (one ∷ q) (suc place) inside = let later = one_less q place (omega arith) in grind arith

-- ---- one request that waits

abbrev so_far : ℕ → ℕ → Bool → Handling → Pass
so_far file place has now = record { passed = take place (now.manager.queues file); now = now; has_answered = has }

abbrev next_step : ℕ → ℕ → Bool → Handling → Tagged → Pass
next_step file place has now one =
    rules.tried_again file one (drop (place + 1) (now.manager.queues file)) (so_far file place has now)

one_on : (file place : ℕ) (has : Bool) (before : Handling) (one : Tagged)
    → place < length (before.manager.queues file) → one ≡ get_or (before.manager.queues file) place one
    → pass_at file place has before
    ≡ rules.pass_over file (drop (place + 1) (before.manager.queues file)) (next_step file place has before one)
one_on file place has before one inside is = ap (λ waiting. rules.pass_over file waiting (so_far file place has before))
    (cells (before.manager.queues file) place one inside is) ∙ goes_on file one _ (so_far file place has before)

left_here : (file place : ℕ) (has : Bool) (before after : Handling) (one : Tagged)
    → place < length (before.manager.queues file) → one ≡ get_or (before.manager.queues file) place one
    → after.manager.queues file ≡ before.manager.queues file
    → next_step file place has before one ≡ left_waiting one (so_far file place has before) after
    → pass_at file (place + 1) has after ≡ pass_at file place has before
left_here file place has before after one inside is same step =
    ap (λ (q : List Tagged). rules.pass_over file (drop (place + 1) q)
    (record { passed = take (place + 1) q; now = after; has_answered = has })) same
    ∙ (ap (λ passed. rules.pass_over file (drop (place + 1) (before.manager.queues file))
    (record { passed = passed; now = after; has_answered = has })) (taken (before.manager.queues file) place one inside is)
    ∙ (ap (rules.pass_over file (drop (place + 1) (before.manager.queues file))) (sym step)
    ∙ sym (one_on file place has before one inside is)))

pub behind_here : (file place : ℕ) (has : Bool) (before : Handling) (one : Tagged)
    → place < length (before.manager.queues file) → one ≡ get_or (before.manager.queues file) place one
    → is_behind before.manager.server.rules one.held (held_in (take place (before.manager.queues file))) ≡ true
    → pass_at file (place + 1) has before ≡ pass_at file place has before
behind_here file place has before one inside is behind =
    left_here file place has before before one inside is refl (is_passed_over file one _ (so_far file place has before) behind)

tried_then : (file place : ℕ) (has : Bool) (before : Handling) (progress : Progress) (one : Tagged) (outcome : Outcome)
    → is_behind before.manager.server.rules one.held (held_in (take place (before.manager.queues file))) ≡ false
    → ended progress outcome ≡ try_of one before → next_step file place has before one
    ≡ after_try file one (drop (place + 1) (before.manager.queues file)) (so_far file place has before) progress outcome
tried_then file place has before progress one outcome first end =
    let pass = so_far file place has before in
    is_tried file one _ pass first
    ∙ ap (λ (t : Tried). after_try file one (drop (place + 1) (before.manager.queues file)) pass t.progress t.outcome) (sym end)

waiting_is : (file : ℕ) (one : Tagged) (waiting : List Tagged) (pass : Pass) (progress : Progress) (outcome : Outcome)
    → is_waiting outcome ≡ true → after_try file one waiting pass progress outcome
    ≡ left_waiting one pass (gone_on one.tag progress (ends progress.server pass.now))
waiting_is file one waiting pass progress outcome e = grind arith

answer_is : (file : ℕ) (one : Tagged) (waiting : List Tagged) (pass : Pass) (progress : Progress) (outcome : Outcome)
    → is_waiting outcome ≡ false
    → after_try file one waiting pass progress outcome ≡ pass_answered file one waiting pass progress outcome
answer_is file one waiting pass progress outcome e = grind arith

pub waits_here : (file place : ℕ) (has : Bool) (before after : Handling) (progress : Progress) (one : Tagged) (outcome : Outcome)
    → place < length (before.manager.queues file) → one ≡ get_or (before.manager.queues file) place one
    → is_behind before.manager.server.rules one.held (held_in (take place (before.manager.queues file))) ≡ false
    → ended progress outcome ≡ try_of one before → is_waiting outcome ≡ true
    → after ≡ gone_on one.tag progress (ends progress.server before)
    → pass_at file (place + 1) has after ≡ pass_at file place has before
waits_here file place has before after progress one outcome inside is first end waits told =
    left_here file place has before after one inside is (ap (λ (now : Handling). now.manager.queues file) told)
    (tried_then file place has before progress one outcome first end
    ∙ (waiting_is file one (drop (place + 1) (before.manager.queues file)) (so_far file place has before) progress outcome waits
    ∙ ap (left_waiting one (so_far file place has before)) (sym told)))

-- ---- what is told of a try

abbrev at_handling : Server → (ℕ → List Tagged) → List Decision → Handling
at_handling server queues told = record { manager = record { server = server; queues = queues }; told = told }

pub gone : (before after : Table) (told now : List Decision) (outs : List Out) (tag : ℕ) → after.queues ≡ before.queues
    → now ≡ (told ++ ended_between (server_of before) (server_of after)) ++ told_of tag outs
    → handling_of after now ≡ gone_on tag (progress_of after outs) (ends (server_of after) (handling_of before told))
gone before after told now outs tag queues is =
    ap (λ q. at_handling (server_of after) (queue_at q) now) queues
    ∙ ap (at_handling (server_of after) (queue_at before.queues)) is

-- a try in vain tells nothing
pub in_vain_told : (now : Handling) (one : Tagged) → IsTriedInVain now.manager.server one.held.client one.held.request
    → now ≡ gone_on one.tag (begun now.manager.server) (ends now.manager.server now)
in_vain_told now one vain = ap (at_handling now.manager.server now.manager.queues)
    (sym (append-nil now.told) ∙ (ap (λ more. now.told ++ more) (sym (none_between now.manager.server))
    ∙ sym (append-nil (now.told ++ ended_between now.manager.server now.manager.server))))

-- ---- an answer

-- what a request that is answered leaves behind
pub record IsAnswered (file place : ℕ) (before : Handling) (last : Handling) : Type 0 where
  pub step : (has : Bool) → pass_at file place true last ≡ pass_at file place has before
  pub fewer : length (last.manager.queues file) + 1 ≡ length (before.manager.queues file)

abbrev answered_now : ℕ → ℕ → Tagged → Handling → Progress → Outcome → Handling
answered_now file place one before progress outcome =
    queued file (without_place (before.manager.queues file) place) (gone_on one.tag
    (concluded one.held.client one.held.request
    (held_left file (held_in (without_place (before.manager.queues file) place)) progress) outcome)
    (ends progress.server before))

put_there : (table : ℕ → List Tagged) (file : ℕ) (queue : List Tagged) → put table file queue file ≡ queue
unfolding put
put_there table file queue = rw ((Decides-eqb file file).1 refl) refl

answers_here : (file place : ℕ) (before last : Handling) (progress : Progress) (one : Tagged) (outcome : Outcome)
    → place < length (before.manager.queues file) → one ≡ get_or (before.manager.queues file) place one
    → is_behind before.manager.server.rules one.held (held_in (take place (before.manager.queues file))) ≡ false
    → ended progress outcome ≡ try_of one before → is_waiting outcome ≡ false
    → last ≡ answered_now file place one before progress outcome → IsAnswered file place before last
answers_here file place before last progress one outcome inside is first end ready finished =
    let q : List Tagged = before.manager.queues file in
    let queue : last.manager.queues file ≡ without_place (before.manager.queues file) place =
    ap (λ (now : Handling). now.manager.queues file) finished
    ∙ put_there before.manager.queues file (without_place (before.manager.queues file) place) in
    record {
      step = λ has. ap (λ (xs : List Tagged). rules.pass_over file (drop place xs)
          (record { passed = take place xs; now = last; has_answered = true })) queue
          ∙ (ap (λ waiting. rules.pass_over file waiting (record {
            passed = take place (without_place (before.manager.queues file) place);
            now = last;
            has_answered = true;
          })) (back_left (before.manager.queues file) place inside)
          ∙ (ap (λ passed. rules.pass_over file (drop (place + 1) (before.manager.queues file))
          (record { passed = passed; now = last; has_answered = true })) (front_left (before.manager.queues file) place inside)
          ∙ (ap (λ (now : Handling). rules.pass_over file (drop (place + 1) (before.manager.queues file)) (record {
            passed = take place (before.manager.queues file);
            now = now;
            has_answered = true;
          })) finished ∙ (ap (rules.pass_over file (drop (place + 1) (before.manager.queues file)))
          (sym (tried_then file place has before progress one outcome first end
          ∙ answer_is file one (drop (place + 1) (before.manager.queues file)) (so_far file place has before)
          progress outcome ready)) ∙ sym (one_on file place has before one inside is)))));
      fewer = rw queue (one_less (before.manager.queues file) place inside);
    }

released : (during freed : Table) (outs : List Out) (file : ℕ) (queue : List Tagged)
    → manager_of freed ≡ requeued (manager_of during) file queue
    → progress_of freed outs ≡ held_left file (held_in queue) (progress_of during outs)
released during freed outs file queue is = silent during freed outs _ (ap (λ (m : Manager). m.server) is)

pub answered_here : (file place : ℕ) (before during freed last : Table) (told now : List Decision) (outs more : List Out)
    (one : Tagged) (outcome : Outcome)
    → place < length (queue_at before.queues file) → one ≡ get_or (queue_at before.queues file) place one
    → is_behind before.rules one.held (held_in (take place (queue_at before.queues file))) ≡ false
    → ended (progress_of during outs) outcome ≡ tried one.held.client one.held.request (begun (server_of before))
    → is_waiting outcome ≡ false → during.queues ≡ before.queues
    → manager_of freed ≡ requeued (manager_of during) file (remove (queue_at during.queues file) place)
    → progress_of last more ≡ concluded one.held.client one.held.request (progress_of freed outs) outcome
    → last.queues ≡ freed.queues
    → now ≡ (told ++ ended_between (server_of before) (server_of during)) ++ told_of one.tag more
    → IsAnswered file place (handling_of before told) (handling_of last now)
answered_here file place before during freed last told now outs more one outcome inside is first end ready same left done
    stays said =
    let queue : remove (queue_at during.queues file) place ≡ without_place (queue_at before.queues file) place =
    removed_is (queue_at during.queues file) place
    ∙ ap (λ (q : List Queue). without_place (queue_at q file) place) same in
    let given : progress_of last more ≡ concluded one.held.client one.held.request
    (held_left file (held_in (without_place (queue_at before.queues file) place)) (progress_of during outs)) outcome =
    done ∙ ap (λ p. concluded one.held.client one.held.request p outcome)
    (released during freed outs file (remove (queue_at during.queues file) place) left
    ∙ ap (λ q. held_left file (held_in q) (progress_of during outs)) queue) in
    let queues : queue_at last.queues ≡ put (queue_at before.queues) file (without_place (queue_at before.queues file) place) =
    ap queue_at stays ∙ (ap (λ (m : Manager). m.queues) left
    ∙ (ap (λ (q : List Queue). put (queue_at q) file (remove (queue_at during.queues file) place)) same
    ∙ ap (put (queue_at before.queues) file) queue)) in
    answers_here file place (handling_of before told) (handling_of last now) (progress_of during outs) one outcome inside is
    first end
    ready (ap (λ q. at_handling (server_of last) q now) queues
    ∙ (ap (at_handling (server_of last) (put (queue_at before.queues) file
    (without_place (queue_at before.queues file) place))) said
    ∙ ap (λ (p : Progress). at_handling p.server (put (queue_at before.queues) file
    (without_place (queue_at before.queues file) place))
    ((told ++ ended_between (server_of before) (server_of during)) ++ told_of one.tag p.outs)) given))

-- ---- the end of a pass

pub record IsPassed (now : Handling) (has : Bool) (whole : Pass) : Type 0 where
  pub handled : whole.now ≡ now
  pub has_answered : whole.has_answered ≡ has

pub pass_done : (file place : ℕ) (has : Bool) (now : Handling) (whole : Pass)
    → length (now.manager.queues file) ≤ place → pass_at file place has now ≡ whole → IsPassed now has whole
pass_done file place has now whole all is =
    let none = drop_all place (now.manager.queues file) all in
    let end : so_far file place has now ≡ whole =
    sym (is_over file (so_far file place has now))
    ∙ sym (ap (λ waiting. rules.pass_over file waiting (so_far file place has now)) none) ∙ is in
    record {
      handled = sym (ap (λ (p : Pass). p.now) end);
      has_answered = sym (ap (λ (p : Pass). p.has_answered) end);
    }

-- ---- passes

pub another_pass : PassesAnswer → PassesAreEnough → (file : ℕ) (now : Handling) → (one_pass file now).has_answered ≡ true
    → rules.passes file (one_pass file now).now ≡ rules.passes file now
another_pass answer enough file now has =
    let less = answer file now has in
    let e : length (now.manager.queues file) + 1 ≡ suc (length (now.manager.queues file)) = omega arith in
    sym (enough (length (now.manager.queues file)) file (one_pass file now).now less)
    ∙ (sym (passes_on (length (now.manager.queues file)) file now has) ∙ ap (λ n. rules.passes_for n file now) (sym e))

pub last_pass : (file : ℕ) (now : Handling) → (one_pass file now).has_answered ≡ false
    → (one_pass file now).now ≡ rules.passes file now
last_pass file now has =
    let e : length (now.manager.queues file) + 1 ≡ suc (length (now.manager.queues file)) = omega arith in
    sym (passes_stop (length (now.manager.queues file)) file now has) ∙ ap (λ n. rules.passes_for n file now) (sym e)

-- ---- a pass may begin behind the requests that wait still

there : (queue : List Tagged) (place : ℕ) → place < length queue
    → (one : Tagged) × (slice_get (held_in queue) place ≡ Some one.held) × (one ≡ get_or queue place one)
there [] place inside = absurd (omega (arith, inside))
there (one ∷ queue) zero inside = (one, refl, refl)
there (one ∷ queue) (suc place) inside = there queue place (omega (arith, inside))

pub got_held : (queue : List Tagged) (place : ℕ) (one : Tagged) (held : Held) → one ≡ get_or queue place one
    → slice_get (held_in queue) place ≡ Some held → one.held ≡ held
got_held [] place one held is found = absurd (cc found)
got_held (first ∷ queue) zero one held is found = ap (λ (t : Tagged). t.held) is ∙ cc found
got_held (first ∷ queue) (suc place) one held is found = got_held queue place one held is found

skipped : (file place : ℕ) (has : Bool) (table : Table) (told : List Decision) (count : ℕ)
    → WaitStill (server_of table) file count
    → place < count → pass_at file (place + 1) has (handling_of table told) ≡ pass_at file place has (handling_of table told)
skipped file place has table told count still less =
    let within = still.within in
    let many = length-map (queue_at table.queues file) (λ (one : Tagged). one.held) in
    let inside : place < length (queue_at table.queues file) = omega (arith, less, within, many) in
    let found = there (queue_at table.queues file) place inside in
    let front = sym (take-map (λ (one : Tagged). one.held) place (queue_at table.queues file)) in
    either (is_behind table.rules (found.0).held (held_in (take place (queue_at table.queues file))))
    (λ behind. behind_here file place has (handling_of table told) found.0 inside found.2 behind)
    (λ first. ⊎_elim
    (λ behind. clash (is_behind table.rules (found.0).held (held_in (take place (queue_at table.queues file))))
    (ap (is_behind table.rules (found.0).held) front ∙ behind) first)
    (λ vain. waits_here file place has (handling_of table told) (handling_of table told) (begun (server_of table)) found.0
    Outcome.Waits inside found.2 first (sym (vain [])) refl (in_vain_told (handling_of table told) found.0 vain))
    (still.each place (found.0).held less found.1))

skipped_all : (file count : ℕ) (has : Bool) (table : Table) (told : List Decision) (place : ℕ)
    → WaitStill (server_of table) file count
    → place ≤ count → pass_at file place has (handling_of table told) ≡ pass_at file 0 has (handling_of table told)
skipped_all file count has table told zero still within = refl
skipped_all file count has table told (suc place) still within =
    let e : place + 1 ≡ suc place = omega arith in
    ap (λ n. pass_at file n has (handling_of table told)) (sym e)
    ∙ (skipped file place has table told count still (omega (arith, within))
    ∙ skipped_all file count has table told place still (omega (arith, within)))

pub begins_behind : (file count : ℕ) (table : Table) (told : List Decision) → WaitStill (server_of table) file count
    → pass_at file count false (handling_of table told) ≡ one_pass file (handling_of table told)
begins_behind file count table told still = skipped_all file count false table told count still (omega arith)

-- ---- files, one after another

pub next_file : (files : List FileNo) (i : ℕ) (file : FileNo) (now after whole : Handling) → i < length files
    → file ≡ get_or files i file → after ≡ rules.passes file.0 now
    → rules.passes_over (file_numbers (drop i files)) now ≡ whole
    → rules.passes_over (file_numbers (drop (i + 1) files)) after ≡ whole
unfolding rules.passes_over
next_file files i file now after whole inside is passed so_on =
    let e : suc i ≡ i + 1 = omega arith in
    let rest : drop i files ≡ file ∷ drop (i + 1) files =
    drop-cons files i file inside ∙ (ap (λ x. x ∷ drop (suc i) files) (sym is) ∙ ap (λ n. file ∷ drop n files) e) in
    ap (rules.passes_over (file_numbers (drop (i + 1) files))) passed
    ∙ (ap (λ (fs : List FileNo). rules.passes_over (file_numbers fs) now) (sym rest) ∙ so_on)

pub no_more_files : (files : List FileNo) (i : ℕ) (now whole : Handling) → length files ≤ i
    → rules.passes_over (file_numbers (drop i files)) now ≡ whole → now ≡ whole
unfolding rules.passes_over
no_more_files files i now whole over so_on =
    sym (ap (λ (fs : List FileNo). rules.passes_over (file_numbers fs) now) (drop_all i files over)) ∙ so_on
