-- Passes of a manager over what waits, and those of its server.
use Rattle.lease_laws.proofs.Words.{◌++◌, ◌+◌, ◌∙◌, ◌∷◌, ◌≡◌, Held, List, Outcome, Pass, Progress, Server, Tried}
use Rattle.lease_laws.proofs.Words.{ℕ, [], after_try, all_passes, ap}
use Rattle.lease_laws.proofs.Words.{begun, concluded, false, held_left, is_behind, left_waiting, length}
use Rattle.lease_laws.proofs.Words.{length-map}
use Rattle.lease_laws.proofs.Words.{map-append, numbers_to, one_pass, pass_answered, pass_over, passes, passes_for}
use Rattle.lease_laws.proofs.Words.{passes_over, put, refl, subst, suc, sym}
use Rattle.lease_laws.proofs.Words.{tried, tried_again, zero}
use Rattle.lease_laws.proofs.server.Held.{concluded-held, tried_for-held}
use Rattle.lease_laws.proofs.server.Lists.{either}
use Rattle.lease_laws.proofs.server.cases.Passes as server
use Rattle.manager_model.specs.Handling.{Handling, Tagged, ends, gone_on, held_in}
use Rattle.manager_model.specs.Handling as rules
use Rattle.manager_model.proofs.hosts.Before.{as_begun, behind, concluded_on, stepped_on, tried_behind, tried_on}
use Rattle.manager_model.proofs.passes.Ways as ways
use Rattle.lease_manager.specs.Calls.{GoesAs}
use Rattle.lease_manager.proofs.follows.Steps.{ends_following, goes_following, queued_following}

-- ---- a try

-- the try of a request that waits
abbrev pub try_of : Tagged → Server → Tried
try_of one server = tried one.held.client one.held.request (begun server)

-- the server's, in a call under way
tried_fully : (one : Tagged) (progress : Progress)
    → tried one.held.client one.held.request progress ≡ tried_behind progress.outs (try_of one progress.server)
tried_fully one progress = ap (tried one.held.client one.held.request) (as_begun progress)
    ∙ tried_on progress.outs one.held.client one.held.request (begun progress.server)

-- ---- a pass under way

record PassFollows (pass : rules.Pass) (full : Pass) : Type 0 where
  pub passed : full.passed ≡ held_in pass.passed
  pub follows : GoesAs pass.now full.progress
  pub has : full.has_answered ≡ pass.has_answered

-- one is passed over
over_one : (one : Tagged) (pass : rules.Pass) (full : Pass) (now : Handling) (progress : Progress) → PassFollows pass full
    → GoesAs now progress → PassFollows (rules.left_waiting one pass now) (left_waiting one.held full progress)
over_one one pass full now progress p f = record {
  passed = ap (λ l. l ++ one.held ∷ []) p.passed ∙ sym (map-append (λ (o : Tagged). o.held) pass.passed (one ∷ []));
  follows = f;
  has = p.has;
}

-- one is answered
answers_one : (file : ℕ) (one : Tagged) (waiting : List Tagged) (pass : rules.Pass) (full : Pass) (outcome : Outcome)
    → PassFollows pass full
    → PassFollows (rules.pass_answered file one waiting pass (try_of one full.progress.server).progress outcome)
    (pass_answered file one.held (held_in waiting) full (record {
      progress = behind full.progress.outs (try_of one full.progress.server).progress;
      outcome = outcome;
    }))
answers_one file one waiting pass full outcome p =
    let done = (try_of one full.progress.server).progress in
    let client = one.held.client in
    let request = one.held.request in
    let queue = pass.passed ++ waiting in
    let left = held_in queue in
    let after = concluded client request (held_left file left done) outcome in
    let held : after.server.held ≡ put full.progress.server.held file left =
    concluded-held client request (held_left file left done) outcome
    ∙ ap (λ (h : ℕ → List Held). put h file left) (tried_for-held 3 client request (begun full.progress.server)) in
    let theirs : concluded client request (held_left file (full.passed ++ held_in waiting)
    (behind full.progress.outs done)) outcome ≡ behind full.progress.outs after =
    ap (λ l. concluded client request (held_left file l (behind full.progress.outs done)) outcome)
    (ap (λ l. l ++ held_in waiting) p.passed ∙ sym (map-append (λ (o : Tagged). o.held) pass.passed waiting))
    ∙ ap (λ q. concluded client request q outcome) (stepped_on full.progress.outs done (held_left file left done).server [])
    ∙ concluded_on full.progress.outs client (held_left file left done) request outcome in
    record {
      passed = p.passed;
      follows = subst (GoesAs (rules.queued file queue (gone_on one.tag after (ends done.server pass.now)))) (sym theirs)
          (queued_following one.tag file queue (ends done.server pass.now) full.progress after
          (ends_following done.server pass.now full.progress p.follows) held);
      has = refl;
    }

-- one is tried
tries_one : (file : ℕ) (one : Tagged) (waiting : List Tagged) (pass : rules.Pass) (full : Pass) (outcome : Outcome)
    → PassFollows pass full
    → PassFollows (rules.after_try file one waiting pass (try_of one full.progress.server).progress outcome)
    (after_try file one.held (held_in waiting) full
    (behind full.progress.outs (try_of one full.progress.server).progress) outcome)
tries_one file one waiting pass full Outcome.Waits p =
    let done = (try_of one full.progress.server).progress in
    over_one one pass full (gone_on one.tag done (ends done.server pass.now)) (behind full.progress.outs done) p
    (goes_following one.tag (ends done.server pass.now) full.progress done
    (ends_following done.server pass.now full.progress p.follows)
    (tried_for-held 3 one.held.client one.held.request (begun full.progress.server)))
tries_one file one waiting pass full outcome p = answers_one file one waiting pass full outcome p

again : (file : ℕ) (one : Tagged) (waiting : List Tagged) (pass : rules.Pass) (full : Pass) → PassFollows pass full
    → PassFollows (rules.tried_again file one waiting pass) (tried_again file one.held (held_in waiting) full)
again file one waiting pass full p =
    let is = p.follows.server in
    let same : is_behind pass.now.manager.server.rules one.held (held_in pass.passed)
    ≡ is_behind full.progress.server.rules one.held full.passed =
    ap (λ (m : Server). is_behind m.rules one.held (held_in pass.passed)) is
    ∙ ap (is_behind full.progress.server.rules one.held) (sym p.passed) in
    either (is_behind full.progress.server.rules one.held full.passed)
    (λ first.
    subst (λ (q : rules.Pass). PassFollows q (tried_again file one.held (held_in waiting) full))
    (sym (ways.is_passed_over file one waiting pass (same ∙ first)))
    (subst (PassFollows (rules.left_waiting one pass pass.now))
    (sym (server.is_passed_over file one.held (held_in waiting) full first))
    (over_one one pass full pass.now full.progress p p.follows)))
    (λ first.
    let done = try_of one full.progress.server in
    let mine : rules.tried_again file one waiting pass ≡ rules.after_try file one waiting pass done.progress done.outcome =
    ways.is_tried file one waiting pass (same ∙ first)
    ∙ ap (λ (m : Server). rules.after_try file one waiting pass (try_of one m).progress (try_of one m).outcome) is in
    let theirs : tried_again file one.held (held_in waiting) full
    ≡ after_try file one.held (held_in waiting) full (behind full.progress.outs done.progress) done.outcome =
    server.is_tried file one.held (held_in waiting) full first
    ∙ ap (λ (t : Tried). after_try file one.held (held_in waiting) full t.progress t.outcome)
    (tried_fully one full.progress) in
    subst (λ (q : rules.Pass). PassFollows q (tried_again file one.held (held_in waiting) full)) (sym mine)
    (subst (PassFollows (rules.after_try file one waiting pass done.progress done.outcome))
    (sym theirs) (tries_one file one waiting pass full done.outcome p)))

over : (file : ℕ) (waiting : List Tagged) (pass : rules.Pass) (full : Pass) → PassFollows pass full
    → PassFollows (rules.pass_over file waiting pass) (pass_over file (held_in waiting) full)
unfolding rules.pass_over pass_over
over file [] pass full p = p
over file (one ∷ waiting) pass full p =
    over file waiting (rules.tried_again file one waiting pass) (tried_again file one.held (held_in waiting) full)
    (again file one waiting pass full p)

-- ---- passes

-- what waits on a file
waits_alike : (now : Handling) (progress : Progress) (file : ℕ) → GoesAs now progress
    → progress.server.held file ≡ held_in (now.manager.queues file)
waits_alike now progress file f = ap (λ (s : Server). s.held file) (sym f.server) ∙ f.tagged file

pass_follows : (file : ℕ) (now : Handling) (progress : Progress) → GoesAs now progress
    → PassFollows (rules.one_pass file now) (one_pass file progress)
pass_follows file now progress f =
    let begun_so : Pass = record { passed = []; progress = progress; has_answered = false } in
    subst (λ held. PassFollows (rules.one_pass file now) (pass_over file held begun_so))
    (sym (waits_alike now progress file f))
    (over file (now.manager.queues file) (record { passed = []; now = now; has_answered = false }) begun_so
    (record { passed = refl; follows = f; has = refl }))

count_follows : (count file : ℕ) (now : Handling) (progress : Progress) → GoesAs now progress
    → GoesAs (rules.passes_for count file now) (passes_for count file progress)
unfolding rules.passes_for passes_for
count_follows zero file now progress f = f
count_follows (suc count) file now progress f =
    let p = pass_follows file now progress f in
    let next = rules.one_pass file now in
    let full = one_pass file progress in
    either full.has_answered
    (λ a. subst (λ n. GoesAs n (passes_for (suc count) file progress))
    (sym (ways.passes_on count file now (sym p.has ∙ a)))
    (subst (GoesAs (rules.passes_for count file next.now)) (sym (server.passes_on count file progress a))
    (count_follows count file next.now full.progress p.follows)))
    (λ n. subst (λ m. GoesAs m (passes_for (suc count) file progress))
    (sym (ways.passes_stop count file now (sym p.has ∙ n)))
    (subst (GoesAs next.now) (sym (server.passes_stop count file progress n)) p.follows))

file_follows : (file : ℕ) (now : Handling) (progress : Progress) → GoesAs now progress
    → GoesAs (rules.passes file now) (passes file progress)
file_follows file now progress f =
    let many = length (now.manager.queues file) + 1 in
    subst (λ count. GoesAs (rules.passes file now) (passes_for count file progress))
    (sym (ap (λ held. length held + 1) (waits_alike now progress file f)
    ∙ ap (λ n. n + 1) (length-map (now.manager.queues file) (λ (o : Tagged). o.held))))
    (count_follows many file now progress f)

files_follow : (files : List ℕ) (now : Handling) (progress : Progress) → GoesAs now progress
    → GoesAs (rules.passes_over files now) (passes_over files progress)
unfolding rules.passes_over passes_over
files_follow [] now progress f = f
files_follow (file ∷ files) now progress f =
    files_follow files (rules.passes file now) (passes file progress) (file_follows file now progress f)

pub all_follow : (now : Handling) (progress : Progress) → GoesAs now progress
    → GoesAs (rules.all_passes now) (all_passes progress)
unfolding rules.all_passes all_passes
all_follow now progress f =
    subst (λ files. GoesAs (rules.passes_over (numbers_to files) now) (passes_over (numbers_to progress.server.files) progress))
    (sym (ap (λ (m : Server). m.files) f.server))
    (files_follow (numbers_to progress.server.files) now progress f)
