-- Passes over what waits, of a server, and of a manager with its host.
use Rattle.lease_laws.proofs.Words.{◌++◌, ◌+◌, ◌∙◌, ◌∷◌, ◌≡◌, FileRequest, Held, List, Outcome, Pass, Progress, Server, Tried}
use Rattle.lease_laws.proofs.Words.{ℕ, [], after_try, all_passes, ap}
use Rattle.lease_laws.proofs.Words.{append_assoc, ap₂, begun, concluded, false, held_left, is_behind, left_waiting, length}
use Rattle.lease_laws.proofs.Words.{length-map}
use Rattle.lease_laws.proofs.Words.{map, map-append, numbers_to, one_pass, pass_answered, pass_over, passes, passes_for}
use Rattle.lease_laws.proofs.Words.{passes_over, put, refl, subst, suc, sym}
use Rattle.lease_laws.proofs.Words.{tried, tried_again, zero}
use Rattle.lease_laws.proofs.server.Held.{concluded-held, tried_for-held}
use Rattle.lease_laws.proofs.server.Lists.{either}
use Rattle.lease_laws.proofs.server.cases.Passes as server
use Rattle.manager_model.specs.Bare.{bare, bare_held, bare_progress, bare_request}
use Rattle.manager_model.specs.Handling.{Handling, Tagged, ends, gone_on, held_in, queued}
use Rattle.manager_model.specs.Handling as rules
use Rattle.manager_model.specs.Hosting.{AreAsked, Host, filled}
use Rattle.manager_model.proofs.bytes.Ends.{concluded_so}
use Rattle.manager_model.proofs.bytes.Steps.{left_so}
use Rattle.manager_model.proofs.bytes.Tries.{bare_tried, tried_so}
use Rattle.manager_model.proofs.hosts.Answers.{ends_faithfully}
use Rattle.manager_model.proofs.hosts.Before.{as_begun, behind, concluded_on, stepped_on, tried_behind, tried_on}
use Rattle.manager_model.proofs.hosts.Faithful.{GoesFaithfully, faithful_then, nothing_done, same_host, tries_faithfully}
use Rattle.manager_model.proofs.hosts.Serving.{Serves, asked_both, asked_first, asked_later, behind_alike, ends_serving}
use Rattle.manager_model.proofs.hosts.Serving.{goes_queued, goes_serving, held_bare}
use Rattle.manager_model.proofs.passes.Ways as ways

-- ---- a try

-- the try of a request that waits, with its bytes
abbrev pub try_of : (ℕ → FileRequest) → Tagged → Server → Tried
try_of requests one server = tried one.held.client (requests one.tag) (begun server)

-- the manager's
pub tried_bare : (requests : ℕ → FileRequest) (one : Tagged) (manager server : Server) → manager ≡ bare server
    → one.held ≡ bare_held (filled requests one)
    → tried one.held.client one.held.request (begun manager) ≡ bare_tried (try_of requests one server)
tried_bare requests one manager server is asked =
    ap₂ (λ (m : Server) (r : FileRequest). tried one.held.client r (begun m)) is (ap (λ (h : Held). h.request) asked)
    ∙ tried_so one.held.client (requests one.tag) (begun server)

-- the server's
pub tried_fully : (requests : ℕ → FileRequest) (one : Tagged) (progress : Progress)
    → tried one.held.client (requests one.tag) progress ≡ tried_behind progress.outs (try_of requests one progress.server)
tried_fully requests one progress =
    ap (tried one.held.client (requests one.tag)) (as_begun progress)
    ∙ tried_on progress.outs one.held.client (requests one.tag) (begun progress.server)

-- what waits on a file, once the one that is answered is taken off, is no part of what a host sees
pub left_faithfully : (requests : ℕ → FileRequest) (tag file : ℕ) (left : List Held) (progress : Progress)
    → GoesFaithfully requests tag progress (held_left file left progress)
left_faithfully requests tag file left progress = nothing_done requests tag progress (held_left file left progress) refl
    (λ host is. same_host host progress.server (held_left file left progress).server is refl refl refl)

-- ---- a pass under way

pub record PassServes (requests : ℕ → FileRequest) (start : Host) (waiting : List Tagged) (pass : rules.Pass)
    (full : Pass) : Type 0
  where
    pub passed : full.passed ≡ map (filled requests) pass.passed
    pub asked : AreAsked requests (pass.passed ++ waiting)
    pub serves : Serves requests start pass.now full.progress
    pub has : full.has_answered ≡ pass.has_answered

-- one is passed over
over_one : (requests : ℕ → FileRequest) (start : Host) (one : Tagged) (waiting : List Tagged) (pass : rules.Pass) (full : Pass)
    (now : Handling) (progress : Progress) → PassServes requests start (one ∷ waiting) pass full
    → Serves requests start now progress
    → PassServes requests start waiting (rules.left_waiting one pass now) (left_waiting (filled requests one) full progress)
over_one requests start one waiting pass full now progress p s = record {
  passed = ap (λ l. l ++ filled requests one ∷ []) p.passed ∙ sym (map-append (filled requests) pass.passed (one ∷ []));
  asked = subst (AreAsked requests) (sym (append_assoc pass.passed (one ∷ []) waiting)) p.asked;
  serves = s;
  has = p.has;
}

asked_here : (requests : ℕ → FileRequest) (one : Tagged) (waiting passed : List Tagged)
    → AreAsked requests (passed ++ one ∷ waiting) → one.held ≡ bare_held (filled requests one)
asked_here requests one waiting passed a = (asked_later requests passed (one ∷ waiting) a).0

asked_left : (requests : ℕ → FileRequest) (one : Tagged) (waiting passed : List Tagged)
    → AreAsked requests (passed ++ one ∷ waiting) → AreAsked requests (passed ++ waiting)
asked_left requests one waiting passed a = asked_both requests passed waiting
    (asked_first requests passed (one ∷ waiting) a) (asked_later requests passed (one ∷ waiting) a).1

-- one is answered
answers_one : (requests : ℕ → FileRequest) (start : Host) (file : ℕ) (one : Tagged) (waiting : List Tagged) (pass : rules.Pass)
    (full : Pass) (outcome : Outcome) → PassServes requests start (one ∷ waiting) pass full
    → PassServes requests start waiting
    (rules.pass_answered file one waiting pass (bare_progress (try_of requests one full.progress.server).progress) outcome)
    (pass_answered file (filled requests one) (map (filled requests) waiting) full (record {
      progress = behind full.progress.outs (try_of requests one full.progress.server).progress;
      outcome = outcome;
    }))
answers_one requests start file one waiting pass full outcome p =
    let done = (try_of requests one full.progress.server).progress in
    let client = one.held.client in
    let request = requests one.tag in
    let queue = pass.passed ++ waiting in
    let left = map (filled requests) queue in
    let asked = asked_left requests one waiting pass.passed p.asked in
    let after = concluded client request (held_left file left done) outcome in
    let goes : GoesFaithfully requests one.tag (begun full.progress.server) after =
    faithful_then requests one.tag (begun full.progress.server) done after
    (tries_faithfully requests one.tag client request (begun full.progress.server))
    (faithful_then requests one.tag done (held_left file left done) after (left_faithfully requests one.tag file left done)
    (ends_faithfully requests one.tag client (held_left file left done) request outcome refl)) in
    let held : after.server.held ≡ put full.progress.server.held file left =
    concluded-held client request (held_left file left done) outcome
    ∙ ap (λ (h : ℕ → List Held). put h file left) (tried_for-held 3 client request (begun full.progress.server)) in
    let mine : concluded client one.held.request (held_left file (held_in queue)
    (bare_progress done)) outcome ≡ bare_progress after =
    ap₂ (λ (r : FileRequest) (l : List Held). concluded client r (held_left file l (bare_progress done)) outcome)
    (ap (λ (h : Held). h.request) (asked_here requests one waiting pass.passed p.asked)) (held_bare requests queue asked)
    ∙ ap (λ q. concluded client (bare_request request) q outcome) (left_so file left done)
    ∙ concluded_so client request (held_left file left done) outcome in
    let theirs : concluded client request (held_left file (full.passed ++ map (filled requests) waiting)
    (behind full.progress.outs done)) outcome ≡ behind full.progress.outs after =
    ap (λ l. concluded client request (held_left file l (behind full.progress.outs done)) outcome)
    (ap (λ l. l ++ map (filled requests) waiting) p.passed ∙ sym (map-append (filled requests) pass.passed waiting))
    ∙ ap (λ q. concluded client request q outcome) (stepped_on full.progress.outs done (held_left file left done).server [])
    ∙ concluded_on full.progress.outs client (held_left file left done) request outcome in
    record {
      passed = p.passed;
      asked = asked;
      serves = subst (λ (q : Progress). Serves requests start (queued file queue (gone_on one.tag q
          (ends (bare done.server) pass.now)))
          (concluded client request (held_left file (full.passed ++ map (filled requests) waiting)
          (behind full.progress.outs done)) outcome)) (sym mine)
          (subst (Serves requests start (queued file queue (gone_on one.tag (bare_progress after)
          (ends (bare done.server) pass.now)))) (sym theirs)
          (goes_queued requests start one.tag (ends (bare done.server) pass.now) full.progress after file queue
          (ends_serving requests start (bare done.server) pass.now full.progress p.serves) goes held asked));
      has = refl;
    }

-- one is tried
tries_one : (requests : ℕ → FileRequest) (start : Host) (file : ℕ) (one : Tagged) (waiting : List Tagged) (pass : rules.Pass)
    (full : Pass) (outcome : Outcome) → PassServes requests start (one ∷ waiting) pass full
    → PassServes requests start waiting
    (rules.after_try file one waiting pass (bare_progress (try_of requests one full.progress.server).progress) outcome)
    (after_try file (filled requests one) (map (filled requests) waiting) full
    (behind full.progress.outs (try_of requests one full.progress.server).progress) outcome)
tries_one requests start file one waiting pass full Outcome.Waits p =
    let done = (try_of requests one full.progress.server).progress in
    over_one requests start one waiting pass full (gone_on one.tag (bare_progress done)
    (ends (bare done.server) pass.now))
    (behind full.progress.outs done) p
    (goes_serving requests start one.tag (ends (bare done.server) pass.now) full.progress done
    (ends_serving requests start (bare done.server) pass.now full.progress p.serves)
    (tries_faithfully requests one.tag one.held.client (requests one.tag) (begun full.progress.server))
    (tried_for-held 3 one.held.client (requests one.tag) (begun full.progress.server)))
tries_one requests start file one waiting pass full outcome p =
    answers_one requests start file one waiting pass full outcome p

again : (requests : ℕ → FileRequest) (start : Host) (file : ℕ) (one : Tagged) (waiting : List Tagged) (pass : rules.Pass)
    (full : Pass) → PassServes requests start (one ∷ waiting) pass full
    → PassServes requests start waiting (rules.tried_again file one waiting pass)
    (tried_again file (filled requests one) (map (filled requests) waiting) full)
again requests start file one waiting pass full p =
    let manager = pass.now.manager.server in
    let is = p.serves.server.without_bytes in
    let here = asked_here requests one waiting pass.passed p.asked in
    let same : is_behind manager.rules one.held (held_in pass.passed)
    ≡ is_behind full.progress.server.rules (filled requests one) full.passed =
    ap (λ (m : Server). is_behind m.rules one.held (held_in pass.passed)) is
    ∙ behind_alike requests full.progress.server.rules one pass.passed
    ∙ ap (is_behind full.progress.server.rules (filled requests one)) (sym p.passed) in
    either (is_behind full.progress.server.rules (filled requests one) full.passed)
    (λ first.
    subst (λ (q : rules.Pass). PassServes requests start waiting q
    (tried_again file (filled requests one) (map (filled requests) waiting) full))
    (sym (ways.is_passed_over file one waiting pass (same ∙ first)))
    (subst (PassServes requests start waiting (rules.left_waiting one pass pass.now))
    (sym (server.is_passed_over file (filled requests one) (map (filled requests) waiting) full first))
    (over_one requests start one waiting pass full pass.now full.progress p p.serves)))
    (λ first.
    let done = try_of requests one full.progress.server in
    let mine : rules.tried_again file one waiting pass ≡ rules.after_try file one waiting pass
    (bare_progress done.progress) done.outcome =
    ways.is_tried file one waiting pass (same ∙ first)
    ∙ ap (λ (t : Tried). rules.after_try file one waiting pass t.progress t.outcome)
    (tried_bare requests one manager full.progress.server is here) in
    let theirs : tried_again file (filled requests one) (map (filled requests) waiting) full
    ≡ after_try file (filled requests one) (map (filled requests) waiting) full
    (behind full.progress.outs done.progress) done.outcome =
    server.is_tried file (filled requests one) (map (filled requests) waiting) full first
    ∙ ap (λ (t : Tried). after_try file (filled requests one) (map (filled requests) waiting) full t.progress t.outcome)
    (tried_fully requests one full.progress) in
    subst (λ (q : rules.Pass). PassServes requests start waiting q
    (tried_again file (filled requests one) (map (filled requests) waiting) full)) (sym mine)
    (subst (PassServes requests start waiting (rules.after_try file one waiting pass (bare_progress done.progress) done.outcome))
    (sym theirs) (tries_one requests start file one waiting pass full done.outcome p)))

over : (requests : ℕ → FileRequest) (start : Host) (file : ℕ) (waiting : List Tagged) (pass : rules.Pass) (full : Pass)
    → PassServes requests start waiting pass full
    → PassServes requests start [] (rules.pass_over file waiting pass) (pass_over file (map (filled requests) waiting) full)
unfolding rules.pass_over pass_over
over requests start file [] pass full p = p
over requests start file (one ∷ waiting) pass full p =
    over requests start file waiting (rules.tried_again file one waiting pass)
    (tried_again file (filled requests one) (map (filled requests) waiting) full)
    (again requests start file one waiting pass full p)

-- ---- passes

pass_serves : (requests : ℕ → FileRequest) (start : Host) (file : ℕ) (now : Handling) (progress : Progress)
    → Serves requests start now progress
    → PassServes requests start [] (rules.one_pass file now) (one_pass file progress)
pass_serves requests start file now progress s =
    let begun_so : Pass = record { passed = []; progress = progress; has_answered = false } in
    subst (λ held. PassServes requests start [] (rules.one_pass file now) (pass_over file held begun_so))
    (sym (s.server.waiting file))
    (over requests start file (now.manager.queues file) (record { passed = []; now = now; has_answered = false }) begun_so
    (record {
      passed = refl;
      asked = s.server.asked file;
      serves = s;
      has = refl;
    }))

count_serves : (requests : ℕ → FileRequest) (start : Host) (count file : ℕ) (now : Handling) (progress : Progress)
    → Serves requests start now progress
    → Serves requests start (rules.passes_for count file now) (passes_for count file progress)
unfolding rules.passes_for passes_for
count_serves requests start zero file now progress s = s
count_serves requests start (suc count) file now progress s =
    let p = pass_serves requests start file now progress s in
    let next = rules.one_pass file now in
    let full = one_pass file progress in
    either full.has_answered
    (λ a. subst (λ n. Serves requests start n (passes_for (suc count) file progress))
    (sym (ways.passes_on count file now (sym p.has ∙ a)))
    (subst (Serves requests start (rules.passes_for count file next.now)) (sym (server.passes_on count file progress a))
    (count_serves requests start count file next.now full.progress p.serves)))
    (λ n. subst (λ m. Serves requests start m (passes_for (suc count) file progress))
    (sym (ways.passes_stop count file now (sym p.has ∙ n)))
    (subst (Serves requests start next.now) (sym (server.passes_stop count file progress n)) p.serves))

file_serves : (requests : ℕ → FileRequest) (start : Host) (file : ℕ) (now : Handling) (progress : Progress)
    → Serves requests start now progress → Serves requests start (rules.passes file now) (passes file progress)
file_serves requests start file now progress s =
    let many = length (now.manager.queues file) + 1 in
    subst (λ count. Serves requests start (rules.passes file now) (passes_for count file progress))
    (sym (ap (λ held. length held + 1) (s.server.waiting file)
    ∙ ap (λ n. n + 1) (length-map (now.manager.queues file) (filled requests))))
    (count_serves requests start many file now progress s)

files_serve : (requests : ℕ → FileRequest) (start : Host) (files : List ℕ) (now : Handling) (progress : Progress)
    → Serves requests start now progress → Serves requests start (rules.passes_over files now) (passes_over files progress)
unfolding rules.passes_over passes_over
files_serve requests start [] now progress s = s
files_serve requests start (file ∷ files) now progress s =
    files_serve requests start files (rules.passes file now) (passes file progress)
    (file_serves requests start file now progress s)

pub all_serve : (requests : ℕ → FileRequest) (start : Host) (now : Handling) (progress : Progress)
    → Serves requests start now progress → Serves requests start (rules.all_passes now) (all_passes progress)
unfolding rules.all_passes all_passes
all_serve requests start now progress s =
    subst (λ files. Serves requests start (rules.passes_over (numbers_to files) now)
    (passes_over (numbers_to progress.server.files) progress))
    (sym (ap (λ (m : Server). m.files) s.server.without_bytes))
    (files_serve requests start (numbers_to progress.server.files) now progress s)
