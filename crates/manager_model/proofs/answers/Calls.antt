-- Each call answers a request once, and it waits no longer then.
use Rattle.lease_laws.proofs.Words.{◌+◌, ◌++◌, ◌==◌, ◌∙◌, ◌∷◌, ◌≡◌, ◌≤◌, Among, Err, FileRequest, List, Ok, Outcome, Progress}
use Rattle.lease_laws.proofs.Words.{Result, Server, Status, ℕ, [], ap, arith, begun, concluded, eqb-true, false, LeaseOf, eq-eqb}
use Rattle.lease_laws.proofs.Words.{file_asked, held_left, inl, inr, is_behind, is_breaking, is_left_behind, list_any, not, put}
use Rattle.lease_laws.proofs.Words.{acknowledged, append-nil, length, refl, true≢false, subst, sym, true, without, Option, Key}
use Rattle.lease_laws.proofs.Words.{refused}
use Rattle.lease_laws.proofs.Words.{Bool, Extent, Open, is_named, others_broken}
use Rattle.lease_laws.proofs.server.Lists.{clash, either, if_cases, not_true}
use Rattle.manager_model.specs.Answering.{AnswersComeOnce, IsOn, IsOnce, WaitersWereAsked, answers, is_answer, waiting_under}
use Rattle.manager_model.specs.Bare.{bare_request}
use Rattle.manager_model.specs.Decisions.{Decision, told_of}
use Rattle.manager_model.specs.Handling.{Handling, Manager, Pass, Tagged, ended_between, ends, gone_on, handling, held_in, is_of}
use Rattle.manager_model.specs.Handling.{is_left, left_behind, left_to_wait, lost, one_pass, pass_answered, tagged_of, is_under}
use Rattle.manager_model.specs.Handling as rules
use Rattle.manager_model.specs.Hosting.{Coming}
use Rattle.manager_model.proofs.answers.Once.{Counts, acknowledgments_answer_none, counts_answered, counts_both, counts_fewer}
use Rattle.manager_model.proofs.answers.Once.{counts_next, counts_still, ends_answer_none, ends_answer_once, ends_are_not_left, others_answer_none, parts_answer_none}
use Rattle.manager_model.proofs.answers.Once.{left_alike, one_if, refusal_answers, tries_answer_none}
use Rattle.lease_laws.proofs.server.cases.Ends.{IsLeft}
use Rattle.manager_model.proofs.ends.Calls.{any_tells}
use Rattle.manager_model.proofs.passes.Alike.{any_passes}
use Rattle.manager_model.proofs.passes.Enough.{InPass, in_pass}
use Rattle.manager_model.proofs.passes.Tables.{put_apart, put_here}
use Rattle.manager_model.proofs.passes.Ways.{any_pass, any_try, try_of}

-- ---- what is told of a try, after what was told

told_with : (at : ℕ) (told more last : List Decision)
    → answers at ((told ++ more) ++ last) ≡ answers at told + answers at more + answers at last
told_with at told more last =
    let one = counts_both (is_answer at) (told ++ more) last in
    let two = counts_both (is_answer at) told more in omega (arith, one, two)

try_tells_none : (at : ℕ) (one : Tagged) (now : Handling)
    → answers at (gone_on one.tag (try_of one now).progress (ends (try_of one now).progress.server now)).told
    ≡ answers at now.told
try_tells_none at one now =
    let done = (try_of one now).progress in
    let all = told_with at now.told (ended_between now.manager.server done.server) (told_of one.tag done.outs) in
    let ends = ends_answer_none at now.manager.server done.server in
    let none = tries_answer_none at one.tag one.held.client one.held.request now.manager.server in
    omega (arith, all, ends, none)

end_tells_one : (at : ℕ) (one : Tagged) (now : Handling) (ended : Server) (done : Progress) (outcome : Outcome)
    → answers at (told_of one.tag done.outs) ≡ 0
    → (IsLeft done.server one.held.client one.held.request outcome → ⊥)
    → answers at (gone_on one.tag (concluded one.held.client one.held.request done outcome) (ends ended now)).told
    ≡ answers at now.told + one_if (one.tag == at)
end_tells_one at one now ended done outcome none goes =
    let after = concluded one.held.client one.held.request done outcome in
    let all = told_with at now.told (ended_between now.manager.server ended) (told_of one.tag after.outs) in
    let ends = ends_answer_none at now.manager.server ended in
    let last = ends_answer_once at one.tag one.held.client one.held.request done outcome goes in
    omega (arith, all, ends, last, none)

-- ---- passes

record PassCounts (at : ℕ) (at_file : ℕ) (total : ℕ) (file : ℕ) (count : ℕ) (waiting : List Tagged) (pass : Pass) : Type 0 where
  within : InPass file count waiting pass
  counts : Counts at at_file total pass.now

tries_count : (at at_file total file count : ℕ) (one : Tagged) (waiting : List Tagged) (pass : Pass)
    → PassCounts at at_file total file count (one ∷ waiting) pass
    → Counts at at_file total (rules.tried_again file one waiting pass).now
tries_count at at_file total file count one waiting pass p =
    let done = (try_of one pass.now).progress in
    any_try file one waiting pass (λ after. Counts at at_file total after.now) (record {
      behind = p.counts;
      waits = counts_still at at_file total pass.now _ (try_tells_none at one pass.now) (λ other. refl) p.counts;
      answers = λ outcome is ends. counts_answered at at_file total file (one_if (one.tag == at)) pass.now
          (pass_answered file one waiting pass done outcome).now
          (end_tells_one at one pass.now done.server (held_left file (held_in (pass.passed ++ waiting)) done) outcome
          (ap (λ outs. answers at (told_of one.tag outs)) (append-nil done.outs)
          ∙ tries_answer_none at one.tag one.held.client one.held.request pass.now.manager.server)
          (λ left. ends_are_not_left 3 one.held.client one.held.request (begun pass.now.manager.server)
          (λ waits. ends (sym is ∙ waits))
          (subst (IsLeft done.server one.held.client one.held.request) (sym is)
          (left_alike one.held.client file (held_in (pass.passed ++ waiting)) done one.held.request outcome left))))
          (ap (λ queue. waiting_under at queue + one_if (one.tag == at))
          (put_here pass.now.manager.queues file (pass.passed ++ waiting))
          ∙ (let before = counts_both (λ (o : Tagged). o.tag == at) pass.passed (one ∷ waiting) in
          let next = counts_next (λ (o : Tagged). o.tag == at) one waiting in
          let after = counts_both (λ (o : Tagged). o.tag == at) pass.passed waiting in omega (arith, before, next, after))
          ∙ sym (ap (waiting_under at) p.within.queue))
          (λ other apart. put_apart pass.now.manager.queues file other (pass.passed ++ waiting) apart) p.counts;
    })

pass_counts : (at at_file total file : ℕ) (now : Handling) → Counts at at_file total now
    → Counts at at_file total (one_pass file now).now
pass_counts at at_file total file now c =
    let count = length (now.manager.queues file) in
    (any_pass file (PassCounts at at_file total file count)
    (λ one waiting pass p. record {
      within = in_pass file count one waiting pass p.within;
      counts = tries_count at at_file total file count one waiting pass p;
    })
    (now.manager.queues file) (record { passed = []; now = now; has_answered = false }) (record {
      within = record { queue = refl; left = omega arith; fewer = λ never. absurd (true≢false (sym never)) };
      counts = c;
    })).counts

passes_count : (at file total : ℕ) (now : Handling) → Counts at file total now → Counts at file total (rules.all_passes now)
passes_count at file total = any_passes (Counts at file total) (pass_counts at file total)

-- ---- a request comes, and is one more under its tag

-- it waits on its own file
waits_counts : (at file total place : ℕ) (one : Tagged) (now : Handling) → ((one.tag == at) ≡ true → place ≡ file)
    → Counts at file total now → Counts at file (total + one_if (one.tag == at)) (left_to_wait place one now)
waits_counts at file total place one now own c =
    let queues = now.manager.queues in
    let more = queues place ++ one ∷ [] in
    let told = counts_both (is_answer at) now.told (Decision.Waits one.held.client one.tag ∷ []) in
    let here : waiting_under at (put queues place more place) ≡ waiting_under at (queues place) + one_if (one.tag == at) =
    ap (waiting_under at) (put_here queues place more)
    ∙ counts_both (λ (o : Tagged). o.tag == at) (queues place) (one ∷ [])
    ∙ ap (λ n. waiting_under at (queues place) + n) (last_counts one.tag) in
    let off : (other : ℕ) → (other == file) ≡ false → (other == place) ≡ true → (one.tag == at) ≡ false =
    λ other apart there. not_true (one.tag == at)
    (λ its. clash (other == file) (rw (sym (own its)) there) apart) in record {
      all = either (file == place)
          (λ home.
          let same : waiting_under at (put queues place more file) ≡ waiting_under at (queues file) + one_if (one.tag == at) =
          subst (λ n. waiting_under at (put queues place more n) ≡ waiting_under at (queues n) + one_if (one.tag == at))
          (sym (eqb-true file place home)) here in
          let was = c.all in omega (arith, told, same, was))
          (λ away.
          let same = ap (waiting_under at) (put_apart queues place file more away) in
          let none : one_if (one.tag == at) ≡ 0 = ap one_if (not_true (one.tag == at)
          (λ its. clash (file == place) (eq-eqb file place (sym (own its))) away)) in
          let was = c.all in omega (arith, told, same, none, was));
      others = λ other apart. either (other == place)
          (λ there.
          let none : one_if (one.tag == at) ≡ 0 = ap one_if (off other apart there) in
          let before = c.others other apart in
          let same : waiting_under at (put queues place more other) ≡ waiting_under at (queues other) + one_if (one.tag == at) =
          subst (λ n. waiting_under at (put queues place more n) ≡ waiting_under at (queues n) + one_if (one.tag == at))
          (sym (eqb-true other place there)) here in omega (arith, same, none, before))
          (λ away. ap (waiting_under at) (put_apart queues place other more away) ∙ c.others other apart);
    }
  where
    last_counts : (tag : ℕ) → waiting_under at (one ∷ []) ≡ one_if (one.tag == at)
    last_counts tag = let last = counts_next (λ (o : Tagged). o.tag == at) one [] in omega (arith, last)

-- it is answered
told_counts : (at file total : ℕ) (one : Tagged) (now after : Handling)
    → answers at after.told ≡ answers at now.told + one_if (one.tag == at) → after.manager.queues ≡ now.manager.queues
    → Counts at file total now → Counts at file (total + one_if (one.tag == at)) after
told_counts at file total one now after told queues c =
    let same = λ (n : ℕ). ap (λ (q : ℕ → List Tagged). waiting_under at (q n)) queues in record {
      all = let here = same file in let was = c.all in omega (arith, told, here, was);
      others = λ other apart. same other ∙ c.others other apart;
    }

ended_counts : (at file total : ℕ) (one : Tagged) (manager : Manager) (outcome : Outcome)
    → (try_of one (handling manager)).outcome ≡ outcome → (outcome ≡ Outcome.Waits → ⊥)
    → Counts at file total (handling manager) → Counts at file (total + one_if (one.tag == at))
    (gone_on one.tag (concluded one.held.client one.held.request (try_of one (handling manager)).progress outcome)
    (ends (try_of one (handling manager)).progress.server (handling manager)))
ended_counts at file total one manager outcome is ends c =
    let done = (try_of one (handling manager)).progress in
    told_counts at file total one (handling manager) _
    (end_tells_one at one (handling manager) done.server done outcome
    (tries_answer_none at one.tag one.held.client one.held.request manager.server)
    (λ left. ends_are_not_left 3 one.held.client one.held.request (begun manager.server) (λ waits. ends (sym is ∙ waits))
    (subst (IsLeft done.server one.held.client one.held.request) (sym is) left))) refl c

first_counts : (at file total place : ℕ) (one : Tagged) (manager : Manager) (outcome : Outcome)
    → (try_of one (handling manager)).outcome ≡ outcome → ((one.tag == at) ≡ true → place ≡ file)
    → Counts at file total (handling manager) → Counts at file (total + one_if (one.tag == at))
    (rules.after_first_try place one (handling manager) (try_of one (handling manager)).progress outcome)
first_counts at file total place one manager Outcome.Waits is own c =
    waits_counts at file total place one _ own
    (counts_still at file total (handling manager) _ (try_tells_none at one (handling manager)) (λ other. refl) c)
first_counts at file total place one manager Outcome.Ready is own c =
    ended_counts at file total one manager Outcome.Ready is (λ same. absurd (cc)) c
first_counts at file total place one manager (Outcome.Refused status) is own c =
    ended_counts at file total one manager (Outcome.Refused status) is (λ same. absurd (cc)) c

before_counts : (at file total : ℕ) (one : Tagged) (manager : Manager) (found : Result ℕ Status)
    → ((one.tag == at) ≡ true → IsOn found file) → Counts at file total (handling manager)
    → Counts at file (total + one_if (one.tag == at)) (rules.arrived_before one (handling manager) found)
before_counts at file total one manager (Err status) own c =
    let told = refusal_answers at one.tag one.held.client one.held.request status in
    told_counts at file total one (handling manager)
    (gone_on one.tag (refused one.held.client one.held.request status (begun manager.server)) (handling manager))
    (omega (arith, told)) refl c
before_counts at file total one manager (Ok place) own c =
    let done = try_of one (handling manager) in
    if_cases (Counts at file (total + one_if (one.tag == at)))
    (is_behind manager.server.rules one.held (manager.server.held place))
    (left_to_wait place one (handling manager)) (rules.after_first_try place one (handling manager) done.progress done.outcome)
    (λ behind. waits_counts at file total place one (handling manager) own c)
    (λ first. first_counts at file total place one manager done.outcome refl own c)

arrives_counts : (at file total client tag : ℕ) (request : FileRequest) (manager : Manager)
    → ((tag == at) ≡ true → IsOn (file_asked manager.server client request) file) → Counts at file total (handling manager)
    → Counts at file (total + one_if (tag == at)) (rules.arrived tag client request (handling manager))
arrives_counts at file total client tag (FileRequest.Close file_id) manager own c =
    passes_count at file (total + one_if (tag == at)) _
    (before_counts at file total (tagged_of manager.server tag client (FileRequest.Close file_id)) manager
    (file_asked manager.server client (FileRequest.Close file_id)) own c)
arrives_counts at file total client tag (FileRequest.Create place access share contexts) manager own c = before_counts at file
    total (tagged_of manager.server tag client (FileRequest.Create place access share contexts)) manager _ own c
arrives_counts at file total client tag (FileRequest.Read file_id) manager own c =
    before_counts at file total (tagged_of manager.server tag client (FileRequest.Read file_id)) manager _ own c
arrives_counts at file total client tag (FileRequest.Write file_id number patch) manager own c =
    before_counts at file total (tagged_of manager.server tag client (FileRequest.Write file_id number patch)) manager _ own c

pub receives_count : (at file total client tag : ℕ) (request : FileRequest) (manager : Manager)
    → manager.server.present client ≡ true
    → ((tag == at) ≡ true → IsOn (file_asked manager.server client request) file) → Counts at file total (handling manager)
    → Counts at file (total + one_if (tag == at)) (rules.receive manager client tag request)
unfolding rules.receive
receives_count at file total client tag request manager up own c =
    rw (up) (arrives_counts at file total client tag request manager own c)

pub receives_nothing : (client tag : ℕ) (request : FileRequest) (manager : Manager) → manager.server.present client ≡ false
    → rules.receive manager client tag request ≡ handling manager
unfolding rules.receive
receives_nothing client tag request manager down = rw (down) refl

-- ---- the other calls

-- the server comes to this, and as many wait
becomes_counts : (at file total : ℕ) (manager : Manager) (after : Server) → Counts at file total (handling manager)
    → Counts at file total (rules.at_server after (handling manager))
becomes_counts at file total manager after c =
    counts_still at file total (handling manager) _ (ends_answer_none at manager.server after) (λ other. refl) c

pub joins_count : (at file total client : ℕ) (manager : Manager) → Counts at file total (handling manager)
    → Counts at file total (rules.join manager client)
unfolding rules.join
joins_count at file total client manager c = becomes_counts at file total manager _ c

pub acknowledges_count : (at file total client : ℕ) (given : Option LeaseOf) (manager : Manager)
    → Counts at file total (handling manager) → Counts at file total (rules.acknowledge manager client given)
unfolding rules.acknowledge
acknowledges_count at file total client given manager c =
    if_cases (Counts at file total) (manager.server.present client)
    (rules.all_passes (gone_on 0 (acknowledged client given (begun manager.server)) (handling manager))) (handling manager)
    (λ up. passes_count at file total _ (counts_still at file total (handling manager) _
    (acknowledgments_answer_none at client given manager.server) (λ other. refl) c)) (λ down. c)

pub expires_count : (at file total : ℕ) (key : Key) (manager : Manager) → Counts at file total (handling manager)
    → Counts at file total (rules.expire manager key)
unfolding rules.expire
expires_count at file total key manager c =
    if_cases (Counts at file total) (is_breaking (manager.server.leases key)) _ (handling manager)
    (λ breaking. passes_count at file total _ (becomes_counts at file total manager _ c)) (λ settled. c)

pub scavenges_count : (at file total file_id : ℕ) (manager : Manager) → Counts at file total (handling manager)
    → Counts at file total (rules.scavenge manager file_id)
unfolding rules.scavenge
scavenges_count at file total file_id manager c =
    if_cases (Counts at file total) (list_any (is_left_behind file_id) manager.server.opens) _ (handling manager)
    (λ left. passes_count at file total _ (becomes_counts at file total manager _ c)) (λ none. c)

-- Fewer wait on each file, and nothing is answered: on this one so many are left.
fewer_counts : (at file total left : ℕ) (now after : Handling) → answers at now.told ≡ 0 → answers at after.told ≡ 0
    → waiting_under at (after.manager.queues file) ≡ left
    → ((other : ℕ) → waiting_under at (after.manager.queues other) ≤ waiting_under at (now.manager.queues other))
    → Counts at file total now → Counts at file left after
fewer_counts at file total left now after none told here fewer c = record {
  all = omega (arith, told, here);
  others = λ other apart. let less = fewer other in let was = c.others other apart in omega (arith, less, was);
}

-- opens end, or wait for their client, and some requests wait no longer
parts_count : (at file total : ℕ) (manager : Manager) (test : Open → Bool) (gone : Tagged → Bool) (after : Server)
    → Counts at file total (handling manager)
    → Counts at file (waiting_under at (without gone (manager.queues file))) (record {
      manager = record { server = after; queues = λ other. without gone (manager.queues other) };
      told = ended_between manager.server after ++ left_behind test manager.server;
    })
parts_count at file total manager test gone after c =
    fewer_counts at file total _ (handling manager) _ refl (parts_answer_none at test manager.server after) refl
    (λ other. counts_fewer (λ (one : Tagged). one.tag == at) (λ (one : Tagged). not (gone one)) (manager.queues other)) c

pub cuts_count : (at file total client : ℕ) (manager : Manager) → manager.server.present client ≡ true
    → Counts at file total (handling manager)
    → Counts at file (waiting_under at (without (is_of client) (manager.queues file))) (rules.cut manager client)
unfolding rules.cut
cuts_count at file total client manager up c =
    rw (up) (passes_count at file _ (lost client (handling manager))
    (parts_count at file total manager (λ one. one.client == client) (is_of client)
    (rules.links_lost manager.server client).server c))

pub leaves_count : (at file total client : ℕ) (file_ids tags : List ℕ) (manager : Manager)
    → manager.server.present client ≡ true → Counts at file total (handling manager)
    → Counts at file (waiting_under at (without (is_left client tags) (manager.queues file)))
    (rules.leave manager client file_ids tags)
unfolding rules.leave
leaves_count at file total client file_ids tags manager up c =
    rw (up) (passes_count at file _ (rules.left client file_ids tags (handling manager))
    (parts_count at file total manager (is_named client file_ids) (is_left client tags) _ c))

pub leaves_nothing : (client : ℕ) (file_ids tags : List ℕ) (manager : Manager) → manager.server.present client ≡ false
    → rules.leave manager client file_ids tags ≡ handling manager
unfolding rules.leave
leaves_nothing client file_ids tags manager down = rw (down) refl

-- breaks for what other keys are to give up answer none
pub gives_up_count : (at file total : ℕ) (own : Option Key) (place : ℕ) (extent : Extent) (manager : Manager)
    → Counts at file total (handling manager) → Counts at file total (rules.give_up manager own place extent)
unfolding rules.give_up
gives_up_count at file total own place extent manager c =
    let after = others_broken manager.server own place extent in
    let all = told_with at [] (ended_between manager.server after.server) (told_of 0 after.outs) in
    let ends = ends_answer_none at manager.server after.server in
    let none = others_answer_none at 0 manager.server own place extent in
    passes_count at file total _ (counts_still at file total (handling manager) (gone_on 0 after
    (rules.ends after.server (handling manager))) (omega (arith, all, ends, none)) (λ other. refl) c)

pub cuts_nothing : (client : ℕ) (manager : Manager) → manager.server.present client ≡ false
    → rules.cut manager client ≡ handling manager
unfolding rules.cut
cuts_nothing client manager down = rw (down) refl

left_fewer : (at file place client tag : ℕ) (manager : Manager)
    → waiting_under at (put manager.queues place (without (is_under client tag) (manager.queues place)) file)
    ≤ waiting_under at (manager.queues file)
left_fewer at file place client tag manager =
    let left = without (is_under client tag) (manager.queues place) in
    either (file == place)
    (λ there. subst (λ n. waiting_under at (put manager.queues place left n) ≤ waiting_under at (manager.queues n))
    (sym (eqb-true file place there))
    (let here = ap (waiting_under at) (put_here manager.queues place left) in
    let fewer = counts_fewer (λ (one : Tagged). one.tag == at) (λ (one : Tagged). not (is_under client tag one))
    (manager.queues place) in omega (arith, here, fewer)))
    (λ apart. let same = ap (waiting_under at) (put_apart manager.queues place file left apart) in omega (arith, same))

pub withdraws_count : (at file total place client tag : ℕ) (manager : Manager)
    → list_any (is_under client tag) (manager.queues place) ≡ true → Counts at file total (handling manager)
    → Counts at file (waiting_under at (put manager.queues place (without (is_under client tag) (manager.queues place)) file))
    (rules.withdraw manager place client tag)
unfolding rules.withdraw
withdraws_count at file total place client tag manager some c =
    let left = without (is_under client tag) (manager.queues place) in
    let after = rules.taken_back place client tag (handling manager) in
    rw (some) (passes_count at file _ after (fewer_counts at file total _ (handling manager) after refl refl refl
    (λ other. left_fewer at other place client tag manager) c))

pub withdraws_nothing : (place client tag : ℕ) (manager : Manager)
    → list_any (is_under client tag) (manager.queues place) ≡ false
    → rules.withdraw manager place client tag ≡ handling manager
unfolding rules.withdraw
withdraws_nothing place client tag manager none = rw (none) refl

-- ---- any call

pub counts_at_first : (at : ℕ) (manager : Manager) (once : IsOnce at (handling manager))
    → Counts at once.file (waiting_under at (manager.queues once.file)) (handling manager)
counts_at_first at manager once = record { all = omega arith; others = once.others }

-- so many, which are no more than one
at_most_once : (at file total : ℕ) (now : Handling) → Counts at file total now → total ≤ 1 → IsOnce at now
at_most_once at file total now c most = record {
  file = file;
  once = let all = c.all in omega (arith, all, most);
  others = c.others;
}

-- as many as at first
as_at_first : (at : ℕ) (manager : Manager) (after : Handling) (once : IsOnce at (handling manager))
    → Counts at once.file (waiting_under at (manager.queues once.file)) after → IsOnce at after
as_at_first at manager after once c = let most = once.once in at_most_once at _ _ after c (omega (arith, most))

-- none waits under the tag
pub none_under : (tag : ℕ) (queue : List Tagged) → ((one : Tagged) → Among one queue → (one.tag == tag) ≡ false)
    → waiting_under tag queue ≡ 0
none_under tag [] free = refl
none_under tag (one ∷ queue) free =
    let none = none_under tag queue (λ other later. free other (inr later)) in
    let first = free one (inl refl) in rw (first) none

pub counts_none : (at file : ℕ) (manager : Manager)
    → ((other : ℕ) (one : Tagged) → Among one (manager.queues other) → (one.tag == at) ≡ false)
    → Counts at file 0 (handling manager)
counts_none at file manager free = record {
  all = let none = none_under at (manager.queues file) (free file) in omega (arith, none);
  others = λ other apart. none_under at (manager.queues other) (free other);
}

-- of a file that the request names, or of any
some_file : (found : Result ℕ Status) → (file : ℕ) × IsOn found file
some_file (Ok file) = (file, refl)
some_file (Err status) = (0, tt)

pub answers_come_once : AnswersComeOnce
answers_come_once manager (Coming.Joins client) once free at =
    as_at_first at manager _ (once at) (joins_count at _ _ client manager (counts_at_first at manager (once at)))
answers_come_once manager (Coming.Asks client tag request) once free at =
    let bare = bare_request request in
    either (manager.server.present client)
    (λ up. either (tag == at)
    (λ its. let place = some_file (file_asked manager.server client bare) in
    at_most_once at place.0 _ _ (receives_count at place.0 0 client tag bare manager up (λ e. place.1)
    (counts_none at place.0 manager (λ file one there. subst (λ n. (one.tag == n) ≡ false) (eqb-true tag at its)
    (free file one there))))
    (let one : one_if (tag == at) ≡ 1 = ap one_if its in omega (arith, one)))
    (λ off. let most = (once at).once in
    at_most_once at _ _ _ (receives_count at _ _ client tag bare manager up (λ e. clash (tag == at) e off)
    (counts_at_first at manager (once at)))
    (let none : one_if (tag == at) ≡ 0 = ap one_if off in omega (arith, none, most))))
    (λ down. subst (IsOnce at) (sym (receives_nothing client tag bare manager down)) (once at))
answers_come_once manager (Coming.Acknowledges client given) once free at =
    as_at_first at manager _ (once at) (acknowledges_count at _ _ client given manager (counts_at_first at manager (once at)))
answers_come_once manager (Coming.IsCut client) once free at =
    either (manager.server.present client)
    (λ up.
    let file = (once at).file in
    let fewer = counts_fewer (λ (one : Tagged). one.tag == at) (λ (one : Tagged). not (is_of client one)) (manager.queues file) in
    let most = (once at).once in
    at_most_once at _ _ _ (cuts_count at file _ client manager up (counts_at_first at manager (once at)))
    (omega (arith, fewer, most)))
    (λ down. subst (IsOnce at) (sym (cuts_nothing client manager down)) (once at))
answers_come_once manager (Coming.Expires key) once free at =
    as_at_first at manager _ (once at) (expires_count at _ _ key manager (counts_at_first at manager (once at)))
answers_come_once manager (Coming.Scavenges file_id) once free at =
    as_at_first at manager _ (once at) (scavenges_count at _ _ file_id manager (counts_at_first at manager (once at)))
answers_come_once manager (Coming.GivesUp own place extent) once free at =
    as_at_first at manager _ (once at) (gives_up_count at _ _ own place extent manager (counts_at_first at manager (once at)))
answers_come_once manager (Coming.Leaves client file_ids tags) once free at =
    either (manager.server.present client)
    (λ up.
    let file = (once at).file in
    let fewer = counts_fewer (λ (one : Tagged). one.tag == at) (λ (one : Tagged). not (is_left client tags one))
    (manager.queues file) in
    let most = (once at).once in
    at_most_once at _ _ _ (leaves_count at file _ client file_ids tags manager up (counts_at_first at manager (once at)))
    (omega (arith, fewer, most)))
    (λ down. subst (IsOnce at) (sym (leaves_nothing client file_ids tags manager down)) (once at))
answers_come_once manager (Coming.Withdraws place client tag) once free at =
    either (list_any (is_under client tag) (manager.queues place))
    (λ some.
    let file = (once at).file in
    let most = (once at).once in
    let fewer = left_fewer at file place client tag manager in
    at_most_once at _ _ _ (withdraws_count at file _ place client tag manager some (counts_at_first at manager (once at)))
    (omega (arith, fewer, most)))
    (λ none. subst (IsOnce at) (sym (withdraws_nothing place client tag manager none)) (once at))

pub waiters_were_asked : WaitersWereAsked
waiters_were_asked manager coming file one there = (any_tells manager coming).asked file one there
