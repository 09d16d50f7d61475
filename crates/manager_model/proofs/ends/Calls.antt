-- Each call of a manager tells of the opens that end.
use Rattle.lease_laws.proofs.Words.{◌++◌, ◌==◌, ◌∷◌, ◌≡◌, Among, Err, FileRequest, Key, LeaseOf, List, Ok, Open, Option, Outcome}
use Rattle.lease_laws.proofs.Words.{Progress, Result, Server, Status, ℕ, ⊎_elim, [], acknowledged, begun, concluded, false}
use Rattle.lease_laws.proofs.Words.{held_left, inl, inr, is_behind, is_breaking, is_left_behind, join, list_any, not}
use Rattle.lease_laws.proofs.Words.{put, refl, refused, subst, sym, true, without}
use Rattle.lease_laws.proofs.server.Lists.{among_append, among_filter, clash, if_cases}
use Rattle.lease_laws.proofs.server.cases.Judgements.{any_judgement}
use Rattle.lease_model.specs.server.Calls.{file_asked}
use Rattle.manager_model.specs.Bare.{bare_request}
use Rattle.manager_model.specs.Decisions.{Decision, told_of}
use Rattle.manager_model.specs.Ending.{EndsAreTold, IsToldOf, Waited, WasAsked}
use Rattle.manager_model.specs.Handling.{Handling, Manager, Pass, Tagged, ended_between, ends, gone_on, handling, is_of}
use Rattle.manager_model.specs.Handling.{is_left, is_open, is_under, left_behind}
use Rattle.lease_laws.proofs.Words.{Bool, Extent, is_named, others_broken}
use Rattle.manager_model.specs.Handling.{held_in, left_to_wait, lost, one_pass, tagged_of}
use Rattle.manager_model.specs.Handling as rules
use Rattle.manager_model.specs.Hosting.{Coming, managed}
use Rattle.manager_model.proofs.ends.Told.{AreTold, answers_told, begins_told, ends_told, has_number, told_more}
use Rattle.manager_model.proofs.passes.Alike.{any_passes}
use Rattle.manager_model.proofs.passes.Ways.{any_pass, any_try, try_of}

-- A call under way: what waits was asked, and of each open that is no more its host is told.
pub record Tells (Asked : Tagged → Type 0) (start : Server) (now : Handling) : Type 0 where
  pub asked : (file : ℕ) (one : Tagged) → Among one (now.manager.queues file) → Asked one
  pub told : AreTold Asked start now.told now.manager.server

-- ---- passes

pub asked_put : (Asked : Tagged → Type 0) (queues : ℕ → List Tagged) (file : ℕ) (queue : List Tagged)
    → ((at : ℕ) (one : Tagged) → Among one (queues at) → Asked one) → ((one : Tagged) → Among one queue → Asked one)
    → (at : ℕ) (one : Tagged) → Among one (put queues file queue at) → Asked one
unfolding put
asked_put Asked queues file queue all these at = if_cases (λ (l : List Tagged). (one : Tagged) → Among one l → Asked one)
    (at == file) queue (queues at) (λ here. these) (λ apart. all at)

-- a pass under way
pub record PassTells (Asked : Tagged → Type 0) (start : Server) (waiting : List Tagged) (pass : Pass) : Type 0 where
  pub passed : (one : Tagged) → Among one pass.passed → Asked one
  pub waits : (one : Tagged) → Among one waiting → Asked one
  pub tells : Tells Asked start pass.now

pub passed_more : (Asked : Tagged → Type 0) (one : Tagged) (passed : List Tagged) → Asked one
    → ((other : Tagged) → Among other passed → Asked other) → (other : Tagged) → Among other (passed ++ one ∷ []) → Asked other
passed_more Asked one passed asked all other there = ⊎_elim (all other)
    (λ last. ⊎_elim (λ same. subst Asked (sym same) asked) (λ never. absurd never) last)
    (among_append other passed (one ∷ []) there)

tries_tell : (Asked : Tagged → Type 0) (start : Server) (file : ℕ) (one : Tagged) (waiting : List Tagged) (pass : Pass)
    → PassTells Asked start (one ∷ waiting) pass → PassTells Asked start waiting (rules.tried_again file one waiting pass)
tries_tell Asked start file one waiting pass p =
    let done = (try_of one pass.now).progress in
    let here = p.waits one (inl refl) in
    let after = ends_told Asked start pass.now.manager.server done.server pass.now.told p.tells.told in
    any_try file one waiting pass (PassTells Asked start waiting) (record {
      behind = record {
        passed = passed_more Asked one pass.passed here p.passed;
        waits = λ other there. p.waits other (inr there);
        tells = p.tells;
      };
      waits = record {
        passed = passed_more Asked one pass.passed here p.passed;
        waits = λ other there. p.waits other (inr there);
        tells = record {
          asked = p.tells.asked;
          told = λ other there. ⊎_elim (λ stays. inl stays)
              (λ told. inr (told_more Asked _ (told_of one.tag done.outs) other.file_id told)) (after other there);
        };
      };
      answers = λ outcome is ends. record {
        passed = p.passed;
        waits = λ other there. p.waits other (inr there);
        tells = record {
          asked = asked_put Asked pass.now.manager.queues file (pass.passed ++ waiting) p.tells.asked
              (λ other there. ⊎_elim (p.passed other) (λ later. p.waits other (inr later))
              (among_append other pass.passed waiting there));
          told = answers_told Asked start one one.held.request
              (pass.now.told ++ ended_between pass.now.manager.server done.server)
              (held_left file (held_in (pass.passed ++ waiting)) done) outcome here refl after;
        };
      };
    })

pass_tells : (Asked : Tagged → Type 0) (start : Server) (file : ℕ) (now : Handling) → Tells Asked start now
    → Tells Asked start (one_pass file now).now
pass_tells Asked start file now t = (any_pass file (PassTells Asked start) (tries_tell Asked start file)
    (now.manager.queues file) (record { passed = []; now = now; has_answered = false })
    (record { passed = λ one never. absurd never; waits = t.asked file; tells = t })).tells

passes_tell : (Asked : Tagged → Type 0) (start : Server) (now : Handling) → Tells Asked start now
    → Tells Asked start (rules.all_passes now)
passes_tell Asked start = any_passes (Tells Asked start) (pass_tells Asked start)

-- ---- a call begins

begins_tell : (Asked : Tagged → Type 0) (manager : Manager) → ((one : Tagged) → Waited manager one → Asked one)
    → Tells Asked manager.server (handling manager)
begins_tell Asked manager asked = record {
  asked = λ file one there. asked one (file, there);
  told = begins_told Asked manager.server;
}

-- the server comes to this, and the same waits, or less
comes_to : (Asked : Tagged → Type 0) (manager : Manager) (after : Server) (queues : ℕ → List Tagged)
    → ((file : ℕ) (one : Tagged) → Among one (queues file) → Asked one)
    → Tells Asked manager.server (record {
      manager = record { server = after; queues = queues };
      told = ended_between manager.server after;
    })
comes_to Asked manager after queues asked = record {
  asked = asked;
  told = ends_told Asked manager.server manager.server after [] (begins_told Asked manager.server);
}

-- and which opens wait for their client
parts_tell : (Asked : Tagged → Type 0) (manager : Manager) (test : Open → Bool) (after : Server) (queues : ℕ → List Tagged)
    → ((file : ℕ) (one : Tagged) → Among one (queues file) → Asked one)
    → Tells Asked manager.server (record {
      manager = record { server = after; queues = queues };
      told = ended_between manager.server after ++ left_behind test manager.server;
    })
parts_tell Asked manager test after queues asked = record {
  asked = asked;
  told = λ other there. ⊎_elim (λ stays. inl stays)
      (λ told. inr (told_more Asked (ended_between manager.server after) (left_behind test manager.server) other.file_id told))
      ((comes_to Asked manager after queues asked).told other there);
}

-- ---- requests

waits_tells : (Asked : Tagged → Type 0) (start : Server) (file : ℕ) (one : Tagged) (now : Handling) → Asked one
    → Tells Asked start now → Tells Asked start (left_to_wait file one now)
waits_tells Asked start file one now here t = record {
  asked = asked_put Asked now.manager.queues file (now.manager.queues file ++ one ∷ []) t.asked
      (passed_more Asked one (now.manager.queues file) here (t.asked file));
  told = λ other there. ⊎_elim (λ stays. inl stays)
      (λ told. inr (told_more Asked now.told (Decision.Waits one.held.client one.tag ∷ []) other.file_id told))
      (t.told other there);
}

-- the first try of a request
first_tells : (Asked : Tagged → Type 0) (manager : Manager) (file : ℕ) (one : Tagged) (outcome : Outcome) → Asked one
    → Tells Asked manager.server (handling manager)
    → Tells Asked manager.server (rules.after_first_try file one (handling manager)
    (try_of one (handling manager)).progress outcome)
first_tells Asked manager file one outcome here t =
    let done = (try_of one (handling manager)).progress in
    let after = ends_told Asked manager.server manager.server done.server [] t.told in
    ended outcome
    (waits_tells Asked manager.server file one (gone_on one.tag done (ends done.server (handling manager))) here (record {
      asked = t.asked;
      told = λ other there. ⊎_elim (λ stays. inl stays)
          (λ told. inr (told_more Asked _ (told_of one.tag done.outs) other.file_id told)) (after other there);
    }))
    (λ outcome. record {
      asked = t.asked;
      told = answers_told Asked manager.server one one.held.request (ended_between manager.server done.server) done outcome here
          refl after;
    })
  where
    ended : (outcome : Outcome)
        → Tells Asked manager.server (left_to_wait file one (gone_on one.tag (try_of one (handling manager)).progress
        (ends (try_of one (handling manager)).progress.server (handling manager))))
        → ((outcome : Outcome) → Tells Asked manager.server (gone_on one.tag
        (concluded one.held.client one.held.request (try_of one (handling manager)).progress outcome)
        (ends (try_of one (handling manager)).progress.server (handling manager))))
        → Tells Asked manager.server (rules.after_first_try file one (handling manager)
        (try_of one (handling manager)).progress outcome)
    ended Outcome.Waits waits answers = waits
    ended outcome waits answers = answers outcome

before_tells : (Asked : Tagged → Type 0) (manager : Manager) (one : Tagged) (found : Result ℕ Status) → Asked one
    → Tells Asked manager.server (handling manager)
    → Tells Asked manager.server (rules.arrived_before one (handling manager) found)
before_tells Asked manager one (Err status) here t = record {
  asked = t.asked;
  told = λ other there. ⊎_elim (λ stays. inl stays) (λ told. inr (told_more Asked []
      (told_of one.tag (refused one.held.client one.held.request status (begun manager.server)).outs) other.file_id told))
      (t.told other there);
}
before_tells Asked manager one (Ok file) here t =
    let done = try_of one (handling manager) in
    if_cases (Tells Asked manager.server) (is_behind manager.server.rules one.held (manager.server.held file))
    (left_to_wait file one (handling manager)) (rules.after_first_try file one (handling manager) done.progress done.outcome)
    (λ behind. waits_tells Asked manager.server file one (handling manager) here t)
    (λ first. first_tells Asked manager file one done.outcome here t)

arrives_tells : (Asked : Tagged → Type 0) (manager : Manager) (client tag : ℕ) (request : FileRequest)
    → Asked (tagged_of manager.server tag client request) → Tells Asked manager.server (handling manager)
    → Tells Asked manager.server (rules.arrived tag client request (handling manager))
arrives_tells Asked manager client tag (FileRequest.Close file_id) here t =
    let one = tagged_of manager.server tag client (FileRequest.Close file_id) in
    passes_tell Asked manager.server _
    (before_tells Asked manager one (file_asked manager.server client (FileRequest.Close file_id)) here t)
arrives_tells Asked manager client tag (FileRequest.Create file access share contexts) here t =
    before_tells Asked manager (tagged_of manager.server tag client (FileRequest.Create file access share contexts)) _ here t
arrives_tells Asked manager client tag (FileRequest.Read file_id) here t =
    before_tells Asked manager (tagged_of manager.server tag client (FileRequest.Read file_id)) _ here t
arrives_tells Asked manager client tag (FileRequest.Write file_id number patch) here t =
    before_tells Asked manager (tagged_of manager.server tag client (FileRequest.Write file_id number patch)) _ here t

receives_tell : (Asked : Tagged → Type 0) (manager : Manager) (client tag : ℕ) (request : FileRequest)
    → Asked (tagged_of manager.server tag client request) → Tells Asked manager.server (handling manager)
    → Tells Asked manager.server (rules.receive manager client tag request)
unfolding rules.receive
receives_tell Asked manager client tag request here t = if_cases (Tells Asked manager.server) (manager.server.present client)
    (rules.arrived tag client request (handling manager)) (handling manager)
    (λ up. arrives_tells Asked manager client tag request here t) (λ down. t)

same_opens : (client : ℕ) (given : Option LeaseOf) (progress : Progress)
    → (acknowledged client given progress).server.opens ≡ progress.server.opens
same_opens client given progress = any_judgement client progress (λ given after. after.server.opens ≡ progress.server.opens)
    (record { failed = λ given why. refl; ended = λ told lowered there breaks within. refl }) given

acknowledges_tell : (Asked : Tagged → Type 0) (manager : Manager) (client : ℕ) (given : Option LeaseOf)
    → Tells Asked manager.server (handling manager) → Tells Asked manager.server (rules.acknowledge manager client given)
unfolding rules.acknowledge
acknowledges_tell Asked manager client given t =
    let after = acknowledged client given (begun manager.server) in
    if_cases (Tells Asked manager.server) (manager.server.present client)
    (rules.all_passes (gone_on 0 after (handling manager))) (handling manager)
    (λ up. passes_tell Asked manager.server _ (record {
      asked = t.asked;
      told = λ other there. ⊎_elim
          (λ stays. inl (subst (λ (opens : List Open). has_number opens other.file_id ≡ true)
          (sym (same_opens client given (begun manager.server))) stays))
          (λ told. inr (told_more Asked [] (told_of 0 after.outs) other.file_id told)) (t.told other there);
    }))
    (λ down. t)

-- ---- connections and timers

cuts_tell : (Asked : Tagged → Type 0) (manager : Manager) (client : ℕ)
    → Tells Asked manager.server (handling manager) → Tells Asked manager.server (rules.cut manager client)
unfolding rules.cut
cuts_tell Asked manager client t = if_cases (Tells Asked manager.server) (manager.server.present client)
    (rules.all_passes (lost client (handling manager))) (handling manager)
    (λ up. passes_tell Asked manager.server _ (parts_tell Asked manager (λ one. one.client == client)
    (rules.links_lost manager.server client).server (λ file. without (is_of client) (manager.queues file))
    (λ file one there. t.asked file one
    (among_filter (λ (one : Tagged). not (is_of client one)) one (manager.queues file) there).0)))
    (λ down. t)

leaves_tell : (Asked : Tagged → Type 0) (manager : Manager) (client : ℕ) (file_ids tags : List ℕ)
    → Tells Asked manager.server (handling manager) → Tells Asked manager.server (rules.leave manager client file_ids tags)
unfolding rules.leave
leaves_tell Asked manager client file_ids tags t = if_cases (Tells Asked manager.server) (manager.server.present client)
    (rules.all_passes (rules.left client file_ids tags (handling manager))) (handling manager)
    (λ up. passes_tell Asked manager.server (rules.left client file_ids tags (handling manager)) (parts_tell Asked manager
    (is_named client file_ids) _ (λ file. without (is_left client tags) (manager.queues file))
    (λ file one there. t.asked file one
    (among_filter (λ (one : Tagged). not (is_left client tags one)) one (manager.queues file) there).0)))
    (λ down. t)

gives_up_tell : (Asked : Tagged → Type 0) (manager : Manager) (own : Option Key) (file : ℕ) (extent : Extent)
    → Tells Asked manager.server (handling manager) → Tells Asked manager.server (rules.give_up manager own file extent)
unfolding rules.give_up
gives_up_tell Asked manager own file extent t =
    let after = others_broken manager.server own file extent in
    let ended = ends_told Asked manager.server manager.server after.server [] t.told in
    passes_tell Asked manager.server _ (record {
      asked = t.asked;
      told = λ other there. ⊎_elim (λ stays. inl stays)
          (λ told. inr (told_more Asked _ (told_of 0 after.outs) other.file_id told)) (ended other there);
    })

expires_tell : (Asked : Tagged → Type 0) (manager : Manager) (key : Key)
    → Tells Asked manager.server (handling manager) → Tells Asked manager.server (rules.expire manager key)
unfolding rules.expire
expires_tell Asked manager key t = if_cases (Tells Asked manager.server) (is_breaking (manager.server.leases key)) _
    (handling manager) (λ breaking. passes_tell Asked manager.server _ (comes_to Asked manager _ manager.queues t.asked))
    (λ settled. t)

scavenges_tell : (Asked : Tagged → Type 0) (manager : Manager) (file_id : ℕ)
    → Tells Asked manager.server (handling manager) → Tells Asked manager.server (rules.scavenge manager file_id)
unfolding rules.scavenge
scavenges_tell Asked manager file_id t = if_cases (Tells Asked manager.server)
    (list_any (is_left_behind file_id) manager.server.opens) _ (handling manager)
    (λ left. passes_tell Asked manager.server _ (comes_to Asked manager _ manager.queues t.asked)) (λ none. t)

joins_tell : (Asked : Tagged → Type 0) (manager : Manager) (client : ℕ)
    → Tells Asked manager.server (handling manager) → Tells Asked manager.server (rules.join manager client)
unfolding rules.join
joins_tell Asked manager client t = comes_to Asked manager (join manager.server client).server manager.queues t.asked

withdraws_tell : (Asked : Tagged → Type 0) (manager : Manager) (file client tag : ℕ)
    → Tells Asked manager.server (handling manager) → Tells Asked manager.server (rules.withdraw manager file client tag)
unfolding rules.withdraw
withdraws_tell Asked manager file client tag t =
    let left = without (is_under client tag) (manager.queues file) in
    if_cases (Tells Asked manager.server) (list_any (is_under client tag) (manager.queues file)) _ (handling manager)
    (λ there. passes_tell Asked manager.server _ (record {
      asked = asked_put Asked manager.queues file left t.asked (λ one w. t.asked file one
          (among_filter (λ (one : Tagged). not (is_under client tag one)) one (manager.queues file) w).0);
      told = λ other w. ⊎_elim (λ stays. inl stays)
          (λ told. inr (told_more Asked [] (Decision.Withdrawn client tag ∷ []) other.file_id told)) (t.told other w);
    }))
    (λ none. t)

-- ---- any of them

pub any_tells : (manager : Manager) (coming : Coming) → Tells (WasAsked manager coming) manager.server (managed manager coming)
any_tells manager (Coming.Joins client) = joins_tell _ manager client (begins_tell _ manager (λ one w. inl w))
any_tells manager (Coming.Asks client tag request) = receives_tell _ manager client tag (bare_request request)
    (inr (request, refl, refl)) (begins_tell _ manager (λ one w. inl w))
any_tells manager (Coming.Acknowledges client given) =
    acknowledges_tell _ manager client given (begins_tell _ manager (λ one w. inl w))
any_tells manager (Coming.IsCut client) = cuts_tell _ manager client (begins_tell _ manager (λ one w. inl w))
any_tells manager (Coming.Expires key) = expires_tell _ manager key (begins_tell _ manager (λ one w. inl w))
any_tells manager (Coming.Scavenges file_id) = scavenges_tell _ manager file_id (begins_tell _ manager (λ one w. inl w))
any_tells manager (Coming.GivesUp own file extent) =
    gives_up_tell _ manager own file extent (begins_tell _ manager (λ one w. inl w))
any_tells manager (Coming.Leaves client file_ids tags) =
    leaves_tell _ manager client file_ids tags (begins_tell _ manager (λ one w. inl w))
any_tells manager (Coming.Withdraws file client tag) =
    withdraws_tell _ manager file client tag (begins_tell _ manager (λ one w. inl w))

gone_is_told : (Asked : Tagged → Type 0) (start : Server) (now : Handling) (one : Open) → Tells Asked start now
    → Among one start.opens → is_open now.manager.server one ≡ false → IsToldOf Asked now.told one.file_id
gone_is_told Asked start now one t there gone =
    ⊎_elim (λ stays. clash (is_open now.manager.server one) stays gone) (λ told. told) (t.told one there)

pub ends_are_told : EndsAreTold
ends_are_told manager coming one = gone_is_told (WasAsked manager coming) manager.server (managed manager coming) one
    (any_tells manager coming)
