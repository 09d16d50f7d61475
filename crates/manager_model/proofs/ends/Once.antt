-- Each call tells once that an open ended.
use Rattle.std.specs.List.{count_by}
use Rattle.lease_laws.proofs.Words.{◌++◌, ◌<◌, ◌==◌, ◌∙◌, ◌∷◌, ◌≡◌, ◌≤◌, Among, FileRequest, IsSound, List, Open, Outcome}
use Rattle.lease_laws.proofs.Words.{Progress, Result, Server, Status, ℕ, [], acknowledged, ap, arith, begun}
use Rattle.lease_laws.proofs.Words.{file_asked}
use Rattle.lease_laws.proofs.Words.{has_key, inl, inr, is_behind, is_breaking, is_left_behind, is_lost, join, joined, key_expired}
use Rattle.lease_laws.proofs.Words.{list_any, not, opens_dropped, refl, refused, subst, sym, true, without, Err, Ok}
use Rattle.lease_laws.proofs.Words.{eqb-true}
use Rattle.lease_laws.proofs.Words.{Bool, false, ⊤}
use Rattle.lease_laws.proofs.server.Lists.{among_filter, among_map, any_has, if_cases}
use Rattle.lease_laws.proofs.server.cases.Judgements.{any_judgement}
use Rattle.manager_model.specs.Bare.{bare_request}
use Rattle.manager_model.specs.Decisions.{Decision, told_of}
use Rattle.manager_model.specs.Ending.{EndsAreExact, is_closed, is_end, opens_of}
use Rattle.manager_model.specs.Handling.{Handling, Manager, Tagged, ended_between, gone_on, handling, is_of, is_under}
use Rattle.manager_model.specs.Handling.{is_left, left_behind, left_to_wait}
use Rattle.lease_laws.proofs.Words.{is_lost_of, is_named, map, others_broken, parted}
use Rattle.manager_model.specs.Handling.{lost, tagged_of}
use Rattle.manager_model.specs.Handling as rules
use Rattle.manager_model.specs.Hosting.{AreAsked, Coming, HasFreeTag, asked_by, managed}
use Rattle.manager_model.proofs.answers.Once.{counts_both, counts_fewer, counts_next}
use Rattle.manager_model.proofs.ends.Calls.{asked_put, passed_more}
use Rattle.manager_model.proofs.ends.Exact.{Exact, IsBehind, counted_once, counts_mapped, ended_not, ended_so}
use Rattle.manager_model.proofs.ends.Exact.{left_tells_none, others_have, ends_close_none, goes_exactly, outs_end_none, passes_exactly, refusal_closes_none}
use Rattle.manager_model.proofs.ends.Exact.{tried_between, waits_behind_try, ended_behind}
use Rattle.manager_model.proofs.hosts.Calls.{asked_more}
use Rattle.manager_model.proofs.passes.Tables.{put_here}
use Rattle.manager_model.proofs.passes.Ways.{try_of}

-- ---- a call begins

abbrev AllAsked : (ℕ → FileRequest) → (ℕ → List Tagged) → Type 0
AllAsked requests queues = (file : ℕ) (one : Tagged) → Among one (queues file)
    → one.held.request ≡ bare_request (requests one.tag)

asked_one : (requests : ℕ → FileRequest) (queue : List Tagged) → AreAsked requests queue → (one : Tagged) → Among one queue
    → one.held.request ≡ bare_request (requests one.tag)
asked_one requests [] asked one there = absurd there
asked_one requests (first ∷ queue) asked one (inl same) =
    subst (λ (o : Tagged). o.held.request ≡ bare_request (requests o.tag)) (sym same) (ap (λ h. h.request) asked.0)
asked_one requests (first ∷ queue) asked one (inr later) = asked_one requests queue asked.1 one later

-- what was asked, with what comes
asked_after : (requests : ℕ → FileRequest) (manager : Manager) (coming : Coming)
    → ((file : ℕ) → AreAsked requests (manager.queues file)) → HasFreeTag manager coming → (file : ℕ)
    → AreAsked (asked_by requests coming) (manager.queues file)
asked_after requests manager (Coming.Asks client tag request) asked free file =
    asked_more requests tag request (manager.queues file) (free file) (asked file)
asked_after requests manager (Coming.Joins client) asked free file = asked file
asked_after requests manager (Coming.Acknowledges client given) asked free file = asked file
asked_after requests manager (Coming.IsCut client) asked free file = asked file
asked_after requests manager (Coming.Expires key) asked free file = asked file
asked_after requests manager (Coming.Scavenges file_id) asked free file = asked file
asked_after requests manager (Coming.Withdraws place client tag) asked free file = asked file
asked_after requests manager (Coming.GivesUp own place extent) asked free file = asked file
asked_after requests manager (Coming.Leaves client file_ids tags) asked free file = asked file

-- a number that no open has yet
not_there : (n : ℕ) (server : Server) (one : Open) → IsSound server → server.last_id < n → Among one server.opens
    → (one.file_id == n) ≡ true → {X : Type 0} → X
not_there n server one sound later there its =
    let low = (sound.numbered one there).1 in
    let same = eqb-true one.file_id n its in absurd (omega (arith, later, low, same))

begins_exactly : (requests : ℕ → FileRequest) (n : ℕ) (manager : Manager) → IsSound manager.server
    → AllAsked requests manager.queues → Exact requests n manager.server (handling manager)
begins_exactly requests n manager sound asked = record {
  asked = asked;
  low = omega arith;
  all = λ less. omega arith;
  fresh = λ later. (refl, λ one there its. not_there n manager.server one sound later there its);
}

-- the server comes to another one, with fewer opens
comes_exactly : (requests : ℕ → FileRequest) (n : ℕ) (manager : Manager) (after : Server) (queues : ℕ → List Tagged)
    → IsSound manager.server → AllAsked requests queues → opens_of n after ≤ opens_of n manager.server
    → after.last_id ≡ manager.server.last_id
    → ((one : Open) → Among one after.opens → one.file_id ≤ manager.server.last_id)
    → Exact requests n manager.server (record {
      manager = record { server = after; queues = queues };
      told = ended_between manager.server after;
    })
comes_exactly requests n manager after queues sound asked fewer last low = record {
  asked = asked;
  low = omega (arith, last);
  all = λ less.
      let so = ended_so n manager.server after fewer (counted_once n manager.server.opens sound.in_order) in
      let none = ends_close_none requests n manager.server after in omega (arith, so, none);
  fresh = λ later. (
    ended_not n manager.server after (λ some. let x = any_has (λ (o : Open). o.file_id == n) manager.server.opens some in
        not_there n manager.server x.0 sound later x.1 x.2),
    λ one there its.
        let less = low one there in let same = eqb-true one.file_id n its in absurd (omega (arith, less, same, later)),
  );
}

-- some opens are dropped
drops_exactly : (requests : ℕ → FileRequest) (n : ℕ) (manager : Manager) (test : Open → Bool) (after : Server)
    → IsSound manager.server → AllAsked requests manager.queues
    → after.opens ≡ without test manager.server.opens → after.last_id ≡ manager.server.last_id
    → Exact requests n manager.server (rules.at_server after (handling manager))
drops_exactly requests n manager test after sound asked opens last =
    comes_exactly requests n manager after manager.queues sound asked
    (let fewer = counts_fewer (λ (o : Open). o.file_id == n) (λ (o : Open). not (test o)) manager.server.opens in
    subst (λ (l : List Open). count_by (λ (o : Open). o.file_id == n) l ≤ opens_of n manager.server) (sym opens) fewer)
    last (λ one there. (sound.numbered one (among_filter (λ (o : Open). not (test o)) one manager.server.opens
    (subst (Among one) opens there)).0).1)

-- it is told also which opens wait for their client
left_exactly : (requests : ℕ → FileRequest) (n : ℕ) (start : Server) (test : Open → Bool) (now : Handling)
    → Exact requests n start now → Exact requests n start (record {
      manager = now.manager;
      told = now.told ++ left_behind test start;
    })
left_exactly requests n start test now e =
    let none = left_tells_none requests n test start in
    let no_end = none.0 in
    let no_close = none.1 in
    let ends = counts_both (is_end n) now.told (left_behind test start) in
    let closes = counts_both (is_closed requests n) now.told (left_behind test start) in record {
      asked = e.asked;
      low = e.low;
      all = λ less. let was = e.all less in omega (arith, was, ends, closes, no_end, no_close);
      fresh = λ later. let was = e.fresh later in let before = was.0 in (omega (arith, before, ends, no_end), was.1);
    }

-- some opens are dropped, others disconnected, and some requests wait no longer
parts_exactly : (requests : ℕ → FileRequest) (n : ℕ) (manager : Manager) (lost test : Open → Bool) (gone : Tagged → Bool)
    (after : Server) → IsSound manager.server → AllAsked requests manager.queues
    → after.opens ≡ map (parted test) (without lost manager.server.opens) → after.last_id ≡ manager.server.last_id
    → Exact requests n manager.server (record {
      manager = record { server = after; queues = λ file. without gone (manager.queues file) };
      told = ended_between manager.server after ++ left_behind test manager.server;
    })
parts_exactly requests n manager lost test gone after sound asked opens last =
    let left = without lost manager.server.opens in
    left_exactly requests n manager.server test _
    (comes_exactly requests n manager after (λ file. without gone (manager.queues file)) sound
    (λ file one there. asked file one (among_filter (λ (o : Tagged). not (gone o)) one (manager.queues file) there).0)
    (let fewer = counts_fewer (λ (o : Open). o.file_id == n) (λ (o : Open). not (lost o)) manager.server.opens in
    let same = counts_mapped (λ (o : Open). o.file_id == n) (parted test) left (λ one. ap (λ m. m == n) (same_number one)) in
    subst (λ (l : List Open). count_by (λ (o : Open). o.file_id == n) l ≤ opens_of n manager.server) (sym opens)
    (omega (arith, fewer, same))) last
    (λ one there.
    let was = among_map (parted test) one left (subst (Among one) opens there) in
    let old = among_filter (λ (o : Open). not (lost o)) was.0 manager.server.opens was.1 in
    subst (λ m. m ≤ manager.server.last_id) (sym (ap (λ (o : Open). o.file_id) was.2 ∙ same_number was.0))
    (sound.numbered was.0 old.0).1))
  where
    same_number : (one : Open) → (parted test one).file_id ≡ one.file_id
    same_number one = if_cases (λ (o : Open). o.file_id ≡ one.file_id) (test one)
        (record one { connected = false }) one (λ its. refl) (λ other. refl)

-- ---- requests

told_exactly : (requests : ℕ → FileRequest) (n tag : ℕ) (start : Server) (after : Progress) (now : Handling)
    → opens_of n start ≤ 1 → IsBehind requests n tag now.manager.server after → Exact requests n start now
    → Exact requests n start (gone_on tag after now)
told_exactly requests n tag start after now most f e =
    let ends = counts_both (is_end n) now.told (told_of tag after.outs) in
    let none = outs_end_none n tag after.outs in
    let closes = counts_both (is_closed requests n) now.told (told_of tag after.outs) in record {
      asked = e.asked;
      low = let was = e.low in let last = f.last in omega (arith, was, last);
      all = λ less.
          let was = e.all less in
          let low = e.low in
          let counts = f.counts (omega (arith, less, low)) (omega (arith, was, most)) in
          omega (arith, was, counts, ends, none, closes);
      fresh = λ later. let was = e.fresh later in let before = was.0 in (omega (arith, before, ends, none), f.up was.1);
    }

waits_exactly : (requests : ℕ → FileRequest) (n place : ℕ) (start : Server) (one : Tagged) (now : Handling)
    → one.held.request ≡ bare_request (requests one.tag) → Exact requests n start now
    → Exact requests n start (left_to_wait place one now)
waits_exactly requests n place start one now own e =
    let ends = counts_both (is_end n) now.told (Decision.Waits one.held.client one.tag ∷ []) in
    let closes = counts_both (is_closed requests n) now.told (Decision.Waits one.held.client one.tag ∷ []) in record {
      asked = asked_put (λ o. o.held.request ≡ bare_request (requests o.tag)) now.manager.queues place
          (now.manager.queues place ++ one ∷ []) e.asked
          (passed_more (λ o. o.held.request ≡ bare_request (requests o.tag)) one (now.manager.queues place) own (e.asked place));
      low = e.low;
      all = λ less. let was = e.all less in omega (arith, was, ends, closes);
      fresh = λ later. let was = e.fresh later in let none = was.0 in (omega (arith, none, ends), was.1);
    }

first_exactly : (requests : ℕ → FileRequest) (n place : ℕ) (one : Tagged) (manager : Manager) (outcome : Outcome)
    → one.held.request ≡ bare_request (requests one.tag) → opens_of n manager.server ≤ 1
    → Exact requests n manager.server (handling manager) → Exact requests n manager.server
    (rules.after_first_try place one (handling manager) (try_of one (handling manager)).progress outcome)
first_exactly requests n place one manager Outcome.Waits own most e =
    let done = (try_of one (handling manager)).progress in
    waits_exactly requests n place manager.server one _ own (goes_exactly requests n one.tag manager.server done.server done
    (handling manager) most (tried_between requests n one (handling manager))
    (waits_behind_try requests n one (handling manager)) e)
first_exactly requests n place one manager outcome own most e =
    let done = (try_of one (handling manager)).progress in
    goes_exactly requests n one.tag manager.server done.server _ (handling manager) most
    (tried_between requests n one (handling manager)) (ended_behind requests n one (handling manager) outcome own) e

before_exactly : (requests : ℕ → FileRequest) (n : ℕ) (one : Tagged) (manager : Manager) (found : Result ℕ Status)
    → one.held.request ≡ bare_request (requests one.tag) → opens_of n manager.server ≤ 1
    → Exact requests n manager.server (handling manager)
    → Exact requests n manager.server (rules.arrived_before one (handling manager) found)
before_exactly requests n one manager (Err status) own most e =
    let none = refusal_closes_none requests n one.tag one.held.client one.held.request status in
    told_exactly requests n one.tag manager.server
    (refused one.held.client one.held.request status (begun manager.server)) (handling manager) most (record {
      counts = λ less few. omega (arith, none);
      last = omega arith;
      up = λ up. up;
    }) e
before_exactly requests n one manager (Ok place) own most e =
    let done = try_of one (handling manager) in
    if_cases (Exact requests n manager.server) (is_behind manager.server.rules one.held (manager.server.held place))
    (left_to_wait place one (handling manager)) (rules.after_first_try place one (handling manager) done.progress done.outcome)
    (λ behind. waits_exactly requests n place manager.server one (handling manager) own e)
    (λ first. first_exactly requests n place one manager done.outcome own most e)

arrives_exactly : (requests : ℕ → FileRequest) (n client tag : ℕ) (request : FileRequest) (manager : Manager)
    → request ≡ bare_request (requests tag) → opens_of n manager.server ≤ 1
    → Exact requests n manager.server (handling manager)
    → Exact requests n manager.server (rules.arrived tag client request (handling manager))
arrives_exactly requests n client tag (FileRequest.Close file_id) manager own most e =
    passes_exactly requests n manager.server _ most
    (before_exactly requests n (tagged_of manager.server tag client (FileRequest.Close file_id)) manager
    (file_asked manager.server client (FileRequest.Close file_id)) own most e)
arrives_exactly requests n client tag (FileRequest.Create file access share contexts) manager own most e = before_exactly requests
    n (tagged_of manager.server tag client (FileRequest.Create file access share contexts)) manager _ own most e
arrives_exactly requests n client tag (FileRequest.Read file_id) manager own most e =
    before_exactly requests n (tagged_of manager.server tag client (FileRequest.Read file_id)) manager _ own most e
arrives_exactly requests n client tag (FileRequest.Write file_id number patch) manager own most e =
    before_exactly requests n (tagged_of manager.server tag client (FileRequest.Write file_id number patch)) manager _ own most e

-- ---- any call

-- what is asked with it
IsAskedBy : (ℕ → FileRequest) → Coming → Type 0
IsAskedBy requests (Coming.Asks client tag request) = bare_request request ≡ bare_request (requests tag)
IsAskedBy requests coming = ⊤

any_exactly : (requests : ℕ → FileRequest) (n : ℕ) (manager : Manager) (coming : Coming) → IsSound manager.server
    → AllAsked requests manager.queues → IsAskedBy requests coming → Exact requests n manager.server (managed manager coming)
unfolding rules.join rules.receive rules.acknowledge rules.cut rules.expire rules.scavenge rules.withdraw rules.give_up
    rules.leave
    join IsAskedBy
any_exactly requests n manager (Coming.Joins client) sound asked own =
    if_cases (λ (p : Progress). Exact requests n manager.server (rules.at_server p.server (handling manager)))
    (manager.server.present client) (begun manager.server) (joined client (begun manager.server))
    (λ up. comes_exactly requests n manager manager.server manager.queues sound asked (omega arith) refl
    (λ one there. (sound.numbered one there).1))
    (λ down. comes_exactly requests n manager (joined client (begun manager.server)).server manager.queues sound asked
    (omega arith) refl (λ one there. (sound.numbered one there).1))
any_exactly requests n manager (Coming.Asks client tag request) sound asked own =
    let e = begins_exactly requests n manager sound asked in
    if_cases (Exact requests n manager.server) (manager.server.present client)
    (rules.arrived tag client (bare_request request) (handling manager)) (handling manager)
    (λ up. arrives_exactly requests n client tag (bare_request request) manager own
    (counted_once n manager.server.opens sound.in_order) e) (λ down. e)
any_exactly requests n manager (Coming.Acknowledges client given) sound asked own =
    let most = counted_once n manager.server.opens sound.in_order in
    let e = begins_exactly requests n manager sound asked in
    if_cases (Exact requests n manager.server) (manager.server.present client)
    (rules.all_passes (gone_on 0 (acknowledged client given (begun manager.server)) (handling manager))) (handling manager)
    (λ up. passes_exactly requests n manager.server _ most (told_exactly requests n 0 manager.server
    (acknowledged client given (begun manager.server)) (handling manager) most
    (any_judgement client (begun manager.server) (λ given after. IsBehind requests n 0 manager.server after) (record {
      failed = λ given why. record { counts = λ less few. omega arith; last = omega arith; up = λ up. up };
      ended = λ told lowered there breaks within.
          record { counts = λ less few. omega arith; last = omega arith; up = λ up. up };
    }) given) e)) (λ down. e)
any_exactly requests n manager (Coming.IsCut client) sound asked own =
    let most = counted_once n manager.server.opens sound.in_order in
    if_cases (Exact requests n manager.server) (manager.server.present client)
    (rules.all_passes (lost client (handling manager))) (handling manager)
    (λ up. passes_exactly requests n manager.server (lost client (handling manager)) most
    (parts_exactly requests n manager (is_lost manager.server client) (λ one. one.client == client) (is_of client)
    (rules.links_lost manager.server client).server sound asked refl refl))
    (λ down. begins_exactly requests n manager sound asked)
any_exactly requests n manager (Coming.Leaves client file_ids tags) sound asked own =
    let most = counted_once n manager.server.opens sound.in_order in
    if_cases (Exact requests n manager.server) (manager.server.present client)
    (rules.all_passes (rules.left client file_ids tags (handling manager))) (handling manager)
    (λ up. passes_exactly requests n manager.server (rules.left client file_ids tags (handling manager)) most
    (parts_exactly requests n manager (is_lost_of manager.server (is_named client file_ids)) (is_named client file_ids)
    (is_left client tags) _ sound asked refl refl))
    (λ down. begins_exactly requests n manager sound asked)
any_exactly requests n manager (Coming.GivesUp own place extent) sound asked from =
    let most = counted_once n manager.server.opens sound.in_order in
    let after = others_broken manager.server own place extent in
    let t = others_have requests n 0 manager.server own place extent in
    let none = t.closes in
    passes_exactly requests n manager.server _ most (goes_exactly requests n 0 manager.server after.server after
    (handling manager) most (record { fewer = t.fewer; last = t.last; up = t.up; stays = t.stays })
    (record { counts = λ less few. omega (arith, none); last = omega arith; up = λ up. up })
    (begins_exactly requests n manager sound asked))
any_exactly requests n manager (Coming.Expires key) sound asked own =
    let most = counted_once n manager.server.opens sound.in_order in
    if_cases (Exact requests n manager.server) (is_breaking (manager.server.leases key)) _ (handling manager)
    (λ breaking. passes_exactly requests n manager.server _ most (drops_exactly requests n manager (has_key key)
    (key_expired key (opens_dropped (has_key key) (begun manager.server))).server sound asked refl refl))
    (λ settled. begins_exactly requests n manager sound asked)
any_exactly requests n manager (Coming.Scavenges file_id) sound asked own =
    let most = counted_once n manager.server.opens sound.in_order in
    if_cases (Exact requests n manager.server) (list_any (is_left_behind file_id) manager.server.opens) _ (handling manager)
    (λ left. passes_exactly requests n manager.server _ most (drops_exactly requests n manager (is_left_behind file_id)
    (opens_dropped (is_left_behind file_id) (begun manager.server)).server sound asked refl refl))
    (λ none. begins_exactly requests n manager sound asked)
any_exactly requests n manager (Coming.Withdraws place client tag) sound asked own =
    let most = counted_once n manager.server.opens sound.in_order in
    let e = begins_exactly requests n manager sound asked in
    let queue = manager.queues place in
    let ends = counts_next (is_end n) (Decision.Withdrawn client tag) [] in
    let closes = counts_next (is_closed requests n) (Decision.Withdrawn client tag) [] in
    if_cases (Exact requests n manager.server) (list_any (is_under client tag) queue)
    (rules.all_passes (rules.taken_back place client tag (handling manager))) (handling manager)
    (λ some. passes_exactly requests n manager.server (rules.taken_back place client tag (handling manager)) most (record {
      asked = asked_put (λ o. o.held.request ≡ bare_request (requests o.tag)) manager.queues place
          (without (is_under client tag) queue) asked
          (λ one there. asked place one (among_filter (λ (o : Tagged). not (is_under client tag o)) one queue there).0);
      low = e.low;
      all = λ less. omega (arith, ends, closes);
      fresh = λ later. (omega (arith, ends), (e.fresh later).1);
    })) (λ none. e)

asked_now : (requests : ℕ → FileRequest) (coming : Coming) → IsAskedBy (asked_by requests coming) coming
unfolding IsAskedBy
asked_now requests (Coming.Asks client tag request) = ap bare_request (sym (put_here requests tag request))
asked_now requests (Coming.Joins client) = tt
asked_now requests (Coming.Acknowledges client given) = tt
asked_now requests (Coming.IsCut client) = tt
asked_now requests (Coming.Expires key) = tt
asked_now requests (Coming.Scavenges file_id) = tt
asked_now requests (Coming.Withdraws place client tag) = tt
asked_now requests (Coming.GivesUp own place extent) = tt
asked_now requests (Coming.Leaves client file_ids tags) = tt

pub ends_are_exact : EndsAreExact
ends_are_exact requests manager coming n sound asked free =
    let e = any_exactly (asked_by requests coming) n manager coming sound
    (λ file. asked_one (asked_by requests coming) (manager.queues file) (asked_after requests manager coming asked free file))
    (asked_now requests coming) in
    (e.all, λ later. (e.fresh later).0)
