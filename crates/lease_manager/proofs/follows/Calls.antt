-- Calls of a manager, and of its server.
use Rattle.lease_laws.proofs.Words.{◌∙◌, ◌≡◌, Bool, Err, FileRequest, Held, Key, LeaseOf, List, Ok, Option, Outcome}
use Rattle.lease_laws.proofs.Words.{Progress, Request, Result, Server, Status, ℕ, [], acknowledged, after_first_try, ap, arrived}
use Rattle.lease_laws.proofs.Words.{arrived_before, as_held, begun, concluded, cut, expire, false, file_asked, map}
use Rattle.lease_laws.proofs.Words.{file_request_arrived, has_key, has_marked, held_left, if◌then◌else◌, is_behind, is_breaking}
use Rattle.lease_laws.proofs.Words.{is_left_behind, join, joined, key_expired, list_any, not, opens_dropped, receive, refl}
use Rattle.lease_laws.proofs.Words.{all_passes, ◌==◌, refused, scavenge, subst, sym, tried, true, unmarked, withdraw, without}
use Rattle.lease_laws.proofs.server.Arrivals.{acknowledged-held}
use Rattle.lease_laws.proofs.Words.{Extent, fun_ext, give_up, is_named, leave, others_broken, others_wants, requests_left}
use Rattle.lease_laws.proofs.server.Held.{SameHeld, concluded-held, tried_for-held, tries_hold}
use Rattle.lease_laws.proofs.server.cases.Tries.{any_meeting}
use Rattle.lease_laws.proofs.server.Lists.{if_cases}
use Rattle.lease_model.specs.server.Calls.{first_tried}
use Rattle.manager_model.specs.Handling.{Manager, Tagged, at_server, ends, gone_on, handling, held_in, is_under}
use Rattle.manager_model.specs.Handling.{IsTagged, is_left, lost, opens_left, parts_left, tagged_of}
use Rattle.manager_model.specs.Handling as rules
use Rattle.manager_model.specs.Hosting.{Coming}
use Rattle.manager_model.proofs.bytes.Steps.{filter_map, marked_map, marks_find, marks_leave, unmarked_map}
use Rattle.lease_manager.specs.Calls.{GoesAs, ManagersAreServers}
use Rattle.lease_manager.proofs.follows.Passes.{all_follow}
use Rattle.lease_manager.proofs.follows.Steps.{becomes, begins, ends_following, goes_following, parts_unsaid, queues_held}
use Rattle.lease_manager.proofs.follows.Steps.{waits_following}

-- to choose alike by a test
both_so : {X Y : Type 0} (P : X → Y → Type 0) (b : Bool) (x other : X) (y another : Y) → (b ≡ true → P x y)
    → (b ≡ false → P other another) → P (if b then x else other) (if b then y else another)
both_so P true x other y another yes_so no_so = yes_so refl
both_so P false x other y another yes_so no_so = no_so refl

-- ---- a request comes

-- what the first try comes to
ends_first : (manager : Manager) (tag client : ℕ) (request : FileRequest) (outcome : Outcome) → IsTagged manager
    → GoesAs (gone_on tag (concluded client request (tried client request (begun manager.server)).progress outcome)
    (ends (tried client request (begun manager.server)).progress.server (handling manager)))
    (concluded client request (tried client request (begun manager.server)).progress outcome)
ends_first manager tag client request outcome tagged =
    let done = (tried client request (begun manager.server)).progress in
    goes_following tag (ends done.server (handling manager)) (begun manager.server) (concluded client request done outcome)
    (ends_following done.server (handling manager) (begun manager.server) (begins manager tagged))
    (concluded-held client request done outcome ∙ tried_for-held 3 client request (begun manager.server))

first_follows : (manager : Manager) (tag client file : ℕ) (request : FileRequest) (outcome : Outcome) → IsTagged manager
    → GoesAs (rules.after_first_try file (tagged_of manager.server tag client request) (handling manager)
    (tried client request (begun manager.server)).progress outcome)
    (after_first_try file (as_held manager.server client request) (tried client request (begun manager.server)).progress outcome)
first_follows manager tag client file request Outcome.Waits tagged =
    let done = (tried client request (begun manager.server)).progress in
    let now = ends done.server (handling manager) in
    waits_following file (tagged_of manager.server tag client request) (gone_on tag done now) done
    (goes_following tag now (begun manager.server) done
    (ends_following done.server (handling manager) (begun manager.server) (begins manager tagged))
    (tried_for-held 3 client request (begun manager.server)))
first_follows manager tag client file request outcome tagged = ends_first manager tag client request outcome tagged

before_follows : (manager : Manager) (tag client : ℕ) (request : FileRequest) (found : Result ℕ Status) → IsTagged manager
    → GoesAs (rules.arrived_before (tagged_of manager.server tag client request) (handling manager) found)
    (arrived_before (as_held manager.server client request) (begun manager.server) found)
before_follows manager tag client request (Err status) tagged =
    goes_following tag (handling manager) (begun manager.server) (refused client request status (begun manager.server))
    (begins manager tagged) refl
before_follows manager tag client request (Ok file) tagged =
    let one = tagged_of manager.server tag client request in
    both_so GoesAs (is_behind manager.server.rules one.held (manager.server.held file)) _ _ _ _
    (λ behind. waits_following file one (handling manager) (begun manager.server) (begins manager tagged))
    (λ first. first_follows manager tag client file request (tried client request (begun manager.server)).outcome tagged)

comes_following : (manager : Manager) (tag client : ℕ) (request : FileRequest) → IsTagged manager
    → GoesAs (rules.arrived tag client request (handling manager)) (file_request_arrived client request (begun manager.server))
comes_following manager tag client (FileRequest.Close file_id) tagged =
    all_follow (rules.first_tried tag client (FileRequest.Close file_id) (handling manager))
    (first_tried client (FileRequest.Close file_id) (begun manager.server))
    (before_follows manager tag client (FileRequest.Close file_id)
    (file_asked manager.server client (FileRequest.Close file_id)) tagged)
comes_following manager tag client (FileRequest.Create file access share contexts) tagged =
    before_follows manager tag client (FileRequest.Create file access share contexts)
    (file_asked manager.server client (FileRequest.Create file access share contexts)) tagged
comes_following manager tag client (FileRequest.Read file_id) tagged =
    before_follows manager tag client (FileRequest.Read file_id) (file_asked manager.server client (FileRequest.Read file_id))
    tagged
comes_following manager tag client (FileRequest.Write file_id number patch) tagged =
    before_follows manager tag client (FileRequest.Write file_id number patch)
    (file_asked manager.server client (FileRequest.Write file_id number patch)) tagged

pub asks_follow : (manager : Manager) (tag client : ℕ) (request : FileRequest) → IsTagged manager
    → GoesAs (rules.receive manager client tag request) (receive manager.server client (Request.OnFile request))
unfolding rules.receive receive arrived
asks_follow manager tag client request tagged = both_so GoesAs (manager.server.present client) _ _ _ _
    (λ up. comes_following manager tag client request tagged) (λ down. begins manager tagged)

acknowledges : (manager : Manager) (client : ℕ) (given : Option LeaseOf) → IsTagged manager
    → GoesAs (rules.acknowledge manager client given) (receive manager.server client (Request.Acknowledge given))
unfolding rules.acknowledge receive arrived
acknowledges manager client given tagged =
    let after = acknowledged client given (begun manager.server) in
    both_so GoesAs (manager.server.present client) _ _ _ _
    (λ up. all_follow (gone_on 0 after (handling manager)) after
    (goes_following 0 (handling manager) (begun manager.server) after (begins manager tagged)
    (acknowledged-held client given (begun manager.server))))
    (λ down. begins manager tagged)

-- ---- connections and timers

joined_facts : (server : Server) (client : ℕ) → ((join server client).outs ≡ [])
    × ((join server client).server.held ≡ server.held)
unfolding join
joined_facts server client = if_cases (λ (q : Progress). (q.outs ≡ []) × (q.server.held ≡ server.held)) (server.present client)
    (begun server) (joined client (begun server)) (λ up. (refl, refl)) (λ down. (refl, refl))

joins : (manager : Manager) (client : ℕ) → IsTagged manager → GoesAs (rules.join manager client) (join manager.server client)
unfolding rules.join
joins manager client tagged =
    let facts = joined_facts manager.server client in
    becomes manager (join manager.server client) tagged facts.0 facts.1

expires : (manager : Manager) (key : Key) → IsTagged manager → GoesAs (rules.expire manager key) (expire manager.server key)
unfolding rules.expire expire
expires manager key tagged =
    let after = key_expired key (opens_dropped (has_key key) (begun manager.server)) in
    both_so GoesAs (is_breaking (manager.server.leases key)) _ _ _ _
    (λ breaking. all_follow (at_server after.server (handling manager)) after (becomes manager after tagged refl refl))
    (λ settled. begins manager tagged)

scavenges : (manager : Manager) (file_id : ℕ) → IsTagged manager
    → GoesAs (rules.scavenge manager file_id) (scavenge manager.server file_id)
unfolding rules.scavenge scavenge
scavenges manager file_id tagged =
    let after = opens_dropped (is_left_behind file_id) (begun manager.server) in
    both_so GoesAs (list_any (is_left_behind file_id) manager.server.opens) _ _ _ _
    (λ there. all_follow (at_server after.server (handling manager)) after (becomes manager after tagged refl refl))
    (λ none. begins manager tagged)

lost_follows : (manager : Manager) (client : ℕ) → IsTagged manager
    → GoesAs (lost client (handling manager)) (rules.links_lost manager.server client)
lost_follows manager client tagged = record {
  server = refl;
  tagged = λ file. ap (without (λ (one : Held). one.client == client)) (tagged file)
      ∙ filter_map (λ (one : Held). not (one.client == client)) (λ (one : Tagged). one.held) (manager.queues file);
  told = parts_unsaid (λ one. one.client == client) manager.server (rules.links_lost manager.server client).server;
}

cuts : (manager : Manager) (client : ℕ) → IsTagged manager → GoesAs (rules.cut manager client) (cut manager.server client)
unfolding rules.cut cut
cuts manager client tagged = both_so GoesAs (manager.server.present client) _ _ _ _
    (λ up. all_follow (lost client (handling manager)) (rules.links_lost manager.server client)
    (lost_follows manager client tagged))
    (λ down. begins manager tagged)

-- ---- a client leaves some of its opens

-- what is marked waits no longer
marked_held : (test : Tagged → Bool) (held : List Held) (queue : List Tagged) → held ≡ held_in queue
    → unmarked (map test queue) held ≡ held_in (without test queue)
marked_held test held queue tagged = ap (unmarked (map test queue)) tagged
    ∙ unmarked_map (map test queue) (λ (o : Tagged). o.held) queue
    ∙ ap (λ (l : List Tagged). held_in l) (marks_leave test queue)

left_follows : (manager : Manager) (client : ℕ) (file_ids tags : List ℕ) → IsTagged manager
    → GoesAs (rules.left client file_ids tags (handling manager))
    (requests_left (λ file. map (is_left client tags) (manager.queues file)) (opens_left manager.server client file_ids))
left_follows manager client file_ids tags tagged =
    let test = is_left client tags in record {
      server = ap (λ (held : ℕ → List Held). record (opens_left manager.server client file_ids).server { held = held })
          (fun_ext (λ file. sym (marked_held test (manager.server.held file) (manager.queues file) (tagged file))));
      tagged = λ file. refl;
      told = parts_unsaid (is_named client file_ids) manager.server (parts_left manager client file_ids tags);
    }

leaves : (manager : Manager) (client : ℕ) (file_ids tags : List ℕ) → IsTagged manager
    → GoesAs (rules.leave manager client file_ids tags)
    (leave manager.server client file_ids (λ file. map (is_left client tags) (manager.queues file)))
unfolding rules.leave leave
leaves manager client file_ids tags tagged = both_so GoesAs (manager.server.present client) _ _ _ _
    (λ up. all_follow (rules.left client file_ids tags (handling manager)) _ (left_follows manager client file_ids tags tagged))
    (λ down. begins manager tagged)

-- ---- other keys give up what they hold

gives_up : (manager : Manager) (own : Option Key) (file : ℕ) (extent : Extent) → IsTagged manager
    → GoesAs (rules.give_up manager own file extent) (give_up manager.server own file extent)
unfolding rules.give_up give_up
gives_up manager own file extent tagged =
    let after = others_broken manager.server own file extent in
    all_follow (gone_on 0 after (ends after.server (handling manager))) after
    (goes_following 0 (ends after.server (handling manager)) (begun manager.server) after
    (ends_following after.server (handling manager) (begun manager.server) (begins manager tagged))
    (any_meeting SameHeld tries_hold (others_wants manager.server own file extent) (begun manager.server)))

-- ---- withdrawals

taken_follows : (manager : Manager) (file client tag : ℕ) → IsTagged manager
    → GoesAs (rules.taken_back file client tag (handling manager))
    (held_left file (held_in (without (is_under client tag) (manager.queues file))) (begun manager.server))
taken_follows manager file client tag tagged =
    let left = without (is_under client tag) (manager.queues file) in record {
      server = refl;
      tagged = queues_held manager.server manager.queues file left tagged;
      told = refl;
    }

withdraws : (manager : Manager) (file client tag : ℕ) → IsTagged manager → GoesAs (rules.withdraw manager file client tag)
    (withdraw manager.server file (map (is_under client tag) (manager.queues file)))
unfolding rules.withdraw withdraw
withdraws manager file client tag tagged =
    let queue = manager.queues file in
    let marks = map (is_under client tag) queue in
    let found : has_marked marks (manager.server.held file) ≡ list_any (is_under client tag) queue =
    ap (has_marked marks) (tagged file) ∙ marked_map marks (λ (o : Tagged). o.held) queue
    ∙ marks_find (is_under client tag) queue in
    let left : unmarked marks (manager.server.held file) ≡ held_in (without (is_under client tag) queue) =
    ap (unmarked marks) (tagged file) ∙ unmarked_map marks (λ (o : Tagged). o.held) queue
    ∙ ap (λ (l : List Tagged). held_in l) (marks_leave (is_under client tag) queue) in
    subst (λ b. GoesAs (rules.withdraw manager file client tag)
    (if b then all_passes (held_left file (unmarked marks (manager.server.held file)) (begun manager.server))
    else begun manager.server)) (sym found)
    (both_so GoesAs (list_any (is_under client tag) queue) _ _ _ _
    (λ there. all_follow (rules.taken_back file client tag (handling manager)) _
    (subst (λ l. GoesAs (rules.taken_back file client tag (handling manager)) (held_left file l (begun manager.server)))
    (sym left) (taken_follows manager file client tag tagged)))
    (λ none. begins manager tagged))

-- ---- any of them

pub managers_are_servers : ManagersAreServers
managers_are_servers manager (Coming.Joins client) tagged = joins manager client tagged
managers_are_servers manager (Coming.Asks client tag request) tagged = asks_follow manager tag client request tagged
managers_are_servers manager (Coming.Acknowledges client given) tagged = acknowledges manager client given tagged
managers_are_servers manager (Coming.IsCut client) tagged = cuts manager client tagged
managers_are_servers manager (Coming.Expires key) tagged = expires manager key tagged
managers_are_servers manager (Coming.Scavenges file_id) tagged = scavenges manager file_id tagged
managers_are_servers manager (Coming.GivesUp own file extent) tagged = gives_up manager own file extent tagged
managers_are_servers manager (Coming.Leaves client file_ids tags) tagged = leaves manager client file_ids tags tagged
managers_are_servers manager (Coming.Withdraws file client tag) tagged = withdraws manager file client tag tagged
