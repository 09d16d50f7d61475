-- Calls of a server, and of a manager with its host.
use Rattle.lease_laws.proofs.Words.{◌++◌, ◌==◌, ◌∙◌, ◌∷◌, ◌≡◌, ◌≤◌, Among, Bool, Call, Err, FileRequest, Held, Key, LeaseOf}
use Rattle.lease_laws.proofs.Words.{Option}
use Rattle.lease_laws.proofs.Words.{List, Ok, Open, Outcome, Progress, Request}
use Rattle.lease_laws.proofs.Words.{Result, Server, Status, Tried, ℕ, [], acknowledged, after_first_try, ap, append-nil}
use Rattle.lease_laws.proofs.Words.{ap₂, arrived, arrived_before}
use Rattle.lease_laws.proofs.Words.{as_held, begun, called, concluded, cut, expire, false, file_asked}
use Rattle.lease_laws.proofs.Words.{file_request_arrived, has_key}
use Rattle.lease_laws.proofs.Words.{if◌then◌else◌, inl, inr, is_behind, is_breaking, is_left_behind, join, joined}
use Rattle.lease_laws.proofs.Words.{key_expired, list_any, map, map-append, not}
use Rattle.lease_laws.proofs.Words.{opens_dropped, put, receive, refl, refused, request_held, scavenge, subst, sym, tried, true}
use Rattle.lease_laws.proofs.Words.{without}
use Rattle.lease_laws.proofs.Words.{has_marked, held_left, held_of, lane_of, unmarked, withdraw}
use Rattle.lease_laws.proofs.server.Arrivals.{acknowledged-held}
use Rattle.lease_laws.proofs.Words.{Extent, fun_ext, give_up, is_lost_of, is_named, leave, opens_parted, others_broken, others_wants}
use Rattle.lease_laws.proofs.Words.{parted, requests_left}
use Rattle.lease_laws.proofs.server.Held.{SameHeld, concluded-held, tried_for-held, tries_hold}
use Rattle.lease_laws.proofs.server.cases.Tries.{any_meeting}
use Rattle.lease_laws.proofs.server.Lists.{among_map, if_cases}
use Rattle.lease_model.specs.server.Calls.{first_tried}
use Rattle.manager_model.specs.Bare.{bare, bare_held, bare_progress, bare_request}
use Rattle.manager_model.specs.Decisions.{Decision}
use Rattle.manager_model.specs.Handling.{Handling, Manager, Tagged, at_server, ends, gone_on, handling, is_of, is_under}
use Rattle.manager_model.specs.Handling.{ended_between, is_left, left_behind, left_to_wait, lost, opens_left, parts_left, tagged_of}
use Rattle.manager_model.specs.Handling as rules
use Rattle.manager_model.specs.Hosting.{AreAsked, AreServer, Coming, HasFreeTag, Host, Hosted, IsHostOf, asked_by, call_of}
use Rattle.manager_model.specs.Hosting.{does_all, filled, hosted, managed}
use Rattle.manager_model.specs.Hosting.{HaveFreeTags, calls_along, fresh_manager, fresh_server, given_along, hosted_along}
use Rattle.lease_laws.proofs.Words.{new_server_under}
use Rattle.manager_model.specs.Laws.{HostsAreServers, RunsOfHosts}
use Rattle.manager_model.proofs.bytes.Calls.{bytes_decide_nothing, expired_so, links_so, others_so}
use Rattle.manager_model.proofs.bytes.Ends.{acknowledged_so, concluded_so}
use Rattle.manager_model.proofs.bytes.Steps.{behind_so, dropped_so, filter_map, hold_so, left_so, marked_map, marks_find}
use Rattle.manager_model.proofs.bytes.Steps.{marks_leave, refused_so, unmarked_map}
use Rattle.manager_model.proofs.bytes.Tries.{as_held_so, asked_so, lane_so, tried_so}
use Rattle.manager_model.proofs.hosts.Answers.{acknowledged_faithfully, ends_faithfully, refused_faithfully}
use Rattle.manager_model.proofs.hosts.Faithful.{does_none, does_one, does_then, faithful_then, host_of_fewer, same_host}
use Rattle.manager_model.proofs.hosts.Faithful.{others_faithfully, tries_faithfully}
use Rattle.manager_model.proofs.hosts.Passes.{all_serve}
use Rattle.manager_model.proofs.hosts.Serving.{Serves, asked_both, asked_put, ends_nothing, ends_serving, goes_serving}
use Rattle.manager_model.proofs.hosts.Serving.{held_bare, left_nothing, queues_put}
use Rattle.manager_model.proofs.passes.Tables.{put_here}

-- ---- a call begins

pub begins_serving : (requests : ℕ → FileRequest) (manager : Manager) (host : Host) (server : Server)
    → AreServer requests manager host server → Serves requests host (handling manager) (begun server)
begins_serving requests manager host server are =
    let none = does_none requests (record { host = host; outs = [] }) in record {
      server = subst (λ (d : Hosted). AreServer requests manager d.host server) (sym none) are;
      outs = ap (λ (d : Hosted). d.outs) none;
    }

-- with one request more
filled_more : (requests : ℕ → FileRequest) (tag : ℕ) (request : FileRequest) (queue : List Tagged)
    → ((one : Tagged) → Among one queue → (one.tag == tag) ≡ false)
    → map (filled requests) queue ≡ map (filled (put requests tag request)) queue
unfolding put
filled_more requests tag request [] free = refl
filled_more requests tag request (one ∷ queue) free = ap₂ (λ x xs. x ∷ xs)
    (ap (λ (r : FileRequest). record { client = one.held.client; request = r; lane = one.held.lane }) (other (free one
    (inl refl))))
    (filled_more requests tag request queue (λ later among. free later (inr among)))
  where
    other : (one.tag == tag) ≡ false → requests one.tag ≡ (if one.tag == tag then request else requests one.tag)
    other apart = rw (apart) refl

pub asked_more : (requests : ℕ → FileRequest) (tag : ℕ) (request : FileRequest) (queue : List Tagged)
    → ((one : Tagged) → Among one queue → (one.tag == tag) ≡ false) → AreAsked requests queue
    → AreAsked (put requests tag request) queue
unfolding put
asked_more requests tag request [] free a = tt
asked_more requests tag request (one ∷ queue) free a = (
  a.0 ∙ ap bare_held (ap (λ (r : FileRequest). record { client = one.held.client; request = r; lane = one.held.lane })
      (other (free one (inl refl)))),
  asked_more requests tag request queue (λ later among. free later (inr among)) a.1,
)
  where
    other : (one.tag == tag) ≡ false → requests one.tag ≡ (if one.tag == tag then request else requests one.tag)
    other apart = rw (apart) refl

asks_serving : (requests : ℕ → FileRequest) (manager : Manager) (host : Host) (server : Server) (tag : ℕ) (request : FileRequest)
    → AreServer requests manager host server
    → ((file : ℕ) (one : Tagged) → Among one (manager.queues file) → (one.tag == tag) ≡ false)
    → AreServer (put requests tag request) manager host server
asks_serving requests manager host server tag request are free = record {
  without_bytes = are.without_bytes;
  waiting = λ file. are.waiting file ∙ filled_more requests tag request (manager.queues file) (free file);
  asked = λ file. asked_more requests tag request (manager.queues file) (free file) (are.asked file);
  hosts = are.hosts;
}

-- ---- a request waits

waits_serving : (requests : ℕ → FileRequest) (start : Host) (file : ℕ) (one : Tagged) (held : Held) (now : Handling)
    (progress : Progress) → Serves requests start now progress → filled requests one ≡ held → one.held ≡ bare_held held
    → Serves requests start (left_to_wait file one now) (request_held file held progress)
waits_serving requests start file one held now progress s full part =
    let queue = now.manager.queues file in
    let same : hosted requests start (left_to_wait file one now) ≡ hosted requests start now =
    does_then requests now.told (Decision.Waits one.held.client one.tag ∷ []) (record { host = start; outs = [] })
    ∙ does_one requests (Decision.Waits one.held.client one.tag) (hosted requests start now) in
    let more : progress.server.held file ++ held ∷ [] ≡ map (filled requests) (queue ++ one ∷ []) =
    ap₂ (λ xs x. xs ++ x ∷ []) (s.server.waiting file) (sym full) ∙ sym (map-append (filled requests) queue (one ∷ [])) in
    record {
      server = record {
        without_bytes = ap₂ (λ (m : Server) (h : Held). (request_held file h (begun m)).server) s.server.without_bytes part
            ∙ ap (λ (q : Progress). q.server) (hold_so file held (begun progress.server));
        waiting = λ n. ap (λ (l : List Held). put progress.server.held file l n) more
            ∙ queues_put requests progress.server now.manager.queues file (queue ++ one ∷ []) s.server.waiting n;
        asked = asked_put requests now.manager.queues file (queue ++ one ∷ []) s.server.asked
            (asked_both requests queue (one ∷ []) (s.server.asked file) (part ∙ ap bare_held (sym full), tt));
        hosts = subst (λ (d : Hosted). IsHostOf d.host (request_held file held progress).server) (sym same)
            (same_host (hosted requests start now).host progress.server (request_held file held progress).server s.server.hosts
            refl refl refl);
      };
      outs = ap (λ (d : Hosted). d.outs) same ∙ s.outs ∙ sym (append-nil progress.outs);
    }

-- ---- a request comes

both_ways : {X Y : Type 0} (P : X → Y → Type 0) (b c : Bool) (x other : X) (y another : Y) → b ≡ c
    → (c ≡ true → P x y) → (c ≡ false → P other another) → P (if b then x else other) (if c then y else another)
both_ways P true true x other y another same yes_so no_so = yes_so refl
both_ways P false false x other y another same yes_so no_so = no_so refl
both_ways P true false x other y another same yes_so no_so = absurd (cc)
both_ways P false true x other y another same yes_so no_so = absurd (cc)

-- a request as it would wait, with its bytes and without
comes_full : (requests : ℕ → FileRequest) (manager server : Server) (tag client : ℕ) (request : FileRequest)
    → manager ≡ bare server → requests tag ≡ request
    → filled requests (tagged_of manager tag client (bare_request request)) ≡ as_held server client request
comes_full requests manager server tag client request is asked =
    ap₂ (λ (m : Server) (r : FileRequest). held_of client r (lane_of m client (bare_request request))) is asked
    ∙ ap (held_of client request) (lane_so server client request)

comes_bare : (manager server : Server) (tag client : ℕ) (request : FileRequest) → manager ≡ bare server
    → (tagged_of manager tag client (bare_request request)).held ≡ bare_held (as_held server client request)
comes_bare manager server tag client request is =
    ap (λ (m : Server). as_held m client (bare_request request)) is ∙ as_held_so server client request

-- what the first try comes to
ends_first : (requests : ℕ → FileRequest) (manager : Manager) (host : Host) (server : Server) (tag client : ℕ)
    (request : FileRequest) (outcome : Outcome) → AreServer requests manager host server → requests tag ≡ request
    → Serves requests host (gone_on tag (concluded client (bare_request request)
    (bare_progress (tried client request (begun server)).progress) outcome)
    (ends (bare (tried client request (begun server)).progress.server) (handling manager)))
    (concluded client request (tried client request (begun server)).progress outcome)
ends_first requests manager host server tag client request outcome are asked =
    let done = (tried client request (begun server)).progress in
    let now = ends (bare done.server) (handling manager) in
    subst (λ (q : Progress). Serves requests host (gone_on tag q now) (concluded client request done outcome))
    (sym (concluded_so client request done outcome))
    (goes_serving requests host tag now (begun server) (concluded client request done outcome)
    (ends_serving requests host (bare done.server) (handling manager) (begun server)
    (begins_serving requests manager host server are))
    (faithful_then requests tag (begun server) done (concluded client request done outcome)
    (tries_faithfully requests tag client request (begun server))
    (ends_faithfully requests tag client done request outcome asked))
    (concluded-held client request done outcome ∙ tried_for-held 3 client request (begun server)))

first_serves : (requests : ℕ → FileRequest) (manager : Manager) (host : Host) (server : Server) (tag client file : ℕ)
    (request : FileRequest) (outcome : Outcome) → AreServer requests manager host server → requests tag ≡ request
    → Serves requests host (rules.after_first_try file (tagged_of manager.server tag client (bare_request request))
    (handling manager)
    (bare_progress (tried client request (begun server)).progress) outcome)
    (after_first_try file (as_held server client request) (tried client request (begun server)).progress outcome)
first_serves requests manager host server tag client file request Outcome.Waits are asked =
    let done = (tried client request (begun server)).progress in
    let now = ends (bare done.server) (handling manager) in
    waits_serving requests host file (tagged_of manager.server tag client (bare_request request)) (as_held server client request)
    (gone_on tag (bare_progress done) now) done
    (goes_serving requests host tag now (begun server) done
    (ends_serving requests host (bare done.server) (handling manager) (begun server)
    (begins_serving requests manager host server are))
    (tries_faithfully requests tag client request (begun server)) (tried_for-held 3 client request (begun server)))
    (comes_full requests manager.server server tag client request are.without_bytes asked)
    (comes_bare manager.server server tag client request are.without_bytes)
first_serves requests manager host server tag client file request outcome are asked =
    ends_first requests manager host server tag client request outcome are asked

before_serves : (requests : ℕ → FileRequest) (manager : Manager) (host : Host) (server : Server) (tag client : ℕ)
    (request : FileRequest) (found : Result ℕ Status) → AreServer requests manager host server → requests tag ≡ request
    → Serves requests host (rules.arrived_before (tagged_of manager.server tag client (bare_request request))
    (handling manager) found)
    (arrived_before (as_held server client request) (begun server) found)
before_serves requests manager host server tag client request (Err status) are asked =
    let after = refused client request status (begun server) in
    subst (λ (q : Progress). Serves requests host (gone_on tag q (handling manager)) after)
    (sym (ap (λ (m : Server). refused client (bare_request request) status (begun m)) are.without_bytes
    ∙ refused_so client request status (begun server)))
    (goes_serving requests host tag (handling manager) (begun server) after (begins_serving requests manager host server are)
    (refused_faithfully requests tag client request status (begun server) asked) refl)
before_serves requests manager host server tag client request (Ok file) are asked =
    let one = tagged_of manager.server tag client (bare_request request) in
    let done = tried client request (begun server) in
    both_ways (Serves requests host) (is_behind manager.server.rules one.held (manager.server.held file))
    (is_behind server.rules (as_held server client request) (server.held file)) _ _ _ _
    (ap (λ (m : Server). is_behind m.rules (as_held m client (bare_request request)) (m.held file)) are.without_bytes
    ∙ ap (λ (h : Held). is_behind server.rules h (map bare_held (server.held file))) (as_held_so server client request)
    ∙ behind_so server.rules (as_held server client request) (server.held file))
    (λ behind. waits_serving requests host file one (as_held server client request) (handling manager) (begun server)
    (begins_serving requests manager host server are)
    (comes_full requests manager.server server tag client request are.without_bytes asked)
    (comes_bare manager.server server tag client request are.without_bytes))
    (λ first. subst (λ (t : Tried). Serves requests host (rules.after_first_try file one (handling manager) t.progress t.outcome)
    (after_first_try file (as_held server client request) done.progress done.outcome))
    (sym (ap (λ (m : Server). tried client (bare_request request) (begun m)) are.without_bytes
    ∙ tried_so client request (begun server)))
    (first_serves requests manager host server tag client file request done.outcome are asked))

tried_serves : (requests : ℕ → FileRequest) (manager : Manager) (host : Host) (server : Server) (tag client : ℕ)
    (request : FileRequest) → AreServer requests manager host server → requests tag ≡ request
    → Serves requests host (rules.first_tried tag client (bare_request request) (handling manager))
    (first_tried client request (begun server))
tried_serves requests manager host server tag client request are asked =
    subst (λ found. Serves requests host (rules.arrived_before (tagged_of manager.server tag client (bare_request request))
    (handling manager) found) (first_tried client request (begun server)))
    (sym (ap (λ (m : Server). file_asked m client (bare_request request)) are.without_bytes ∙ asked_so server client request))
    (before_serves requests manager host server tag client request (file_asked server client request) are asked)

comes_serving : (requests : ℕ → FileRequest) (manager : Manager) (host : Host) (server : Server) (tag client : ℕ)
    (request : FileRequest) → AreServer requests manager host server → requests tag ≡ request
    → Serves requests host (rules.arrived tag client (bare_request request) (handling manager))
    (file_request_arrived client request (begun server))
comes_serving requests manager host server tag client (FileRequest.Close file_id) are asked =
    all_serve requests host (rules.first_tried tag client (FileRequest.Close file_id) (handling manager))
    (first_tried client (FileRequest.Close file_id) (begun server))
    (tried_serves requests manager host server tag client (FileRequest.Close file_id) are asked)
comes_serving requests manager host server tag client (FileRequest.Create file access share contexts) are asked =
    tried_serves requests manager host server tag client (FileRequest.Create file access share contexts) are asked
comes_serving requests manager host server tag client (FileRequest.Read file_id) are asked =
    tried_serves requests manager host server tag client (FileRequest.Read file_id) are asked
comes_serving requests manager host server tag client (FileRequest.Write file_id number patch) are asked =
    tried_serves requests manager host server tag client (FileRequest.Write file_id number patch) are asked

asks : (requests : ℕ → FileRequest) (manager : Manager) (host : Host) (server : Server) (tag client : ℕ) (request : FileRequest)
    → AreServer requests manager host server → requests tag ≡ request
    → Serves requests host (rules.receive manager client tag (bare_request request))
    (receive server client (Request.OnFile request))
unfolding rules.receive receive arrived
asks requests manager host server tag client request are asked =
    both_ways (Serves requests host) (manager.server.present client) (server.present client) _ _ _ _
    (ap (λ (m : Server). m.present client) are.without_bytes)
    (λ up. comes_serving requests manager host server tag client request are asked)
    (λ down. begins_serving requests manager host server are)

acknowledges : (requests : ℕ → FileRequest) (manager : Manager) (host : Host) (server : Server) (client : ℕ)
    (given : Option LeaseOf)
    → AreServer requests manager host server
    → Serves requests host (rules.acknowledge manager client given) (receive server client (Request.Acknowledge given))
unfolding rules.acknowledge receive arrived
acknowledges requests manager host server client given are =
    let after = acknowledged client given (begun server) in
    both_ways (Serves requests host) (manager.server.present client) (server.present client) _ _ _ _
    (ap (λ (m : Server). m.present client) are.without_bytes)
    (λ up. all_serve requests host (gone_on 0 (acknowledged client given (begun manager.server)) (handling manager)) after
    (subst (λ (q : Progress). Serves requests host (gone_on 0 q (handling manager)) after)
    (sym (ap (λ (m : Server). acknowledged client given (begun m)) are.without_bytes
    ∙ acknowledged_so client given (begun server)))
    (goes_serving requests host 0 (handling manager) (begun server) after (begins_serving requests manager host server are)
    (acknowledged_faithfully requests 0 client given (begun server)) (acknowledged-held client given
    (begun server)))))
    (λ down. begins_serving requests manager host server are)

-- ---- connections and timers

-- what gives nothing out, and leaves what waits
becomes : (requests : ℕ → FileRequest) (manager : Manager) (host : Host) (server : Server) (bare_after : Server)
    (after : Progress)
    → AreServer requests manager host server → bare_after ≡ bare after.server → after.outs ≡ []
    → after.server.held ≡ server.held → IsHostOf host after.server
    → Serves requests host (at_server bare_after (handling manager)) after
becomes requests manager host server bare_after after are is silent held hosts =
    let none = ends_nothing requests manager.server bare_after [] (record { host = host; outs = [] })
    ∙ does_none requests (record { host = host; outs = [] }) in record {
      server = record {
        without_bytes = is;
        waiting = λ file. ap (λ (h : ℕ → List Held). h file) held ∙ are.waiting file;
        asked = are.asked;
        hosts = subst (λ (d : Hosted). IsHostOf d.host after.server) (sym none) hosts;
      };
      outs = ap (λ (d : Hosted). d.outs) none ∙ sym silent;
    }

joined_facts : (host : Host) (server : Server) (client : ℕ) → IsHostOf host server
    → ((join server client).outs ≡ []) × ((join server client).server.held ≡ server.held)
    × IsHostOf host (join server client).server
unfolding join
joined_facts host server client is =
    if_cases (λ (q : Progress). (q.outs ≡ []) × (q.server.held ≡ server.held) × IsHostOf host q.server) (server.present client)
    (begun server) (joined client (begun server)) (λ up. (refl, refl, is))
    (λ down. (refl, refl, same_host host server (joined client (begun server)).server is refl refl refl))

joins : (requests : ℕ → FileRequest) (manager : Manager) (host : Host) (server : Server) (client : ℕ)
    → AreServer requests manager host server → Serves requests host (rules.join manager client) (join server client)
unfolding rules.join
joins requests manager host server client are =
    let facts = joined_facts host server client are.hosts in
    becomes requests manager host server (join manager.server client).server
    (join server client) are
    (ap (λ (m : Server). (join m client).server) are.without_bytes
    ∙ ap (λ (q : Progress). q.server) (bytes_decide_nothing server (Call.Join client)))
    facts.0 facts.1 facts.2

expires : (requests : ℕ → FileRequest) (manager : Manager) (host : Host) (server : Server) (key : Key)
    → AreServer requests manager host server → Serves requests host (rules.expire manager key) (expire server key)
unfolding rules.expire expire
expires requests manager host server key are =
    let after = key_expired key (opens_dropped (has_key key) (begun server)) in
    both_ways (Serves requests host) (is_breaking (manager.server.leases key)) (is_breaking (server.leases key)) _ _ _ _
    (ap (λ (m : Server). is_breaking (m.leases key)) are.without_bytes)
    (λ breaking. all_serve requests host (at_server (key_expired key (opens_dropped (has_key key) (begun manager.server))).server
    (handling manager)) after
    (becomes requests manager host server _ after are
    (ap (λ (m : Server). (key_expired key (opens_dropped (has_key key) (begun m))).server) are.without_bytes
    ∙ ap (λ (q : Progress). q.server) (ap (key_expired key) (dropped_so (has_key key) (begun server))
    ∙ expired_so key (opens_dropped (has_key key) (begun server)))) refl refl
    (same_host host (opens_dropped (has_key key) (begun server)).server after.server
    (host_of_fewer (has_key key) (begun server) host are.hosts) refl refl refl)))
    (λ settled. begins_serving requests manager host server are)

scavenges : (requests : ℕ → FileRequest) (manager : Manager) (host : Host) (server : Server) (file_id : ℕ)
    → AreServer requests manager host server → Serves requests host (rules.scavenge manager file_id) (scavenge server file_id)
unfolding rules.scavenge scavenge
scavenges requests manager host server file_id are =
    let after = opens_dropped (is_left_behind file_id) (begun server) in
    both_ways (Serves requests host) (list_any (is_left_behind file_id) manager.server.opens)
    (list_any (is_left_behind file_id) server.opens) _ _ _ _
    (ap (λ (m : Server). list_any (is_left_behind file_id) m.opens) are.without_bytes)
    (λ there. all_serve requests host (at_server (opens_dropped (is_left_behind file_id) (begun manager.server)).server
    (handling manager)) after
    (becomes requests manager host server _ after are
    (ap (λ (m : Server). (opens_dropped (is_left_behind file_id) (begun m)).server) are.without_bytes
    ∙ ap (λ (q : Progress). q.server) (dropped_so (is_left_behind file_id) (begun server))) refl refl
    (host_of_fewer (is_left_behind file_id) (begun server) host are.hosts)))
    (λ none. begins_serving requests manager host server are)

-- opens are disconnected, once those that end were dropped
host_of_parted : (host : Host) (server : Server) (test : Open → Bool) → IsHostOf host server
    → IsHostOf host (opens_parted test (opens_dropped (is_lost_of server test) (begun server))).server
host_of_parted host server test is =
    let fewer = host_of_fewer (is_lost_of server test) (begun server) host is in
    let left = opens_dropped (is_lost_of server test) (begun server) in record {
      contents = fewer.contents;
      handles = λ one among.
          let was = among_map (parted test) one left.server.opens among in
          let same = same_open was.0 in
          ap (λ (o : Open). host.handles o.file_id) was.2 ∙ ap host.handles same.0 ∙ fewer.handles was.0 was.1 ∙ sym same.1
          ∙ sym (ap (λ (o : Open). o.file) was.2);
      numbered = λ one among.
          let was = among_map (parted test) one left.server.opens among in
          let same = same_open was.0 in
          subst (λ n. n ≤ server.last_id) (sym (ap (λ (o : Open). o.file_id) was.2 ∙ same.0)) (fewer.numbered was.0 was.1);
    }
  where
    same_open : (one : Open) → ((parted test one).file_id ≡ one.file_id) × ((parted test one).file ≡ one.file)
    same_open one = if_cases (λ (o : Open). (o.file_id ≡ one.file_id) × (o.file ≡ one.file)) (test one)
        (record one { connected = false }) one (λ e. (refl, refl)) (λ e. (refl, refl))

-- a client that is lost
host_of_lost : (host : Host) (server : Server) (client : ℕ) → IsHostOf host server
    → IsHostOf host (rules.links_lost server client).server
host_of_lost host server client is =
    let test : Open → Bool = λ one. one.client == client in
    same_host host (opens_parted test (opens_dropped (is_lost_of server test) (begun server))).server
    (rules.links_lost server client).server (host_of_parted host server test is) refl refl refl

asked_without : (requests : ℕ → FileRequest) (test : Tagged → Bool) (queue : List Tagged) → AreAsked requests queue
    → AreAsked requests (without test queue)
asked_without requests test [] a = tt
asked_without requests test (one ∷ queue) a = if_cases (AreAsked requests) (not (test one))
    (one ∷ without test queue) (without test queue)
    (λ other. (a.0, asked_without requests test queue a.1)) (λ its. asked_without requests test queue a.1)

-- what is told of opens that end or wait for their client asks nothing of the host
parts_nothing : (requests : ℕ → FileRequest) (manager : Manager) (test : Open → Bool) (after : Server) (host : Host)
    → does_all requests ([] ++ ended_between manager.server after ++ left_behind test manager.server)
    (record { host = host; outs = [] }) ≡ record { host = host; outs = [] }
parts_nothing requests manager test after host =
    let start : Hosted = record { host = host; outs = [] } in
    left_nothing requests test manager.server ([] ++ ended_between manager.server after) start
    ∙ ends_nothing requests manager.server after [] start ∙ does_none requests start

lost_serves : (requests : ℕ → FileRequest) (manager : Manager) (host : Host) (server : Server) (client : ℕ)
    → AreServer requests manager host server
    → Serves requests host (lost client (handling manager)) (rules.links_lost server client)
lost_serves requests manager host server client are =
    let none = parts_nothing requests manager (λ one. one.client == client) (rules.links_lost manager.server client).server
    host in
    record {
      server = record {
        without_bytes = ap (λ (m : Server). (rules.links_lost m client).server) are.without_bytes
            ∙ ap (λ (q : Progress). q.server) (links_so server client);
        waiting = λ file. ap (without (λ (one : Held). one.client == client)) (are.waiting file)
            ∙ filter_map (λ (one : Held). not (one.client == client)) (filled requests) (manager.queues file);
        asked = λ file. asked_without requests (is_of client) (manager.queues file) (are.asked file);
        hosts = subst (λ (d : Hosted). IsHostOf d.host (rules.links_lost server client).server) (sym none)
            (host_of_lost host server client are.hosts);
      };
      outs = ap (λ (d : Hosted). d.outs) none;
    }

cuts : (requests : ℕ → FileRequest) (manager : Manager) (host : Host) (server : Server) (client : ℕ)
    → AreServer requests manager host server → Serves requests host (rules.cut manager client) (cut server client)
unfolding rules.cut cut
cuts requests manager host server client are =
    both_ways (Serves requests host) (manager.server.present client) (server.present client) _ _ _ _
    (ap (λ (m : Server). m.present client) are.without_bytes)
    (λ up. all_serve requests host (lost client (handling manager)) (rules.links_lost server client)
    (lost_serves requests manager host server client are))
    (λ down. begins_serving requests manager host server are)

-- ---- withdrawals

taken_serves : (requests : ℕ → FileRequest) (manager : Manager) (host : Host) (server : Server) (file client tag : ℕ)
    → AreServer requests manager host server → Serves requests host (rules.taken_back file client tag (handling manager))
    (held_left file (map (filled requests) (without (is_under client tag) (manager.queues file))) (begun server))
taken_serves requests manager host server file client tag are =
    let left = without (is_under client tag) (manager.queues file) in
    let asked = asked_without requests (is_under client tag) (manager.queues file) (are.asked file) in
    let same : hosted requests host (rules.taken_back file client tag (handling manager)) ≡ record { host = host; outs = [] } =
    does_one requests (Decision.Withdrawn client tag) (record { host = host; outs = [] }) in record {
      server = record {
        without_bytes = ap₂ (λ (m : Server) (held : List Held). (held_left file held (begun m)).server) are.without_bytes
            (held_bare requests left asked)
            ∙ ap (λ (q : Progress). q.server) (left_so file (map (filled requests) left) (begun server));
        waiting = queues_put requests server manager.queues file left are.waiting;
        asked = asked_put requests manager.queues file left are.asked asked;
        hosts = subst (λ (d : Hosted). IsHostOf d.host
            (held_left file (map (filled requests) left) (begun server)).server) (sym same)
            (same_host host server (held_left file (map (filled requests) left) (begun server)).server are.hosts refl refl refl);
      };
      outs = ap (λ (d : Hosted). d.outs) same;
    }

withdraws : (requests : ℕ → FileRequest) (manager : Manager) (host : Host) (server : Server) (file client tag : ℕ)
    → AreServer requests manager host server → Serves requests host (rules.withdraw manager file client tag)
    (withdraw server file (map (is_under client tag) (manager.queues file)))
unfolding rules.withdraw withdraw
withdraws requests manager host server file client tag are =
    let queue = manager.queues file in
    let marks = map (is_under client tag) queue in
    both_ways (Serves requests host) (list_any (is_under client tag) queue) (has_marked marks (server.held file)) _ _ _ _
    (sym (ap (has_marked marks) (are.waiting file) ∙ marked_map marks (filled requests) queue
    ∙ marks_find (is_under client tag) queue))
    (λ there. all_serve requests host (rules.taken_back file client tag (handling manager)) _
    (subst (λ left. Serves requests host (rules.taken_back file client tag (handling manager))
    (held_left file left (begun server)))
    (sym (ap (unmarked marks) (are.waiting file) ∙ unmarked_map marks (filled requests) queue
    ∙ ap (map (filled requests)) (marks_leave (is_under client tag) queue)))
    (taken_serves requests manager host server file client tag are)))
    (λ none. begins_serving requests manager host server are)

-- ---- a client leaves some of its opens

left_serves : (requests : ℕ → FileRequest) (manager : Manager) (host : Host) (server : Server) (client : ℕ)
    (file_ids tags : List ℕ) → AreServer requests manager host server
    → Serves requests host (rules.left client file_ids tags (handling manager))
    (requests_left (λ file. map (is_left client tags) (manager.queues file)) (opens_left server client file_ids))
left_serves requests manager host server client file_ids tags are =
    let test = is_left client tags in
    let marks : ℕ → List Bool = λ file. map test (manager.queues file) in
    let asked : (file : ℕ) → AreAsked requests (without test (manager.queues file)) =
    λ file. asked_without requests test (manager.queues file) (are.asked file) in
    let waiting : (file : ℕ) → unmarked (marks file) (server.held file)
    ≡ map (filled requests) (without test (manager.queues file)) =
    λ file. ap (unmarked (marks file)) (are.waiting file) ∙ unmarked_map (marks file) (filled requests) (manager.queues file)
    ∙ ap (map (filled requests)) (marks_leave test (manager.queues file)) in
    let none = parts_nothing requests manager (is_named client file_ids) (parts_left manager client file_ids tags) host in
    record {
      server = record {
        without_bytes = ap₂ (λ (m : Server) (held : ℕ → List Held). record (opens_left m client file_ids).server { held = held })
            are.without_bytes (fun_ext (λ file. held_bare requests (without test (manager.queues file)) (asked file)
            ∙ ap (map bare_held) (sym (waiting file))));
        waiting = waiting;
        asked = asked;
        hosts = subst (λ (d : Hosted). IsHostOf d.host (requests_left marks (opens_left server client file_ids)).server)
            (sym none)
            (same_host host (opens_left server client file_ids).server
            (requests_left marks (opens_left server client file_ids)).server
            (host_of_parted host server (is_named client file_ids) are.hosts) refl refl refl);
      };
      outs = ap (λ (d : Hosted). d.outs) none;
    }

leaves : (requests : ℕ → FileRequest) (manager : Manager) (host : Host) (server : Server) (client : ℕ) (file_ids tags : List ℕ)
    → AreServer requests manager host server → Serves requests host (rules.leave manager client file_ids tags)
    (leave server client file_ids (λ file. map (is_left client tags) (manager.queues file)))
unfolding rules.leave leave
leaves requests manager host server client file_ids tags are =
    both_ways (Serves requests host) (manager.server.present client) (server.present client) _ _ _ _
    (ap (λ (m : Server). m.present client) are.without_bytes)
    (λ up. all_serve requests host (rules.left client file_ids tags (handling manager)) _
    (left_serves requests manager host server client file_ids tags are))
    (λ down. begins_serving requests manager host server are)

-- ---- other keys give up what they hold

gives_up : (requests : ℕ → FileRequest) (manager : Manager) (host : Host) (server : Server) (own : Option Key) (file : ℕ)
    (extent : Extent) → AreServer requests manager host server
    → Serves requests host (rules.give_up manager own file extent) (give_up server own file extent)
unfolding rules.give_up give_up
gives_up requests manager host server own file extent are =
    let after = others_broken server own file extent in
    let now = ends (others_broken manager.server own file extent).server (handling manager) in
    all_serve requests host (gone_on 0 (others_broken manager.server own file extent) now) after
    (subst (λ (q : Progress). Serves requests host (gone_on 0 q now) after)
    (sym (ap (λ (m : Server). others_broken m own file extent) are.without_bytes ∙ others_so server own file extent))
    (goes_serving requests host 0 now (begun server) after
    (ends_serving requests host (others_broken manager.server own file extent).server (handling manager) (begun server)
    (begins_serving requests manager host server are)) (others_faithfully requests 0 server own file extent)
    (any_meeting SameHeld tries_hold (others_wants server own file extent) (begun server))))

-- ---- any of them

pub any_serves : (requests : ℕ → FileRequest) (manager : Manager) (host : Host) (server : Server) (coming : Coming)
    → AreServer requests manager host server → HasFreeTag manager coming
    → Serves (asked_by requests coming) host (managed manager coming) (called server (call_of manager coming))
any_serves requests manager host server (Coming.Joins client) are free = joins requests manager host server client are
any_serves requests manager host server (Coming.Asks client tag request) are free =
    asks (put requests tag request) manager host server tag client request
    (asks_serving requests manager host server tag request are free) (put_here requests tag request)
any_serves requests manager host server (Coming.Acknowledges client given) are free =
    acknowledges requests manager host server client given are
any_serves requests manager host server (Coming.IsCut client) are free = cuts requests manager host server client are
any_serves requests manager host server (Coming.Expires key) are free = expires requests manager host server key are
any_serves requests manager host server (Coming.Scavenges file_id) are free =
    scavenges requests manager host server file_id are
any_serves requests manager host server (Coming.Withdraws file client tag) are free =
    withdraws requests manager host server file client tag are
any_serves requests manager host server (Coming.GivesUp own file extent) are free =
    gives_up requests manager host server own file extent are
any_serves requests manager host server (Coming.Leaves client file_ids tags) are free =
    leaves requests manager host server client file_ids tags are

pub hosts_are_servers : HostsAreServers
hosts_are_servers requests manager host server coming are free =
    let s = any_serves requests manager host server coming are free in (s.server, s.outs)

-- ---- whole runs

runs_on : (requests : ℕ → FileRequest) (manager : Manager) (host : Host) (server : Server) (comings : List Coming)
    → AreServer requests manager host server → HaveFreeTags manager comings
    → hosted_along requests manager host comings ≡ given_along server (calls_along manager comings)
runs_on requests manager host server [] are free = refl
runs_on requests manager host server (coming ∷ comings) are free =
    let s = any_serves requests manager host server coming are free.0 in
    ap₂ (λ x xs. x ∷ xs) s.outs
    (runs_on (asked_by requests coming) (managed manager coming).manager
    (hosted (asked_by requests coming) host (managed manager coming)).host (called server (call_of manager coming)).server comings
    s.server free.1)

pub runs_of_hosts : RunsOfHosts
unfolding new_server_under
runs_of_hosts rules files contents handles requests comings free =
    runs_on requests (fresh_manager rules files) (record { contents = contents; handles = handles })
    (fresh_server rules files contents) comings (record {
      without_bytes = refl;
      waiting = λ file. refl;
      asked = λ file. tt;
      hosts = record { contents = refl; handles = λ one among. absurd among; numbered = λ one among. absurd among };
    }) free
