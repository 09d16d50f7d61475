-- A call of the manager, which the host carried out, is that of the server.
use Rattle.lease_laws.proofs.Words.{◌++◌, ◌<◌, ◌==◌, ◌∙◌, ◌∷◌, ◌≡◌, ◌≤◌, Among, Call, FileRequest, Held, IsSound, List}
use Rattle.lease_laws.proofs.Words.{Out, Server, ℕ, ⊎_elim, [], ap, ap₂, arith, called, false, fun_ext, inl, inr, map, refl, subst, sym, true}
use Rattle.lease_model.specs.messages.FromBytes.{ask_found}
use Rattle.lease_wire.specs.Names.{CreateView}
use Rattle.lease_wire.specs.declared.fault.WireFault.{WireFault}
use Rattle.lease_laws.proofs.Words.{Err, Result}
use Rattle.lease_laws.proofs.Words.{⊤, Access, Decides-eqb, Key, None, Progress, Reply, Request, Share, Status, arrived, begun, cut, expire}
use Rattle.lease_laws.proofs.Words.{if◌then◌else◌, is_breaking, is_left_behind, join, list_any, nat_tests, numbered, receive, scavenge}
use Rattle.std.proofs.lemmas.List.Sums.{sum_by-append}
use Rattle.lease_laws.proofs.server.Lists.{either}
use Rattle.lease_manager.specs.Outs.{IsAfter, decisions}
use Rattle.lease_manager.specs.Table as managed
use Rattle.lease_manager.specs.declared.values.decision.Decision as code
use Rattle.manager_model.specs.Answering.{AnswersComeOnce, IsOnce, WaitersWereAsked, answers, waiting_under}
use Rattle.manager_model.specs.Bare.{bare_held}
use Rattle.manager_model.specs.Decisions.{Decision}
use Rattle.manager_model.specs.Handling.{Handling, Manager, Tagged, handling, held_in}
use Rattle.manager_model.specs.Hosting.{AreAsked, AreServer, Coming, Host, Hosted, asked_by, call_of, does_all, filled}
use Rattle.manager_model.specs.Hosting.{hosted, managed}
use Rattle.manager_model.specs.Laws.{HostsAreServers}
use Rattle.share_server.specs.Calling.{Comes, IsUnderWay}
use Rattle.share_server.specs.Table.{HasAsked, HasSettled, IsCalled, IsServer, Kept, Table, handles_in, host_of, hosted_of, requests_in}
use Rattle.share_server.specs.Table.{server_from, server_of, table_of}

-- ---- a table of a server, as the law of hosts has it

held_bare : (requests : ℕ → FileRequest) (queue : List Tagged) → AreAsked requests queue
    → held_in queue ≡ map bare_held (map (filled requests) queue)
held_bare requests [] a = refl
held_bare requests (one ∷ queue) a = ap₂ (λ x xs. x ∷ xs) a.0 (held_bare requests queue a.1)

abbrev with_held : Server → (ℕ → List Held) → Server
with_held server held = record server { held = held }

abbrev with_files : Server → (ℕ → List ℕ) → (ℕ → List Held) → Server
with_files server contents held = record server { contents = contents; held = held }

pub are_server : (table : Table) → IsServer table
    → AreServer (requests_in table.kept.requests) (managed.manager_of table.manager) (host_of table.kept) (server_of table)
are_server table is = record {
  without_bytes = ap (with_held (managed.server_of table.manager)) (fun_ext (λ file.
      held_bare (requests_in table.kept.requests) (managed.queue_at table.manager.queues file) (is.asked file)));
  waiting = λ file. refl;
  asked = is.asked;
  hosts = record {
    contents = refl;
    handles = is.handles;
    numbered = λ one there. (is.sound.numbered one there).1;
  };
}

-- and the server is read off the manager and its host
server_is : (requests : ℕ → FileRequest) (manager : Manager) (host : Host) (server : Server)
    → AreServer requests manager host server → server_from requests manager host ≡ server
server_is requests manager host server are =
    ap (λ (m : Server). with_files m host.contents (λ file. map (filled requests) (manager.queues file))) are.without_bytes
    ∙ ap₂ (with_files server) are.hosts.contents (fun_ext (λ file. sym (are.waiting file)))

-- ---- what was answered is asked no longer

counts_some : (tag : ℕ) (one : Tagged) (queue : List Tagged) → Among one queue → (one.tag == tag) ≡ true
    → 1 ≤ waiting_under tag queue
counts_some tag one [] there is = absurd there
counts_some tag one (first ∷ queue) (inl same) is =
    let all = sum_by-append (λ (o : Tagged). if o.tag == tag then 1 else 0) (first ∷ []) queue in
    let here : waiting_under tag (first ∷ []) ≡ 1 = rw (subst (λ (o : Tagged). (o.tag == tag) ≡ true) same is) refl in
    omega (arith, all, here)
counts_some tag one (first ∷ queue) (inr later) is =
    let all = sum_by-append (λ (o : Tagged). if o.tag == tag then 1 else 0) (first ∷ []) queue in
    let some = counts_some tag one queue later is in omega (arith, all, some)

waits_unanswered : (one : Tagged) (file : ℕ) (now : Handling) → IsOnce one.tag now → Among one (now.manager.queues file)
    → answers one.tag now.told ≡ 0
waits_unanswered one file now once there =
    let some = counts_some one.tag one (now.manager.queues file) there ((Decides-eqb one.tag one.tag).1 refl) in
    let most = once.once in
    either (file == once.file)
    (λ its. let same = ap (λ n. waiting_under one.tag (now.manager.queues n)) ((Decides-eqb file once.file).0 its) in
    omega (arith, some, most, same))
    (λ off. let none = once.others file off in absurd (omega (arith, some, none)))

filled_alike : (first other : ℕ → FileRequest) (queue : List Tagged)
    → ((one : Tagged) → Among one queue → other one.tag ≡ first one.tag) → map (filled first) queue ≡ map (filled other) queue
filled_alike first other [] same = refl
filled_alike first other (one ∷ queue) same = ap₂ (λ request rest. record {
  client = one.held.client;
  request = request;
  lane = one.held.lane;
} ∷ rest) (sym (same one (inl refl))) (filled_alike first other queue (λ later there. same later (inr there)))

asked_alike : (first other : ℕ → FileRequest) (queue : List Tagged)
    → ((one : Tagged) → Among one queue → other one.tag ≡ first one.tag) → AreAsked first queue → AreAsked other queue
asked_alike first other [] same asked = tt
asked_alike first other (one ∷ queue) same asked = (
  asked.0 ∙ ap (λ request. bare_held (record { client = one.held.client; request = request; lane = one.held.lane }))
      (sym (same one (inl refl))),
  asked_alike first other queue (λ later there. same later (inr there)) asked.1,
)

-- ---- a call

pub record Laws : Type 0 where
  pub hosts : HostsAreServers
  pub once : AnswersComeOnce
  pub asked : WaitersWereAsked
  pub sound : (server : Server) (call : Call) → IsSound server → IsSound (called server call).server

pub call_made : Laws → (manager : managed.Table) (told : List Decision) (kept new : Kept) (outs : List Out)
    → (way : IsUnderWay manager told kept) → HasSettled told manager.opens kept new [] outs
    → IsCalled way.old (call_of (managed.manager_of way.old.manager) way.coming) (table_of manager new) outs
call_made laws manager told kept new outs way settled =
    let old = way.old in
    let coming = way.coming in
    let is = way.is in
    let comes = way.comes in
    let same = way.same in
    let said = way.said in
    let requests = asked_by (requests_in old.kept.requests) coming in
    let now = managed (managed.manager_of old.manager) coming in
    let call = call_of (managed.manager_of old.manager) coming in
    let after = called (server_of old) call in
    let law = laws.hosts (requests_in old.kept.requests) (managed.manager_of old.manager) (host_of old.kept) (server_of old)
    coming
    (are_server old is) comes.free in
    let done : hosted_of settled.middle outs ≡ hosted requests (host_of old.kept) now =
    settled.done.done ∙ ap₂ (λ (r : ℕ → FileRequest) (h : Host). does_all r told (record { host = h; outs = [] }))
    comes.requests comes.host
    ∙ ap (λ d. does_all requests d (record { host = host_of old.kept; outs = [] })) said in
    let are : AreServer requests (managed.manager_of manager) (host_of settled.middle) after.server =
    subst (λ (m : Manager). AreServer requests m (host_of settled.middle) after.server) (sym same)
    (subst (λ (d : Hosted). AreServer requests now.manager d.host after.server) (sym done) law.0) in
    let once : (tag : ℕ) → IsOnce tag now = laws.once (managed.manager_of old.manager) coming is.once comes.free in
    let queues : (file : ℕ) → managed.queue_at manager.queues file ≡ now.manager.queues file =
    λ file. ap (λ (m : Manager). m.queues file) same in
    let stays : (file : ℕ) (one : Tagged) → Among one (managed.queue_at manager.queues file)
    → requests_in new.requests one.tag ≡ requests one.tag =
    λ file one there.
    ap (λ l. requests_in l one.tag) settled.let_go.requests
    ∙ settled.done.left one.tag (ap (answers one.tag) said
    ∙ waits_unanswered one file now (once one.tag) (subst (Among one) (queues file) there))
    ∙ ap (λ (r : ℕ → FileRequest). r one.tag) comes.requests in
    let asked : (file : ℕ) → AreAsked (requests_in new.requests) (managed.queue_at manager.queues file) =
    λ file. asked_alike requests (requests_in new.requests) (managed.queue_at manager.queues file) (stays file)
    (are.asked file) in
    let opens : after.server.opens ≡ manager.opens = ap (λ (s : Server). s.opens) (sym are.without_bytes) in
    let serves : AreServer (requests_in new.requests) (managed.manager_of manager) (host_of new) after.server = record {
      without_bytes = are.without_bytes;
      waiting = λ file. are.waiting file
          ∙ filled_alike requests (requests_in new.requests) (managed.queue_at manager.queues file) (stays file);
      asked = asked;
      hosts = record {
        contents = ap (λ contents. numbered [] contents) settled.let_go.contents ∙ are.hosts.contents;
        handles = λ one there. settled.let_go.handles one (subst (Among one) opens there) ∙ are.hosts.handles one there;
        numbered = are.hosts.numbered;
      };
    } in
    let server : server_of (table_of manager new) ≡ after.server =
    server_is (requests_in new.requests) (managed.manager_of manager) (host_of new) after.server serves in record {
      server = server;
      outs = ap (λ (d : Hosted). d.outs) done ∙ law.1;
      is = record {
        sound = subst IsSound (sym server) (laws.sound (server_of old) call is.sound);
        asked = asked;
        once = λ tag. subst (λ (m : Manager). IsOnce tag (handling m)) (sym same) (waits_once tag now (once tag));
        below = λ file one there. subst (λ n. one.tag < n) (sym (settled.let_go.next ∙ settled.done.next))
            (⊎_elim (λ waited. comes.later one.tag (is.below waited.0 one waited.1))
            (λ came. comes.own one.held.client one.tag came.0 came.1)
            (laws.asked (managed.manager_of old.manager) coming file one (subst (Among one) (queues file) there)));
        handles = λ one there. serves.hosts.handles one (subst (Among one) (sym opens) there);
      };
    }
  where
    waits_once : (tag : ℕ) (now : Handling) → IsOnce tag now → IsOnce tag (handling now.manager)
    waits_once tag now once = record {
      file = once.file;
      once = let most = once.once in omega (arith, most);
      others = once.others;
    }

-- each request is answered once by what is told
pub told_once : Laws → (manager : managed.Table) (told : List Decision) (kept : Kept) → IsUnderWay manager told kept
    → (tag : ℕ) → answers tag told ≤ 1
told_once laws manager told kept way tag =
    let once = laws.once (managed.manager_of way.old.manager) way.coming way.is.once way.comes.free tag in
    let most = once.once in
    let same = ap (answers tag) way.said in omega (arith, most, same)

-- ---- what comes

abbrev pub AsksNothing : Coming → Type 0
AsksNothing (Coming.Asks client tag request) = ⊥
AsksNothing coming = ⊤

pub comes_alone : (old : Table) (coming : Coming) → AsksNothing coming → Comes old coming old.kept
comes_alone old (Coming.Asks client tag request) none = absurd none
comes_alone old coming none = record {
  free = tt;
  requests = refl;
  host = refl;
  later = λ tag less. less;
  own = λ client tag request is. absurd (cc is);
}

pub comes_asked : (old : Table) (kept : Kept) (client : ℕ) (request : FileRequest) → IsServer old
    → HasAsked request old.kept kept → Comes old (Coming.Asks client old.kept.next request) kept
comes_asked old kept client request is asked = record {
  free = λ file one there. let less = is.below file one there in grind (arith, nat_tests, less);
  requests = asked.requests;
  host = ap₂ (λ contents handles. record { contents = numbered [] contents; handles = handles_in handles }) asked.contents
      asked.handles;
  later = λ tag less. let next = asked.next in omega (arith, less, next);
  own = λ client tag request is. let next = asked.next in let same = tag_of is in omega (arith, next, same);
}
  where
    tag_of : {a b : ℕ} {n m : ℕ} {r q : FileRequest} → Coming.Asks a n r ≡ Coming.Asks b m q → n ≡ m
    tag_of e = cc e

-- what came, and what the manager did with it
abbrev pub way : (old : Table) (coming : Coming) (kept : Kept) (manager : managed.Table) (told given : List code.Decision)
    → IsServer old → Comes old coming kept → told ≡ given
    → IsAfter manager given (managed (managed.manager_of old.manager) coming) → IsUnderWay manager (decisions told) kept
way old coming kept manager told given is comes same after = record {
  old = old;
  coming = coming;
  is = is;
  comes = comes;
  same = after.manager;
  said = ap decisions same ∙ after.told;
}

-- the same of what asks nothing
abbrev pub way_alone : (old : Table) (coming : Coming) (manager : managed.Table) (told given : List code.Decision)
    → AsksNothing coming → IsServer old → told ≡ given
    → IsAfter manager given (managed (managed.manager_of old.manager) coming) → IsUnderWay manager (decisions told) old.kept
way_alone old coming manager told given none is same after =
    way old coming old.kept manager told given is (comes_alone old coming none) same after

-- ---- calls that don't apply

pub idle_called : (old : Table) (call : Call) → IsServer old → called (server_of old) call ≡ begun (server_of old)
    → IsCalled old call old []
idle_called old call is none = record {
  server = sym (ap (λ (p : Progress). p.server) none);
  outs = sym (ap (λ (p : Progress). p.outs) none);
  is = is;
}

pub join_idles : (server : Server) (client : ℕ) → server.present client ≡ true → called server (Call.Join client) ≡ begun server
unfolding join
join_idles server client up = rw (up) refl

pub receive_idles : (server : Server) (client : ℕ) (request : Request) → server.present client ≡ false
    → called server (Call.Receive client request) ≡ begun server
unfolding receive
receive_idles server client request down = rw (down) refl

pub cut_idles : (server : Server) (client : ℕ) → server.present client ≡ false → called server (Call.Cut client) ≡ begun server
unfolding cut
cut_idles server client down = rw (down) refl

pub expire_idles : (server : Server) (key : Key) → is_breaking (server.leases key) ≡ false
    → called server (Call.Expire key) ≡ begun server
unfolding expire
expire_idles server key settled = rw (settled) refl

pub scavenge_idles : (server : Server) (file_id : ℕ) → list_any (is_left_behind file_id) server.opens ≡ false
    → called server (Call.Scavenge file_id) ≡ begun server
unfolding scavenge
scavenge_idles server file_id none = rw (none) refl

-- a create whose contexts have a fault
refused_create : (old : Table) (client file : ℕ) (access : Access) (share : Share) → IsServer old
    → (server_of old).present client ≡ true
    → IsCalled old (Call.Receive client (Request.OnFile (FileRequest.Create file access share None))) old
    (Out.Sent client (Reply.CreateFailed file Status.InvalidParameter) ∷ [])
unfolding receive arrived
refused_create old client file access share is up = record { server = rw (up) refl; outs = rw (up) refl; is = is }

pub faulty_create : (old : Table) (client file : ℕ) (access : Access) (share : Share) (fault : WireFault)
    (found : Result CreateView WireFault) (outs given : List Out) → IsServer old → (server_of old).present client ≡ true
    → Err fault ≡ found → outs ≡ [] → given ≡ outs ++ Out.Sent client (Reply.CreateFailed file Status.InvalidParameter) ∷ []
    → IsCalled old (Call.Receive client (Request.OnFile (FileRequest.Create file access share (ask_found found)))) old given
faulty_create old client file access share fault found outs given is up faulty none told =
    subst (λ (r : Result CreateView WireFault). IsCalled old
    (Call.Receive client (Request.OnFile (FileRequest.Create file access share (ask_found r)))) old given) faulty
    (subst (λ (o : List Out). IsCalled old (Call.Receive client (Request.OnFile (FileRequest.Create file access share None)))
    old o)
    (sym (told ∙ ap (λ (o : List Out). o ++ Out.Sent client (Reply.CreateFailed file Status.InvalidParameter) ∷ []) none))
    (refused_create old client file access share is up))
