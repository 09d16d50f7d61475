-- What a look at an open says of requests by it, and that a request which goes at once only goes on.
use Rattle.lease_laws.proofs.Words.{◌&&◌, ◌++◌, ◌∙◌, ◌∷◌, ◌≡◌, Bool, FileRequest, Finding, Key, Lease, List, None, Ok, Open}
use Rattle.lease_laws.proofs.Words.{Option, Outcome, Progress, Result, Server, Some, Status, Tried, Want, ℕ, [], ap, ap₂, as_held}
use Rattle.lease_laws.proofs.Words.{begun, concluded, connected_open, false, file_asked, finding, if◌then◌else◌, is_behind}
use Rattle.lease_laws.proofs.Words.{key_of_open, list_all, list_any, not, refl, subst, sym, true}
use Rattle.lease_laws.proofs.Words.{Err, arith, inl, inr}
use Rattle.lease_laws.proofs.server.Lists.{and_parts, clash, either, not_parts}
use Rattle.lease_laws.proofs.server.cases.Ends.{ends_changed, ends_read, found_open}
use Rattle.lease_laws.proofs.server.cases.Tries.{round_ends, round_fails}
use Rattle.lease_model.specs.server.Answers.{changed, read_done}
use Rattle.lease_model.specs.server.Calls.{file_of_open}
use Rattle.lease_model.specs.server.Findings.{by_open, read_finding, write_finding}
use Rattle.lease_model.specs.server.Ready.{breaks_to_none, is_ready}
use Rattle.lease_model.specs.server.Wants.{all_wants}
use Rattle.lease_model.specs.values.Sharing.{may_read, may_write}
use Rattle.manager_model.specs.Decisions.{Decision}
use Rattle.manager_model.specs.Handling.{Handling, Manager, after_first_try, arrived, arrived_before, ends, first_tried, gone_on}
use Rattle.manager_model.specs.Handling.{handling, receive, tagged_of}
use Rattle.lease_manager.specs.Always.{IsManager}
use Rattle.lease_manager.specs.Hindering.{is_hinderer}
use Rattle.lease_manager.specs.Questions.{IsNotDone, ReadsElseAreNotDone}
use Rattle.lease_manager.specs.Questions.{GoesOnly, ReadsGoOnAsTold, WritesGoOnAsTold, goes_at_once, has_its_turn, is_answerable}
use Rattle.lease_manager.specs.Requests.{patch_like}
use Rattle.lease_manager.specs.Table.{Table, manager_of, server_of}
use Rattle.lease_manager.proofs.sums.Hindering.{hindered_unready, unhindered_ready}
use Rattle.lease_manager.proofs.tries.Ending.{none_between}

-- ---- looks

looked_at : (request : FileRequest) (leases : Key → Lease) (allowed : Bool) (wants : List Want) (status : Status)
    → is_answerable request leases (if allowed then Finding.Needs wants else Finding.Fails status)
    ≡ (allowed && is_ready request leases wants)
looked_at request leases true wants status = refl
looked_at request leases false wants status = refl

-- a read by the open
pub reads_by : (server : Server) (client file_id : ℕ) (one : Open) → Some one ≡ connected_open server client file_id
    → (may_read one.access && has_its_turn server (as_held server client (FileRequest.Read file_id)) (Ok one.file))
    ≡ goes_at_once server client (FileRequest.Read file_id)
unfolding finding
reads_by server client file_id one is =
    let request = FileRequest.Read file_id in
    ap₂ (λ (b : Bool) (f : Result ℕ Status). b && has_its_turn server (as_held server client request) f)
    (and_all (may_read one.access) ∙ sym (looked_at request server.leases (may_read one.access) [] Status.AccessDenied)
    ∙ ap (λ (o : Option Open). is_answerable request server.leases (by_open o read_finding)) is)
    (ap file_of_open is)
  where
    and_all : (b : Bool) → b ≡ (b && true)
    and_all true = refl
    and_all false = refl

-- by none
pub reads_none : (server : Server) (client file_id : ℕ) → None ≡ connected_open server client file_id
    → false ≡ goes_at_once server client (FileRequest.Read file_id)
unfolding finding
reads_none server client file_id is =
    let request = FileRequest.Read file_id in
    ap₂ (λ (b : Bool) (f : Result ℕ Status). b && has_its_turn server (as_held server client request) f)
    (ap (λ (o : Option Open). is_answerable request server.leases (by_open o read_finding)) is) (ap file_of_open is)

-- what a write wants is breaking to nothing where nothing hinders it
ready_alike : (server : Server) (own : Option Key) (file : ℕ)
    → not (list_any (is_hinderer server own file) server.opens)
    ≡ list_all (λ want. breaks_to_none (server.leases want.key)) (all_wants server own file)
ready_alike server own file = either (list_any (is_hinderer server own file) server.opens)
    (λ some. ap not some ∙ sym (hindered_unready server own file some))
    (λ none. ap not none ∙ sym (unhindered_ready server own file none))

-- a write by the open that ends within the limit of a file
pub writes_by : (server : Server) (client file_id : ℕ) (one : Open) → Some one ≡ connected_open server client file_id
    → ((may_write one.access && not (list_any (is_hinderer server (key_of_open one) one.file) server.opens))
    && has_its_turn server (as_held server client (FileRequest.Write file_id 0 (patch_like true))) (Ok one.file))
    ≡ goes_at_once server client (FileRequest.Write file_id 0 (patch_like true))
unfolding finding
writes_by server client file_id one is =
    let request = FileRequest.Write file_id 0 (patch_like true) in
    ap₂ (λ (b : Bool) (f : Result ℕ Status). b && has_its_turn server (as_held server client request) f)
    (ap (λ b. may_write one.access && b) (ready_alike server (key_of_open one) one.file)
    ∙ sym (looked_at request server.leases (may_write one.access) (all_wants server (key_of_open one) one.file)
    Status.AccessDenied)
    ∙ ap (λ (o : Option Open). is_answerable request server.leases
    (by_open o (λ x. write_finding server x (patch_like true)))) is)
    (ap file_of_open is)

pub writes_none : (server : Server) (client file_id : ℕ) → None ≡ connected_open server client file_id
    → false ≡ goes_at_once server client (FileRequest.Write file_id 0 (patch_like true))
unfolding finding
writes_none server client file_id is =
    let request = FileRequest.Write file_id 0 (patch_like true) in
    ap₂ (λ (b : Bool) (f : Result ℕ Status). b && has_its_turn server (as_held server client request) f)
    (ap (λ (o : Option Open). is_answerable request server.leases (by_open o (λ x. write_finding server x (patch_like true)))) is)
    (ap file_of_open is)

-- ---- what is told where it is asked

-- The request can be answered on this file.
record CanGo (server : Server) (client : ℕ) (request : FileRequest) (file : ℕ) : Type 0 where
  pub wants : List Want
  pub found : finding server client request ≡ Finding.Needs wants
  pub ready : is_ready request server.leases wants ≡ true
  pub asked : file_asked server client request ≡ Ok file
  pub first : is_behind server.rules (as_held server client request) (server.held file) ≡ false

abbrev ready_ends : Manager → ℕ → ℕ → FileRequest → Handling
ready_ends manager tag client request = gone_on tag (concluded client request (begun manager.server) Outcome.Ready)
    (ends manager.server (handling manager))

comes_first : (manager : Manager) (tag client file : ℕ) (request : FileRequest) → CanGo manager.server client request file
    → arrived_before (tagged_of manager.server tag client request) (handling manager) (Ok file)
    ≡ ready_ends manager tag client request
comes_first manager tag client file request can =
    let one = tagged_of manager.server tag client request in
    passes_by (is_behind manager.server.rules one.held (manager.server.held file)) _ _ can.first
    ∙ ap (λ (t : Tried). after_first_try file one (handling manager) t.progress t.outcome)
    (round_ends 2 client request (begun manager.server) can.wants can.found can.ready)
  where
    passes_by : {X : Type 0} (b : Bool) (x y : X) → b ≡ false → (if b then x else y) ≡ y
    passes_by true x y never = absurd (cc)
    passes_by false x y first = refl

comes : (manager : Manager) (tag client file : ℕ) (request : FileRequest) → CanGo manager.server client request file
    → first_tried tag client request (handling manager) ≡ ready_ends manager tag client request
comes manager tag client file request can =
    ap (arrived_before (tagged_of manager.server tag client request) (handling manager)) can.asked
    ∙ comes_first manager tag client file request can

received : (manager : Manager) (tag client : ℕ) (request : FileRequest) → manager.server.present client ≡ true
    → receive manager client tag request ≡ arrived tag client request (handling manager)
unfolding receive
received manager tag client request up = rw (up) refl

-- the client of the open is connected
is_up : (table : Table) (client file_id : ℕ) (one : Open) → IsManager table
    → connected_open (server_of table) client file_id ≡ Some one → (server_of table).present client ≡ true
is_up table client file_id one is found =
    let own = found_open (server_of table) client file_id one found in
    subst (λ n. (server_of table).present n ≡ true) own.by (is.waits.is_orderly.opens_up one own.there own.up)

read_found : (server : Server) (client file_id : ℕ) (one : Open) → connected_open server client file_id ≡ Some one
    → may_read one.access ≡ true → finding server client (FileRequest.Read file_id) ≡ Finding.Needs []
unfolding finding
read_found server client file_id one found allowed = ap (λ (o : Option Open). by_open o read_finding) found
    ∙ ap (λ b. if b then Finding.Needs [] else Finding.Fails Status.AccessDenied) allowed

write_found : (server : Server) (client file_id : ℕ) (one : Open) → connected_open server client file_id ≡ Some one
    → may_write one.access ≡ true
    → finding server client (FileRequest.Write file_id 0 (patch_like true))
    ≡ Finding.Needs (all_wants server (key_of_open one) one.file)
unfolding finding
write_found server client file_id one found allowed =
    ap (λ (o : Option Open). by_open o (λ x. write_finding server x (patch_like true))) found
    ∙ ap (λ b. if b then Finding.Needs (all_wants server (key_of_open one) one.file) else Finding.Fails Status.AccessDenied)
    allowed

read_goes : (table : Table) (client tag file_id : ℕ) → IsManager table
    → goes_at_once (server_of table) client (FileRequest.Read file_id) ≡ true → (found : Option Open)
    → connected_open (server_of table) client file_id ≡ found
    → GoesOnly (manager_of table) tag client (receive (manager_of table) client tag (FileRequest.Read file_id))
read_goes table client tag file_id is goes None found =
    clash (goes_at_once (server_of table) client (FileRequest.Read file_id)) goes
    (sym (reads_none (server_of table) client file_id (sym found)))
read_goes table client tag file_id is goes (Some one) found =
    let server = server_of table in
    let request = FileRequest.Read file_id in
    let parts = and_parts (may_read one.access) (has_its_turn server (as_held server client request) (Ok one.file))
    (reads_by server client file_id one (sym found) ∙ goes) in
    let can : CanGo server client request one.file = record {
      wants = [];
      found = read_found server client file_id one found parts.0;
      ready = refl;
      asked = ap file_of_open found;
      first = not_parts (is_behind server.rules (as_held server client request) (server.held one.file)) parts.1;
    } in
    let now : receive (manager_of table) client tag request
    ≡ gone_on tag (read_done client one.file file_id (begun server)) (ends server (handling (manager_of table))) =
    received (manager_of table) tag client request (is_up table client file_id one is found)
    ∙ comes (manager_of table) tag client one.file request can
    ∙ ap (λ (p : Progress). gone_on tag p (ends server (handling (manager_of table))))
    (ends_read client file_id one (begun server) found) in
    subst (GoesOnly (manager_of table) tag client) (sym now) (record {
      told = ap (λ l. l ++ Decision.GoesOn client tag ∷ []) (none_between server);
      opens = refl;
      leases = refl;
      queues = refl;
    })

write_goes : (table : Table) (client tag file_id : ℕ) → IsManager table
    → goes_at_once (server_of table) client (FileRequest.Write file_id 0 (patch_like true)) ≡ true → (found : Option Open)
    → connected_open (server_of table) client file_id ≡ found
    → GoesOnly (manager_of table) tag client
    (receive (manager_of table) client tag (FileRequest.Write file_id 0 (patch_like true)))
write_goes table client tag file_id is goes None found =
    clash (goes_at_once (server_of table) client (FileRequest.Write file_id 0 (patch_like true))) goes
    (sym (writes_none (server_of table) client file_id (sym found)))
write_goes table client tag file_id is goes (Some one) found =
    let server = server_of table in
    let request = FileRequest.Write file_id 0 (patch_like true) in
    let hindered = list_any (is_hinderer server (key_of_open one) one.file) server.opens in
    let parts = and_parts (may_write one.access && not hindered)
    (has_its_turn server (as_held server client request) (Ok one.file))
    (writes_by server client file_id one (sym found) ∙ goes) in
    let free = and_parts (may_write one.access) (not hindered) parts.0 in
    let can : CanGo server client request one.file = record {
      wants = all_wants server (key_of_open one) one.file;
      found = write_found server client file_id one found free.0;
      ready = sym (ready_alike server (key_of_open one) one.file) ∙ free.1;
      asked = ap file_of_open found;
      first = not_parts (is_behind server.rules (as_held server client request) (server.held one.file)) parts.1;
    } in
    let now : receive (manager_of table) client tag request
    ≡ gone_on tag (changed client one.file file_id 0 (patch_like true) (begun server))
    (ends server (handling (manager_of table))) =
    received (manager_of table) tag client request (is_up table client file_id one is found)
    ∙ comes (manager_of table) tag client one.file request can
    ∙ ap (λ (p : Progress). gone_on tag p (ends server (handling (manager_of table))))
    (ends_changed client file_id 0 (patch_like true) one (begun server) found) in
    subst (GoesOnly (manager_of table) tag client) (sym now) (record {
      told = ap (λ l. l ++ Decision.GoesOn client tag ∷ []) (none_between server);
      opens = refl;
      leases = refl;
      queues = refl;
    })

pub reads_go_on : (table : Table) → IsManager table → ReadsGoOnAsTold table
reads_go_on table is = λ client tag file_id goes.
    read_goes table client tag file_id is goes (connected_open (server_of table) client file_id) refl

pub writes_go_on : (table : Table) → IsManager table → WritesGoOnAsTold table
writes_go_on table is = λ client tag file_id goes.
    write_goes table client tag file_id is goes (connected_open (server_of table) client file_id) refl

-- ---- a read that isn't done at once

-- it comes to no open
unread : (manager : Manager) (tag client file_id : ℕ) (status : Status)
    → file_asked manager.server client (FileRequest.Read file_id) ≡ Err status
    → (first_tried tag client (FileRequest.Read file_id) (handling manager)).told ≡ Decision.Refused client tag status ∷ []
unread manager tag client file_id status asked =
    ap (λ (f : Result ℕ Status). (arrived_before (tagged_of manager.server tag client (FileRequest.Read file_id))
    (handling manager) f).told) asked

-- an earlier request goes first
read_waits : (manager : Manager) (tag client file_id file : ℕ)
    → file_asked manager.server client (FileRequest.Read file_id) ≡ Ok file
    → is_behind manager.server.rules (as_held manager.server client (FileRequest.Read file_id)) (manager.server.held file) ≡ true
    → (first_tried tag client (FileRequest.Read file_id) (handling manager)).told ≡ Decision.Waits client tag ∷ []
read_waits manager tag client file_id file asked behind =
    ap (λ (f : Result ℕ Status). (arrived_before (tagged_of manager.server tag client (FileRequest.Read file_id))
    (handling manager) f).told) asked ∙ rw (behind) refl

-- the open may not read
read_denied : (manager : Manager) (tag client file_id file : ℕ)
    → file_asked manager.server client (FileRequest.Read file_id) ≡ Ok file
    → is_behind manager.server.rules (as_held manager.server client (FileRequest.Read file_id)) (manager.server.held file) ≡ false
    → finding manager.server client (FileRequest.Read file_id) ≡ Finding.Fails Status.AccessDenied
    → (first_tried tag client (FileRequest.Read file_id) (handling manager)).told
    ≡ Decision.Refused client tag Status.AccessDenied ∷ []
read_denied manager tag client file_id file asked first fails =
    let request = FileRequest.Read file_id in
    let one = tagged_of manager.server tag client request in
    ap (λ (f : Result ℕ Status). (arrived_before one (handling manager) f).told) asked
    ∙ rw (first) (ap (λ (t : Tried). (after_first_try file one (handling manager) t.progress t.outcome).told)
    (round_fails 2 client request (begun manager.server) Status.AccessDenied fails))
    ∙ ap (λ l. l ++ Decision.Refused client tag Status.AccessDenied ∷ []) (none_between manager.server)

read_barred : (server : Server) (client file_id : ℕ) (one : Open) → connected_open server client file_id ≡ Some one
    → may_read one.access ≡ false → finding server client (FileRequest.Read file_id) ≡ Finding.Fails Status.AccessDenied
unfolding finding
read_barred server client file_id one found barred = ap (λ (o : Option Open). by_open o read_finding) found
    ∙ ap (λ b. if b then Finding.Needs [] else Finding.Fails Status.AccessDenied) barred

first_false : (a b : Bool) → (a && b) ≡ false → b ≡ true → a ≡ false
first_false a b none is = grind arith

read_tried : (table : Table) (client tag file_id : ℕ)
    → goes_at_once (server_of table) client (FileRequest.Read file_id) ≡ false → (found : Option Open)
    → connected_open (server_of table) client file_id ≡ found
    → IsNotDone tag client (first_tried tag client (FileRequest.Read file_id) (handling (manager_of table))).told
read_tried table client tag file_id stays None found =
    inr (inl (Status.FileClosed, unread (manager_of table) tag client file_id Status.FileClosed (ap file_of_open found)))
read_tried table client tag file_id stays (Some one) found =
    let server = server_of table in
    let request = FileRequest.Read file_id in
    let behind = is_behind server.rules (as_held server client request) (server.held one.file) in
    either behind
    (λ waits. inr (inr (read_waits (manager_of table) tag client file_id one.file (ap file_of_open found) waits)))
    (λ first.
    let barred : may_read one.access ≡ false = first_false (may_read one.access)
    (has_its_turn server (as_held server client request) (Ok one.file))
    (reads_by server client file_id one (sym found) ∙ stays) (ap not first) in
    inr (inl (
      Status.AccessDenied,
      read_denied (manager_of table) tag client file_id one.file (ap file_of_open found) first
          (read_barred server client file_id one found barred),
    )))

not_received : (manager : Manager) (tag client : ℕ) (request : FileRequest) → manager.server.present client ≡ false
    → receive manager client tag request ≡ handling manager
unfolding receive
not_received manager tag client request away = rw (away) refl

pub reads_else : (table : Table) → ReadsElseAreNotDone table
reads_else table = λ client tag file_id stays.
    either ((server_of table).present client)
    (λ up. subst (λ (h : Handling). IsNotDone tag client h.told)
    (sym (received (manager_of table) tag client (FileRequest.Read file_id) up))
    (read_tried table client tag file_id stays (connected_open (server_of table) client file_id) refl))
    (λ away. inl (ap (λ (h : Handling). h.told) (not_received (manager_of table) tag client (FileRequest.Read file_id) away)))
