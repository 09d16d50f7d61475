-- What a look at a request finds: each of the findings, with why it is found. Whatever holds of each holds of every look.
use Rattle.lease_laws.proofs.Words.{◌≡◌, Access, CreateAsk, FileRequest, Finding, None, Open, Option, Patch, Server}
use Rattle.lease_laws.proofs.Words.{Share, Some, Status, ℕ, [], all_wants, awaits, by_open, connected_open, conflicts_on, false}
use Rattle.lease_laws.proofs.Words.{finding, handle_wants, has_file, is_empty, is_leased_elsewhere, is_within_limit}
use Rattle.lease_laws.proofs.Words.{List, key_of_open, list_any, may_read, may_write, own_key, refl, subst, sym, true}
use Rattle.lease_laws.proofs.Words.{Want, asked_finding, if◌then◌else◌, read_finding, write_finding, write_wants, ⊤}
use Rattle.lease_laws.proofs.server.Lists.{either}
use Rattle.lease_laws.proofs.server.cases.Ends.{IsFoundOpen, found_open}

-- a create that asks for a new open, of a file that is there; its key has no lease on another
pub record IsAtHome (server : Server) (client file : ℕ) (ask : CreateAsk) : Type 0 where
  pub there : has_file server file ≡ true
  pub anew : ask.reconnect ≡ None
  pub home : is_leased_elsewhere server (own_key client ask.lease) file ≡ false

-- a request by an open
abbrev pub NamesOpen : FileRequest → ℕ → Type 0
NamesOpen (FileRequest.Create file access share contexts) file_id = ⊥
NamesOpen (FileRequest.Read named) file_id = named ≡ file_id
NamesOpen (FileRequest.Write named number patch) file_id = named ≡ file_id
NamesOpen (FileRequest.Close named) file_id = named ≡ file_id

pub record HasFindings (server : Server) (client : ℕ) (P : FileRequest → Finding → Type 0) : Type 0 where
  pub malformed : (file : ℕ) (access : Access) (share : Share)
      → P (FileRequest.Create file access share None) (Finding.Fails Status.InvalidParameter)
  pub nowhere : (file : ℕ) (access : Access) (share : Share) (ask : CreateAsk) → has_file server file ≡ false
      → P (FileRequest.Create file access share (Some ask)) (Finding.Fails Status.ObjectNameNotFound)
  pub elsewhere : (file : ℕ) (access : Access) (share : Share) (ask : CreateAsk) → has_file server file ≡ true
      → ask.reconnect ≡ None → is_leased_elsewhere server (own_key client ask.lease) file ≡ true
      → P (FileRequest.Create file access share (Some ask)) (Finding.Fails Status.InvalidParameter)
  pub violates : (file : ℕ) (access : Access) (share : Share) (ask : CreateAsk) → IsAtHome server client file ask
      → list_any (conflicts_on file access share) server.opens ≡ true
      → is_empty (handle_wants server (own_key client ask.lease) file access share) ≡ true
      → P (FileRequest.Create file access share (Some ask)) (Finding.Fails Status.SharingViolation)
  pub conflicts : (file : ℕ) (access : Access) (share : Share) (ask : CreateAsk) → IsAtHome server client file ask
      → list_any (conflicts_on file access share) server.opens ≡ true
      → is_empty (handle_wants server (own_key client ask.lease) file access share) ≡ false
      → P (FileRequest.Create file access share (Some ask))
      (Finding.Needs (handle_wants server (own_key client ask.lease) file access share))
  pub enters : (file : ℕ) (access : Access) (share : Share) (ask : CreateAsk) → IsAtHome server client file ask
      → list_any (conflicts_on file access share) server.opens ≡ false
      → P (FileRequest.Create file access share (Some ask))
      (Finding.Needs (write_wants server (own_key client ask.lease) file))
  pub awaited : (file : ℕ) (access : Access) (share : Share) (ask : CreateAsk) (file_id : ℕ) → has_file server file ≡ true
      → ask.reconnect ≡ Some file_id
      → list_any (awaits client file (own_key client ask.lease) file_id) server.opens ≡ true
      → P (FileRequest.Create file access share (Some ask)) (Finding.Needs [])
  pub forgotten : (file : ℕ) (access : Access) (share : Share) (ask : CreateAsk) (file_id : ℕ) → has_file server file ≡ true
      → ask.reconnect ≡ Some file_id
      → list_any (awaits client file (own_key client ask.lease) file_id) server.opens ≡ false
      → P (FileRequest.Create file access share (Some ask)) (Finding.Fails Status.ObjectNameNotFound)
  pub gone : (request : FileRequest) (file_id : ℕ) → NamesOpen request file_id
      → connected_open server client file_id ≡ None → P request (Finding.Fails Status.FileClosed)
  pub unread : (file_id : ℕ) (one : Open) → IsFoundOpen server client file_id one → may_read one.access ≡ false
      → P (FileRequest.Read file_id) (Finding.Fails Status.AccessDenied)
  pub reads : (file_id : ℕ) (one : Open) → IsFoundOpen server client file_id one → may_read one.access ≡ true
      → P (FileRequest.Read file_id) (Finding.Needs [])
  pub unwritten : (file_id number : ℕ) (patch : Patch) (one : Open) → IsFoundOpen server client file_id one
      → may_write one.access ≡ false → P (FileRequest.Write file_id number patch) (Finding.Fails Status.AccessDenied)
  pub too_long : (file_id number : ℕ) (patch : Patch) (one : Open) → IsFoundOpen server client file_id one
      → may_write one.access ≡ true → is_within_limit patch ≡ false
      → P (FileRequest.Write file_id number patch) (Finding.Fails Status.InvalidParameter)
  pub writes : (file_id number : ℕ) (patch : Patch) (one : Open) → IsFoundOpen server client file_id one
      → may_write one.access ≡ true → is_within_limit patch ≡ true
      → P (FileRequest.Write file_id number patch) (Finding.Needs (all_wants server (key_of_open one) one.file))
  pub closes : (file_id : ℕ) (one : Open) → IsFoundOpen server client file_id one
      → P (FileRequest.Close file_id) (Finding.Needs [])

-- ---- a look, by the request

pub look_for_create : (server : Server) (client file : ℕ) (access : Access) (share : Share) (ask : CreateAsk)
    → finding server client (FileRequest.Create file access share (Some ask)) ≡ (if has_file server file
    then asked_finding server client file access share ask.lease ask.reconnect else Finding.Fails Status.ObjectNameNotFound)
unfolding finding
look_for_create server client file access share ask = refl

pub look_for_read : (server : Server) (client file_id : ℕ)
    → finding server client (FileRequest.Read file_id) ≡ by_open (connected_open server client file_id) read_finding
unfolding finding
look_for_read server client file_id = refl

pub look_for_write : (server : Server) (client file_id number : ℕ) (patch : Patch)
    → finding server client (FileRequest.Write file_id number patch)
    ≡ by_open (connected_open server client file_id) (λ one. write_finding server one patch)
unfolding finding
look_for_write server client file_id number patch = refl

pub look_for_close : (server : Server) (client file_id : ℕ) → finding server client (FileRequest.Close file_id)
    ≡ by_open (connected_open server client file_id) (λ one. Finding.Needs [])
unfolding finding
look_for_close server client file_id = refl

-- ---- each of them is found

pub finds_malformed : (server : Server) (client file : ℕ) (access : Access) (share : Share)
    → finding server client (FileRequest.Create file access share None) ≡ Finding.Fails Status.InvalidParameter
unfolding finding
finds_malformed server client file access share = refl

pub finds_nowhere : (server : Server) (client file : ℕ) (access : Access) (share : Share) (ask : CreateAsk)
    → has_file server file ≡ false
    → finding server client (FileRequest.Create file access share (Some ask)) ≡ Finding.Fails Status.ObjectNameNotFound
unfolding finding
finds_nowhere server client file access share ask away = rw (away) refl

pub finds_elsewhere : (server : Server) (client file : ℕ) (access : Access) (share : Share) (ask : CreateAsk)
    → has_file server file ≡ true → ask.reconnect ≡ None
    → is_leased_elsewhere server (own_key client ask.lease) file ≡ true
    → finding server client (FileRequest.Create file access share (Some ask)) ≡ Finding.Fails Status.InvalidParameter
unfolding finding
finds_elsewhere server client file access share ask there anew away = rw (there, anew, away) refl

pub finds_violation : (server : Server) (client file : ℕ) (access : Access) (share : Share) (ask : CreateAsk)
    → IsAtHome server client file ask → list_any (conflicts_on file access share) server.opens ≡ true
    → is_empty (handle_wants server (own_key client ask.lease) file access share) ≡ true
    → finding server client (FileRequest.Create file access share (Some ask)) ≡ Finding.Fails Status.SharingViolation
unfolding finding
finds_violation server client file access share ask at clash none = rw (at.there, at.anew, at.home, clash, none) refl

pub finds_handles : (server : Server) (client file : ℕ) (access : Access) (share : Share) (ask : CreateAsk)
    → IsAtHome server client file ask → list_any (conflicts_on file access share) server.opens ≡ true
    → is_empty (handle_wants server (own_key client ask.lease) file access share) ≡ false
    → finding server client (FileRequest.Create file access share (Some ask))
    ≡ Finding.Needs (handle_wants server (own_key client ask.lease) file access share)
unfolding finding
finds_handles server client file access share ask at clash some = rw (at.there, at.anew, at.home, clash, some) refl

pub finds_writes : (server : Server) (client file : ℕ) (access : Access) (share : Share) (ask : CreateAsk)
    → IsAtHome server client file ask → list_any (conflicts_on file access share) server.opens ≡ false
    → finding server client (FileRequest.Create file access share (Some ask))
    ≡ Finding.Needs (write_wants server (own_key client ask.lease) file)
unfolding finding
finds_writes server client file access share ask at calm = rw (at.there, at.anew, at.home, calm) refl

pub finds_awaited : (server : Server) (client file : ℕ) (access : Access) (share : Share) (ask : CreateAsk) (file_id : ℕ)
    → has_file server file ≡ true → ask.reconnect ≡ Some file_id
    → list_any (awaits client file (own_key client ask.lease) file_id) server.opens ≡ true
    → finding server client (FileRequest.Create file access share (Some ask)) ≡ Finding.Needs []
unfolding finding
finds_awaited server client file access share ask file_id there again some = rw (there, again, some) refl

pub finds_forgotten : (server : Server) (client file : ℕ) (access : Access) (share : Share) (ask : CreateAsk) (file_id : ℕ)
    → has_file server file ≡ true → ask.reconnect ≡ Some file_id
    → list_any (awaits client file (own_key client ask.lease) file_id) server.opens ≡ false
    → finding server client (FileRequest.Create file access share (Some ask)) ≡ Finding.Fails Status.ObjectNameNotFound
unfolding finding
finds_forgotten server client file access share ask file_id there again none = rw (there, again, none) refl

pub finds_gone : (server : Server) (client : ℕ) (request : FileRequest) (file_id : ℕ) → NamesOpen request file_id
    → connected_open server client file_id ≡ None → finding server client request ≡ Finding.Fails Status.FileClosed
unfolding finding
finds_gone server client (FileRequest.Create file access share contexts) file_id names none = absurd names
finds_gone server client (FileRequest.Read named) file_id names none = rw (names, none) refl
finds_gone server client (FileRequest.Write named number patch) file_id names none = rw (names, none) refl
finds_gone server client (FileRequest.Close named) file_id names none = rw (names, none) refl

pub finds_unread : (server : Server) (client file_id : ℕ) (one : Open) → connected_open server client file_id ≡ Some one
    → may_read one.access ≡ false → finding server client (FileRequest.Read file_id) ≡ Finding.Fails Status.AccessDenied
unfolding finding
finds_unread server client file_id one found may = rw (found, may) refl

pub finds_read : (server : Server) (client file_id : ℕ) (one : Open) → connected_open server client file_id ≡ Some one
    → may_read one.access ≡ true → finding server client (FileRequest.Read file_id) ≡ Finding.Needs []
unfolding finding
finds_read server client file_id one found may = rw (found, may) refl

pub finds_unwritten : (server : Server) (client file_id number : ℕ) (patch : Patch) (one : Open)
    → connected_open server client file_id ≡ Some one → may_write one.access ≡ false
    → finding server client (FileRequest.Write file_id number patch) ≡ Finding.Fails Status.AccessDenied
unfolding finding
finds_unwritten server client file_id number patch one found may = rw (found, may) refl

pub finds_long : (server : Server) (client file_id number : ℕ) (patch : Patch) (one : Open)
    → connected_open server client file_id ≡ Some one → may_write one.access ≡ true → is_within_limit patch ≡ false
    → finding server client (FileRequest.Write file_id number patch) ≡ Finding.Fails Status.InvalidParameter
unfolding finding
finds_long server client file_id number patch one found may long = rw (found, may, long) refl

pub finds_all : (server : Server) (client file_id number : ℕ) (patch : Patch) (one : Open)
    → connected_open server client file_id ≡ Some one → may_write one.access ≡ true → is_within_limit patch ≡ true
    → finding server client (FileRequest.Write file_id number patch)
    ≡ Finding.Needs (all_wants server (key_of_open one) one.file)
unfolding finding
finds_all server client file_id number patch one found may fits = rw (found, may, fits) refl

pub finds_close : (server : Server) (client file_id : ℕ) (one : Open) → connected_open server client file_id ≡ Some one
    → finding server client (FileRequest.Close file_id) ≡ Finding.Needs []
unfolding finding
finds_close server client file_id one found = rw (found) refl

-- ---- every look finds one of them

anew_found : (server : Server) (client : ℕ) (P : FileRequest → Finding → Type 0) → HasFindings server client P
    → (file : ℕ) (access : Access) (share : Share) (ask : CreateAsk) → has_file server file ≡ true → ask.reconnect ≡ None
    → P (FileRequest.Create file access share (Some ask))
    (finding server client (FileRequest.Create file access share (Some ask)))
anew_found server client P h file access share ask there anew =
    let request = FileRequest.Create file access share (Some ask) in
    either (is_leased_elsewhere server (own_key client ask.lease) file)
    (λ away. subst (P request) (sym (finds_elsewhere server client file access share ask there anew away))
    (h.elsewhere file access share ask there anew away))
    (λ home. let at : IsAtHome server client file ask = record { there = there; anew = anew; home = home } in
    either (list_any (conflicts_on file access share) server.opens)
    (λ clash. either (is_empty (handle_wants server (own_key client ask.lease) file access share))
    (λ none. subst (P request) (sym (finds_violation server client file access share ask at clash none))
    (h.violates file access share ask at clash none))
    (λ some. subst (P request) (sym (finds_handles server client file access share ask at clash some))
    (h.conflicts file access share ask at clash some)))
    (λ calm. subst (P request) (sym (finds_writes server client file access share ask at calm))
    (h.enters file access share ask at calm)))

again_found : (server : Server) (client : ℕ) (P : FileRequest → Finding → Type 0) → HasFindings server client P
    → (file : ℕ) (access : Access) (share : Share) (ask : CreateAsk) → has_file server file ≡ true
    → (again : Option ℕ) → ask.reconnect ≡ again → P (FileRequest.Create file access share (Some ask))
    (finding server client (FileRequest.Create file access share (Some ask)))
again_found server client P h file access share ask there None anew =
    anew_found server client P h file access share ask there anew
again_found server client P h file access share ask there (Some file_id) again =
    let request = FileRequest.Create file access share (Some ask) in
    either (list_any (awaits client file (own_key client ask.lease) file_id) server.opens)
    (λ some. subst (P request) (sym (finds_awaited server client file access share ask file_id there again some))
    (h.awaited file access share ask file_id there again some))
    (λ none. subst (P request) (sym (finds_forgotten server client file access share ask file_id there again none))
    (h.forgotten file access share ask file_id there again none))

read_found : (server : Server) (client : ℕ) (P : FileRequest → Finding → Type 0) → HasFindings server client P
    → (file_id : ℕ) (one : Open) → connected_open server client file_id ≡ Some one
    → P (FileRequest.Read file_id) (finding server client (FileRequest.Read file_id))
read_found server client P h file_id one is =
    let own = found_open server client file_id one is in
    either (may_read one.access)
    (λ may. subst (P (FileRequest.Read file_id)) (sym (finds_read server client file_id one is may))
    (h.reads file_id one own may))
    (λ not. subst (P (FileRequest.Read file_id)) (sym (finds_unread server client file_id one is not))
    (h.unread file_id one own not))

write_found : (server : Server) (client : ℕ) (P : FileRequest → Finding → Type 0) → HasFindings server client P
    → (file_id number : ℕ) (patch : Patch) (one : Open) → connected_open server client file_id ≡ Some one
    → P (FileRequest.Write file_id number patch) (finding server client (FileRequest.Write file_id number patch))
write_found server client P h file_id number patch one is =
    let request = FileRequest.Write file_id number patch in
    let own = found_open server client file_id one is in
    either (may_write one.access)
    (λ may. either (is_within_limit patch)
    (λ fits. subst (P request) (sym (finds_all server client file_id number patch one is may fits))
    (h.writes file_id number patch one own may fits))
    (λ long. subst (P request) (sym (finds_long server client file_id number patch one is may long))
    (h.too_long file_id number patch one own may long)))
    (λ not. subst (P request) (sym (finds_unwritten server client file_id number patch one is not))
    (h.unwritten file_id number patch one own not))

named_found : (server : Server) (client : ℕ) (P : FileRequest → Finding → Type 0) → HasFindings server client P
    → (request : FileRequest) (file_id : ℕ) → NamesOpen request file_id → (found : Option Open)
    → connected_open server client file_id ≡ found
    → ((one : Open) → connected_open server client file_id ≡ Some one → P request (finding server client request))
    → P request (finding server client request)
named_found server client P h request file_id names None is each =
    subst (P request) (sym (finds_gone server client request file_id names is)) (h.gone request file_id names is)
named_found server client P h request file_id names (Some one) is each = each one is

pub any_finding : (server : Server) (client : ℕ) (P : FileRequest → Finding → Type 0) → HasFindings server client P
    → (request : FileRequest) → P request (finding server client request)
any_finding server client P h (FileRequest.Create file access share None) =
    subst (P (FileRequest.Create file access share None)) (sym (finds_malformed server client file access share))
    (h.malformed file access share)
any_finding server client P h (FileRequest.Create file access share (Some ask)) = either (has_file server file)
    (λ there. again_found server client P h file access share ask there ask.reconnect refl)
    (λ away. subst (P (FileRequest.Create file access share (Some ask)))
    (sym (finds_nowhere server client file access share ask away)) (h.nowhere file access share ask away))
any_finding server client P h (FileRequest.Read file_id) = named_found server client P h (FileRequest.Read file_id) file_id refl
    (connected_open server client file_id) refl (read_found server client P h file_id)
any_finding server client P h (FileRequest.Write file_id number patch) =
    named_found server client P h (FileRequest.Write file_id number patch) file_id refl
    (connected_open server client file_id) refl (write_found server client P h file_id number patch)
any_finding server client P h (FileRequest.Close file_id) = named_found server client P h (FileRequest.Close file_id) file_id refl
    (connected_open server client file_id) refl
    (λ one is. subst (P (FileRequest.Close file_id)) (sym (finds_close server client file_id one is))
    (h.closes file_id (one) (found_open server client file_id one is)))

-- ---- what is wanted, where the request isn't refused

pub record HasNeeds (server : Server) (client : ℕ) (P : FileRequest → List Want → Type 0) : Type 0 where
  pub conflicts : (file : ℕ) (access : Access) (share : Share) (ask : CreateAsk) → IsAtHome server client file ask
      → list_any (conflicts_on file access share) server.opens ≡ true
      → is_empty (handle_wants server (own_key client ask.lease) file access share) ≡ false
      → P (FileRequest.Create file access share (Some ask)) (handle_wants server (own_key client ask.lease) file access share)
  pub enters : (file : ℕ) (access : Access) (share : Share) (ask : CreateAsk) → IsAtHome server client file ask
      → list_any (conflicts_on file access share) server.opens ≡ false
      → P (FileRequest.Create file access share (Some ask)) (write_wants server (own_key client ask.lease) file)
  pub awaited : (file : ℕ) (access : Access) (share : Share) (ask : CreateAsk) (file_id : ℕ) → has_file server file ≡ true
      → ask.reconnect ≡ Some file_id
      → list_any (awaits client file (own_key client ask.lease) file_id) server.opens ≡ true
      → P (FileRequest.Create file access share (Some ask)) []
  pub reads : (file_id : ℕ) (one : Open) → IsFoundOpen server client file_id one → may_read one.access ≡ true
      → P (FileRequest.Read file_id) []
  pub writes : (file_id number : ℕ) (patch : Patch) (one : Open) → IsFoundOpen server client file_id one
      → may_write one.access ≡ true → is_within_limit patch ≡ true
      → P (FileRequest.Write file_id number patch) (all_wants server (key_of_open one) one.file)
  pub closes : (file_id : ℕ) (one : Open) → IsFoundOpen server client file_id one → P (FileRequest.Close file_id) []

abbrev Wanted : (FileRequest → List Want → Type 0) → FileRequest → Finding → Type 0
Wanted P request (Finding.Fails status) = ⊤
Wanted P request (Finding.Needs wants) = P request wants

pub any_needs : (server : Server) (client : ℕ) (P : FileRequest → List Want → Type 0) → HasNeeds server client P
    → (request : FileRequest) (wants : List Want) → finding server client request ≡ Finding.Needs wants → P request wants
any_needs server client P h request wants is = subst (Wanted P request) is (any_finding server client (Wanted P) (record {
  malformed = λ file access share. tt;
  nowhere = λ file access share ask away. tt;
  elsewhere = λ file access share ask there anew away. tt;
  violates = λ file access share ask at clash none. tt;
  conflicts = h.conflicts;
  enters = h.enters;
  awaited = h.awaited;
  forgotten = λ file access share ask file_id there again none. tt;
  gone = λ request file_id names none. tt;
  unread = λ file_id one own not. tt;
  reads = h.reads;
  unwritten = λ file_id number patch one own not. tt;
  too_long = λ file_id number patch one own may long. tt;
  writes = h.writes;
  closes = h.closes;
}) request)
