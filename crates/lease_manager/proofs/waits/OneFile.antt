-- A look at a request about a file sees the opens on that file alone, and the leases of their keys.
use Rattle.lease_laws.proofs.Words.{◌&&◌, ◌==◌, ◌∙◌, ◌∷◌, ◌≡◌, Access, Among, Bool, CreateAsk, Decides-eqb, FileRequest}
use Rattle.lease_laws.proofs.Words.{Finding, Key, Lease, List, None, Open, Option, Patch, Server, Share, Some, State, Status}
use Rattle.lease_laws.proofs.Words.{Want, ℕ, [], all_wants, ap, arith, asked_finding, awaits, breaks_to_none, by_open}
use Rattle.lease_laws.proofs.Words.{conflicts_on, connected_open, create_finding, false, filter, find, finding, handle_wants}
use Rattle.lease_laws.proofs.Words.{has_file, has_key, holds_any, if◌then◌else◌, inr, is_breaking, is_key}
use Rattle.lease_laws.proofs.Words.{is_leased_elsewhere, is_left_open, is_other_on, is_ready, is_within_limit, key_of}
use Rattle.lease_laws.proofs.Words.{key_of_open, keys_of, lease_by, lease_of_open, list_all, list_any, map, may_write, not}
use Rattle.lease_laws.proofs.Words.{option_map, own_key, reconnect_finding, refl, subst, sym, true, waits_for, wants_where}
use Rattle.lease_laws.proofs.Words.{write_finding}
use Rattle.lease_laws.proofs.Words.{nothing_cached, without_handle, without_write, write_wants}
use Rattle.lease_laws.proofs.server.Keys.{is_key-refl}
use Rattle.lease_laws.proofs.server.Lists.{either, clash, and_parts, and_both, not_parts, not_true, among_filter, among_filtered}
use Rattle.lease_laws.proofs.server.Lists.{any_has, has_any, has_none, none_has, each_all, all_each}
use Rattle.lease_laws.proofs.server.Wants.{keys_of-has}
use Rattle.lease_laws.proofs.server.cases.Findings.{look_for_create, look_for_write}
use Rattle.lease_manager.specs.OneFile.{on_file, local, IsOnlyAbout}
use Rattle.lease_manager.specs.StillWaiting.{is_under_way, HasOnlyToWait}
use Rattle.lease_manager.specs.Looks.{is_elsewhere}
use Rattle.lease_manager.specs.Summaries.{is_on}

-- the test passes opens on the file alone
abbrev pub IsFor : ℕ → (Open → Bool) → Type 0
IsFor file test = (one : Open) → test one ≡ true → is_on file one ≡ true

pub any_on : (file : ℕ) (test : Open → Bool) (opens : List Open) → IsFor file test
    → list_any test (on_file file opens) ≡ list_any test opens
any_on file test [] only = refl
any_on file test (one ∷ opens) only = let later = any_on file test opens only in grind arith

filter_on : (file : ℕ) (here there : Open → Bool) (opens : List Open) → IsFor file there
    → ((one : Open) → Among one opens → is_on file one ≡ true → here one ≡ there one)
    → filter here (on_file file opens) ≡ filter there opens
filter_on file here there [] only same = refl
filter_on file here there (one ∷ opens) only same =
    let later = filter_on file here there opens only (λ other a. same other (inr a)) in grind arith

lease_here : (file : ℕ) (server : Server) (key : Key) (one : Open) → Among one server.opens → is_on file one ≡ true
    → has_key key one ≡ true → (local file server).leases key ≡ server.leases key
lease_here file server key one there on has =
    let some = has_any (has_key key) one (on_file file server.opens)
    (among_filtered (is_on file) one server.opens there on) has in
    rw some refl

lease_on : (file : ℕ) (server : Server) (one : Open) → Among one server.opens → is_on file one ≡ true
    → lease_of_open (local file server) one ≡ lease_of_open server one
lease_on file server one there on = go one.lease_key refl
  where
    go : (bytes : Option (List ℕ)) → one.lease_key ≡ bytes
        → lease_by (local file server) one.client bytes ≡ lease_by server one.client bytes
    go None is = refl
    go (Some bytes) is = lease_here file server (key_of one.client bytes) one there on
        (ap (is_key (key_of one.client bytes) one.client) is ∙ is_key-refl one.client bytes)

map_keys : (f g : Key → Want) (keys : List Key) → ((key : Key) → Among key keys → f key ≡ g key) → map f keys ≡ map g keys
map_keys f g [] same = refl
map_keys f g (key ∷ keys) same = let later = map_keys f g keys (λ other a. same other (inr a)) in grind arith

abbrev want_so : Server → (State → State) → Key → Want
want_so server lowering key = record { key = key; lowered = lowering (server.leases key).state }

wants_on : (file : ℕ) (server : Server) (here there : Open → Bool) (lowering : State → State) → IsFor file there
    → ((one : Open) → Among one server.opens → is_on file one ≡ true → here one ≡ there one)
    → wants_where (local file server) here lowering ≡ wants_where server there lowering
wants_on file server here there lowering only same = ap (λ opens. map (want_so (local file server) lowering) (keys_of opens))
    (filter_on file here there server.opens only same)
    ∙ map_keys (want_so (local file server) lowering) (want_so server lowering) (keys_of (filter there server.opens))
    (λ key a.
    let known = keys_of-has key (filter there server.opens) a in
    let was = among_filter there known.0 server.opens known.1 in
    ap (λ (lease : Lease). record { key = key; lowered = lowering lease.state })
    (lease_here file server key known.0 was.0 (only known.0 was.1) known.2))

conflicts_for : (file : ℕ) (access : Access) (share : Share) → IsFor file (conflicts_on file access share)
conflicts_for file access share one is = (and_parts (is_on file one) _ is).0

other_for : (own : Option Key) (file : ℕ) → IsFor file (is_other_on own file)
other_for own file one is = (and_parts (is_on file one) _ is).0

pub handles_on : (file : ℕ) (server : Server) (own : Option Key) (access : Access) (share : Share)
    → handle_wants (local file server) own file access share ≡ handle_wants server own file access share
handles_on file server own access share = wants_on file server _ _ without_handle
    (λ one is.
    let both = (and_parts (conflicts_on file access share one && is_other_on own file one) _ is).0 in
    conflicts_for file access share one (and_parts (conflicts_on file access share one) _ both).0)
    (λ one there on. ap (λ (lease : Lease). conflicts_on file access share one && is_other_on own file one && lease.state.handle)
    (lease_on file server one there on))

pub writes_on : (file : ℕ) (server : Server) (own : Option Key)
    → write_wants (local file server) own file ≡ write_wants server own file
writes_on file server own = wants_on file server _ _ without_write
    (λ one is. other_for own file one (and_parts (is_other_on own file one) _ is).0)
    (λ one there on. ap (λ (lease : Lease). is_other_on own file one && lease.state.write) (lease_on file server one there on))

pub all_on : (file : ℕ) (server : Server) (own : Option Key) → all_wants (local file server) own file ≡ all_wants server own file
all_on file server own = wants_on file server _ _ (λ state. nothing_cached)
    (λ one is. other_for own file one (and_parts (is_other_on own file one) _ is).0)
    (λ one there on.
    ap (λ (lease : Lease). is_other_on own file one && holds_any lease.state) (lease_on file server one there on))

elsewhere_here : (file : ℕ) (server : Server) (own : Option Key) → is_leased_elsewhere (local file server) own file ≡ false
elsewhere_here file server None = refl
elsewhere_here file server (Some key) = has_none (λ one. has_key key one && not (one.file == file)) (on_file file server.opens)
    (λ one a.
    let on = (among_filter (is_on file) one server.opens a).1 in
    either (has_key key one) (λ has. rw (has, on) refl) (λ has. rw has refl))

pub create_on : (file : ℕ) (server : Server) (own : Option Key) (access : Access) (share : Share)
    → is_leased_elsewhere server own file ≡ false
    → create_finding (local file server) own file access share ≡ create_finding server own file access share
create_on file server own access share home =
    let away = elsewhere_here file server own in
    let conflict = any_on file (conflicts_on file access share) server.opens (conflicts_for file access share) in
    let handles = handles_on file server own access share in
    let writes = writes_on file server own in
    rw (away, home, conflict, handles, writes) refl

-- ---- what a look finds

awaits_for : (client file : ℕ) (own : Option Key) (file_id : ℕ) → IsFor file (awaits client file own file_id)
awaits_for client file own file_id one is = grind arith

reconnect_on : (file : ℕ) (server : Server) (client : ℕ) (own : Option Key) (file_id : ℕ)
    → reconnect_finding (local file server) client file own file_id ≡ reconnect_finding server client file own file_id
reconnect_on file server client own file_id = ap (λ b. if b then Finding.Needs [] else Finding.Fails Status.ObjectNameNotFound)
    (any_on file (awaits client file own file_id) server.opens (awaits_for client file own file_id))

create_file : (file : ℕ) (server : Server) (client : ℕ) (access : Access) (share : Share) (ask : CreateAsk)
    → is_leased_elsewhere server (own_key client ask.lease) file ≡ false
    → finding (local file server) client (FileRequest.Create file access share (Some ask))
    ≡ finding server client (FileRequest.Create file access share (Some ask))
create_file file server client access share ask home = look_for_create (local file server) client file access share ask
    ∙ ap (λ found. if has_file server file then found else Finding.Fails Status.ObjectNameNotFound) (asked_on ask.reconnect)
    ∙ sym (look_for_create server client file access share ask)
  where
    asked_on : (again : Option ℕ) → asked_finding (local file server) client file access share ask.lease again
        ≡ asked_finding server client file access share ask.lease again
    asked_on None = create_on file server (own_key client ask.lease) access share home
    asked_on (Some file_id) = reconnect_on file server client (own_key client ask.lease) file_id

pub some_same : {X : Type 0} (x y : X) → Some x ≡ Some y → x ≡ y
some_same x y e = cc

pub found_on : (test p : Open → Bool) (opens : List Open) (one : Open) → find test opens ≡ Some one → p one ≡ true
    → find test (filter p opens) ≡ Some one
found_on test p [] one found is = absurd (cc found)
found_on test p (x ∷ xs) one found is = either (test x)
    (λ t.
    let same = some_same x one (rw t at found) in
    let passes : p x ≡ true = ap p same ∙ is in
    rw (passes, t) (ap Some same))
    (λ t.
    let later = found_on test p xs one (rw t at found) is in
    either (p x) (λ there. rw (there, t) later) (λ there. rw there later))

write_same : (file : ℕ) (server : Server) (one : Open) (patch : Patch) → one.file ≡ file
    → write_finding (local file server) one patch ≡ write_finding server one patch
write_same file server one patch same = ap (λ wants. if may_write one.access
    then (if is_within_limit patch then Finding.Needs wants else Finding.Fails Status.InvalidParameter)
    else Finding.Fails Status.AccessDenied)
    (subst (λ n. all_wants (local file server) (key_of_open one) n ≡ all_wants server (key_of_open one) n) (sym same)
    (all_on file server (key_of_open one)))

write_on : (file : ℕ) (server : Server) (client file_id number : ℕ) (patch : Patch)
    → option_map (λ one. one.file) (connected_open server client file_id) ≡ Some file
    → finding (local file server) client (FileRequest.Write file_id number patch)
    ≡ finding server client (FileRequest.Write file_id number patch)
write_on file server client file_id number patch about = look_for_write (local file server) client file_id number patch
    ∙ go (connected_open server client file_id) refl about ∙ sym (look_for_write server client file_id number patch)
  where
    go : (found : Option Open) → connected_open server client file_id ≡ found → option_map (λ one. one.file) found ≡ Some file
        → by_open (connected_open (local file server) client file_id) (λ one. write_finding (local file server) one patch)
        ≡ by_open (connected_open server client file_id) (λ one. write_finding server one patch)
    go None is there = absurd (cc there)
    go (Some one) is there =
        let same = some_same one.file file there in
        let here = found_on (λ x. x.file_id == file_id && x.client == client && x.connected) (is_on file) server.opens one is
        ((Decides-eqb one.file file).1 same) in
        ap (λ o. by_open o (λ x. write_finding (local file server) x patch)) here ∙ (write_same file server one patch same
        ∙ sym (ap (λ o. by_open o (λ x. write_finding server x patch)) is))

pub finding_on : (file : ℕ) (server : Server) (client : ℕ) (request : FileRequest)
    → IsOnlyAbout server file client request → finding (local file server) client request ≡ finding server client request
finding_on file server client (FileRequest.Create other access share None) about = absurd about
finding_on file server client (FileRequest.Create other access share (Some ask)) about =
    subst (λ n. finding (local file server) client (FileRequest.Create n access share (Some ask))
    ≡ finding server client (FileRequest.Create n access share (Some ask))) (sym about.0)
    (create_file file server client access share ask about.1)
finding_on file server client (FileRequest.Read file_id) about = absurd about
finding_on file server client (FileRequest.Write file_id number patch) about =
    write_on file server client file_id number patch about
finding_on file server client (FileRequest.Close file_id) about = absurd about

-- ---- what is under way

lease_same : (file : ℕ) (server : Server) (key : Key) → list_any (has_key key) (on_file file server.opens) ≡ true
    → (local file server).leases key ≡ server.leases key
lease_same file server key some = rw some refl

abbrev AreAlike : (Key → Lease) → (Key → Lease) → List Want → Type 0
AreAlike leases others wants = (want : Want) → Among want wants → leases want.key ≡ others want.key

none_alike : (leases others : Key → Lease) (wants : List Want) → AreAlike leases others wants
    → list_all (λ want. breaks_to_none (leases want.key)) wants ≡ list_all (λ want. breaks_to_none (others want.key)) wants
none_alike leases others [] same = refl
none_alike leases others (want ∷ wants) same =
    let later = none_alike leases others wants (λ other a. same other (inr a)) in grind arith

ready_alike : (request : FileRequest) (leases others : Key → Lease) (wants : List Want) → AreAlike leases others wants
    → is_ready request leases wants ≡ is_ready request others wants
ready_alike (FileRequest.Create file access share contexts) leases others wants same = refl
ready_alike (FileRequest.Read file_id) leases others wants same = refl
ready_alike (FileRequest.Write file_id number patch) leases others wants same = none_alike leases others wants same
ready_alike (FileRequest.Close file_id) leases others wants same = refl

must_alike : (request : FileRequest) (leases others : Key → Lease) (wants : List Want) → AreAlike leases others wants
    → list_any (λ want. waits_for request (leases want.key)) wants ≡ list_any (λ want. waits_for request (others want.key)) wants
must_alike request leases others [] same = refl
must_alike request leases others (want ∷ wants) same =
    let later = must_alike request leases others wants (λ other a. same other (inr a)) in grind arith

pub none_within : (test p : Open → Bool) (opens : List Open) → list_any test opens ≡ false
    → list_any test (filter p opens) ≡ false
none_within test p opens none =
    has_none test (filter p opens) (λ one a. none_has test one opens none (among_filter p one opens a).0)

any_twice : (file : ℕ) (test : Open → Bool) (opens : List Open) → list_any test (on_file file opens) ≡ true
    → list_any test (on_file file (on_file file opens)) ≡ true
any_twice file test opens some =
    let known = any_has test (on_file file opens) some in
    has_any test known.0 (on_file file (on_file file opens))
    (among_filtered (is_on file) known.0 (on_file file opens) known.1 (among_filter (is_on file) known.0 opens known.1).1) known.2

pub any_once : (p test : Open → Bool) (opens : List Open) → list_any test (filter p opens) ≡ true → list_any test opens ≡ true
any_once p test opens some =
    let known = any_has test (filter p opens) some in
    has_any test known.0 opens (among_filter p known.0 opens known.1).0 known.2

under_here : (file : ℕ) (server : Server) (key : Key) → is_under_way server file key ≡ true
    → is_under_way (local file server) file key ≡ true
under_here file server key is =
    let parts = and_parts (is_breaking (server.leases key)) _ is in
    let rest = and_parts (not (list_any (is_left_open key) server.opens)) _ parts.1 in
    and_both _ _ (ap is_breaking (lease_same file server key rest.1) ∙ parts.0) (and_both _ _
    (ap not (none_within (is_left_open key) (is_on file) server.opens (not_parts _ rest.0)))
    (any_twice file (has_key key) server.opens rest.1))

-- the opens of a key that has one on the file are all on the file
abbrev pub HasHomes : Server → ℕ → Type 0
HasHomes server file = (key : Key) → list_any (has_key key) (on_file file server.opens) ≡ true
    → list_any (is_elsewhere key file) server.opens ≡ false

none_left_over : (file : ℕ) (server : Server) (key : Key) → list_any (is_elsewhere key file) server.opens ≡ false
    → list_any (is_left_open key) (on_file file server.opens) ≡ false → list_any (is_left_open key) server.opens ≡ false
none_left_over file server key home none =
    has_none (is_left_open key) server.opens (λ one a. not_true (is_left_open key one) (λ left. either (is_on file one)
    (λ on. clash (is_left_open key one) left
    (none_has (is_left_open key) one (on_file file server.opens) none (among_filtered (is_on file) one server.opens a on)))
    (λ off. clash (is_elsewhere key file one) (and_both (has_key key one) _ (and_parts (has_key key one) _ left).0 (ap not off))
    (none_has (is_elsewhere key file) one server.opens home a))))

under_there : (file : ℕ) (server : Server) (key : Key) → HasHomes server file
    → is_under_way (local file server) file key ≡ true → is_under_way server file key ≡ true
under_there file server key homes is =
    let parts = and_parts (is_breaking ((local file server).leases key)) _ is in
    let rest = and_parts (not (list_any (is_left_open key) (on_file file server.opens))) _ parts.1 in
    let some = any_once (is_on file) (has_key key) (on_file file server.opens) rest.1 in
    and_both _ _ (ap is_breaking (sym (lease_same file server key some)) ∙ parts.0)
    (and_both _ _ (ap not (none_left_over file server key (homes key some) (not_parts _ rest.0))) some)

pub waits_here_only : (file : ℕ) (server : Server) (client : ℕ) (request : FileRequest)
    → IsOnlyAbout server file client request → HasOnlyToWait server file client request
    → HasOnlyToWait (local file server) file client request
waits_here_only file server client request about has =
    let each = λ (want : Want) (a : Among want has.wants).
    all_each (λ w. is_under_way server file w.key) want has.wants has.waits.under_way a in
    let same : AreAlike (local file server).leases server.leases has.wants = λ want a.
    lease_same file server want.key (and_parts (not (list_any (is_left_open want.key) server.opens)) _
    (and_parts (is_breaking (server.leases want.key)) _ (each want a)).1).1 in
    record {
      wants = has.wants;
      found = finding_on file server client request about ∙ has.found;
      waits = record {
        unready = ready_alike request (local file server).leases server.leases has.wants same ∙ has.waits.unready;
        must_wait = must_alike request (local file server).leases server.leases has.wants same ∙ has.waits.must_wait;
        under_way = each_all (λ w. is_under_way (local file server) file w.key) has.wants
            (λ want a. under_here file server want.key (each want a));
      };
    }

pub waits_there_too : (file : ℕ) (server : Server) (client : ℕ) (request : FileRequest) → HasHomes server file
    → IsOnlyAbout server file client request → HasOnlyToWait (local file server) file client request
    → HasOnlyToWait server file client request
waits_there_too file server client request homes about has =
    let each = λ (want : Want) (a : Among want has.wants). under_there file server want.key homes
    (all_each (λ w. is_under_way (local file server) file w.key) want has.wants has.waits.under_way a) in
    let same : AreAlike (local file server).leases server.leases has.wants = λ want a.
    lease_same file server want.key (and_parts (not (list_any (is_left_open want.key) server.opens)) _
    (and_parts (is_breaking (server.leases want.key)) _ (each want a)).1).1 in
    record {
      wants = has.wants;
      found = sym (finding_on file server client request about) ∙ has.found;
      waits = record {
        unready = sym (ready_alike request (local file server).leases server.leases has.wants same) ∙ has.waits.unready;
        must_wait = sym (must_alike request (local file server).leases server.leases has.wants same) ∙ has.waits.must_wait;
        under_way = each_all (λ w. is_under_way server file w.key) has.wants each;
      };
    }
