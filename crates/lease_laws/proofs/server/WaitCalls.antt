-- Every call keeps opens and held requests where they belong, and lets no first held request wait for
-- nothing.
use Rattle.lease_laws.proofs.Words.{◌==◌, ◌∙◌, ◌≡◌, Among, Bool, Call, FileRequest, HasToWait, Held, IsAbout, IsBlocked, IsOpenOn}
use Rattle.lease_laws.proofs.Words.{IsOrderly, IsSound, IsUnder, Key, List, None, Open, Option, Progress, Server, Some, WaitsWell}
use Rattle.lease_laws.proofs.Words.{ℕ, ap, arith, begun, called, client_forgotten, cond, disconnected}
use Rattle.lease_laws.proofs.Words.{false, has_file, has_key, has_own_key, is_key, is_left_behind}
use Rattle.lease_laws.proofs.Words.{is_lost, joined, key_expired, key_of, key_of_open, key_under, map, new_server_under}
use Rattle.lease_laws.proofs.Words.{not, opens_disconnected, opens_dropped, own_key, put, refl, subst, sym, true}
use Rattle.lease_laws.proofs.Words.{without}
use Rattle.lease_laws.proofs.Words.{Rules, ◌++◌}
use Rattle.lease_laws.proofs.Words.{◌∷◌}
use Rattle.lease_laws.proofs.Words.{is_behind}
use Rattle.lease_laws.proofs.Words.{inl}
use Rattle.lease_laws.proofs.server.Keys.{is_key-one, is_key-refl}
use Rattle.lease_laws.proofs.server.Arrivals.{acknowledged-waits, everyone_keeps, file_request-waits, fine_goes, new_server-waits}
use Rattle.lease_laws.proofs.Words.{Extent, is_lost_of, is_named, opens_parted, others_broken, others_wants, parted}
use Rattle.lease_laws.proofs.Words.{requests_left, true≢false, unmarked}
use Rattle.lease_laws.proofs.server.Calls.{joined-sound, lease_lost-sound, links_lost-sound, opens_left-sound}
use Rattle.lease_laws.proofs.server.Calls.{others_broken-sound}
use Rattle.lease_laws.proofs.server.Goes.{Goes, IsOld, dropped-goes, still_there, tries_go}
use Rattle.lease_laws.proofs.server.Held.{SameHeld, dropped_held, requests_lost-there, tries_hold}
use Rattle.lease_laws.proofs.server.Lists.{among_unmarked}
use Rattle.lease_laws.proofs.server.cases.Tries.{any_meeting}
use Rattle.lease_laws.proofs.server.cases.Calls.{opens_left, parts_left}
use Rattle.lease_laws.proofs.server.Keeps.{Kept, Anywhere, connected_has}
use Rattle.lease_laws.proofs.server.Lists.{if_cases, clash, not_parts, among_filter, among_map}
use Rattle.lease_laws.proofs.server.Lists.{among_behind}
use Rattle.lease_laws.proofs.server.Orderly.{IsFine}
use Rattle.lease_laws.proofs.server.PassWaits.{EveryoneWaits, all_passes-wait}
use Rattle.lease_laws.proofs.server.Progress.{opens_dropped-sound}
use Rattle.lease_laws.proofs.server.cases.Calls.{any_call, lease_lost, links_lost, requests_lost}

-- a client that is connected stays so when another joins
put_true : (up : ℕ → Bool) (client other : ℕ) → up other ≡ true → put up client true other ≡ true
unfolding put
put_true up client other e = if_cases (λ b. b ≡ true) (other == client) true (up other) (λ t. refl) (λ t. e)

-- a join: what a FileId is about stays
joined-open : (client file file_id : ℕ) (progress : Progress) → IsOpenOn progress.server file file_id
    → IsOpenOn (joined client progress).server file file_id
joined-open client file file_id progress o = record { was_given = o.was_given; is_on_file = o.is_on_file }

-- a join: what a request is about stays
joined-about : (client file : ℕ) (request : FileRequest) (progress : Progress)
    → IsAbout progress.server file request → IsAbout (joined client progress).server file request
joined-about client file (FileRequest.Create at access share contexts) progress about = about
joined-about client file (FileRequest.Read file_id) progress about = joined-open client file file_id progress about
joined-about client file (FileRequest.Write file_id number patch) progress about = joined-open client file file_id progress about
joined-about client file (FileRequest.Close file_id) progress about = joined-open client file file_id progress about

-- a join that applies keeps the order
pub joined-orderly : (client : ℕ) (progress : Progress) → IsOrderly progress.server → IsOrderly (joined client progress).server
joined-orderly client progress o = record {
  opens_up = λ one a up. put_true progress.server.present client one.client (o.opens_up one a up);
  open_files = o.open_files;
  held_up = λ file one a. put_true progress.server.present client one.client (o.held_up file one a);
  held_files = o.held_files;
  held_about = λ file one a. joined-about client file one.request progress (o.held_about file one a);
}

-- a join that applies lets wait what has to wait
joined-kept : (client : ℕ) (progress : Progress) → Kept Anywhere progress (joined client progress)
joined-kept client progress = record { rules = refl; stands = λ key one a k up b g. (a, refl); finds = λ c id one e g. e }

-- a join that applies leaves the held requests as they are
joined-held : (client : ℕ) (progress : Progress) → SameHeld progress (joined client progress)
joined-held client progress = refl

-- so does the join itself
joined-waits : (server : Server) (client : ℕ) → EveryoneWaits server → EveryoneWaits (joined client (begun server)).server
joined-waits server client e = everyone_keeps (begun server) (joined client (begun server)) e (record {
  sound = joined-sound client (begun server) e.fine.sound;
  orderly = joined-orderly client (begun server) e.fine.orderly;
}) (joined-kept client (begun server)) (joined-held client (begun server))

-- to drop opens keeps the laws and the order
pub dropped-fine : (test : Open → Bool) (progress : Progress) → IsFine progress.server
    → IsFine (opens_dropped test progress).server
dropped-fine test progress f = fine_goes progress (opens_dropped test progress) f
    (opens_dropped-sound test progress f.sound) (dropped-goes test progress) (dropped_held test progress)

-- to mark a key lets opens go on
expired-goes : (key : Key) (progress : Progress) → Goes progress (key_expired key progress)
expired-goes key progress = grind arith

-- to mark a key leaves the held requests as they are
expired-held : (key : Key) (progress : Progress) → SameHeld progress (key_expired key progress)
expired-held key progress = refl

-- to lose a lease keeps the laws and the order
pub expired-fine : (server : Server) (key : Key) → IsFine server → IsFine (lease_lost server key).server
expired-fine server key fine =
    let dropped = opens_dropped (has_key key) (begun server) in
    let f = dropped-fine (has_key key) (begun server) fine in
    fine_goes dropped (key_expired key dropped) f (lease_lost-sound server key fine.sound)
    (expired-goes key dropped) (expired-held key dropped)

-- an open of another client isn't disconnected
record IsCutFrom (server : Server) (client : ℕ) (one : Open) : Type 0 where
  was : Open
  was_there : Among was server.opens
  same_id : one.file_id ≡ was.file_id
  same_file : one.file ≡ was.file
  same_client : one.client ≡ was.client
  up : one.connected ≡ true → (was.connected ≡ true) × (was.client == client ≡ false)

-- an open after a cut
cut_open : (server : Server) (client : ℕ) (was : Open) (b : Bool) → (was.client == client) ≡ b → Among was server.opens
    → IsCutFrom server client (cond b (record was { connected = false }) was)
cut_open server client was b e a = grind arith

-- the opens after a cut
cut_opens : (server : Server) (client : ℕ) (one : Open) → Among one (map (disconnected client) server.opens)
    → IsCutFrom server client one
cut_opens server client one a =
    let x = among_map (disconnected client) one server.opens a in
    subst (IsCutFrom server client) (sym x.2) (cut_open server client x.0 ((x.0).client == client) refl x.1)

-- another client stays as it was
put_other : (up : ℕ → Bool) (client other : ℕ) → other == client ≡ false → put up client false other ≡ up other
unfolding put
put_other up client other e = grind arith

-- a cut: what a FileId is about stays
cut_about_open : (client file file_id : ℕ) (progress : Progress) → IsOpenOn progress.server file file_id
    → IsOpenOn (client_forgotten client (opens_disconnected client progress)).server file file_id
cut_about_open client file file_id progress o = record {
  was_given = o.was_given;
  is_on_file = λ one a e. let x = cut_opens progress.server client one a in
      x.same_file ∙ o.is_on_file x.was x.was_there (sym x.same_id ∙ e);
}

-- a cut: what a request is about stays
cut_about : (client file : ℕ) (request : FileRequest) (progress : Progress) → IsAbout progress.server file request
    → IsAbout (client_forgotten client (opens_disconnected client progress)).server file request
cut_about client file (FileRequest.Create at access share contexts) progress about = about
cut_about client file (FileRequest.Read file_id) progress about = cut_about_open client file file_id progress about
cut_about client file (FileRequest.Write file_id number patch) progress about = cut_about_open client file file_id progress about
cut_about client file (FileRequest.Close file_id) progress about = cut_about_open client file file_id progress about

-- a cut keeps the order
cut_orderly : (client : ℕ) (progress : Progress) → IsOrderly progress.server
    → IsOrderly (client_forgotten client (opens_disconnected client progress)).server
cut_orderly client progress o =
    let left : (file : ℕ) (one : Held) → Among one (without (λ x. x.client == client) (progress.server.held file))
    → (Among one (progress.server.held file)) × (not (one.client == client) ≡ true) =
    λ file one a. among_filter (λ x. not (x.client == client)) one (progress.server.held file) a in
    record {
      opens_up = λ one a up. let x = cut_opens progress.server client one a in
          let was = x.up up in
          put_other progress.server.present client one.client (ap (λ c. c == client) x.same_client ∙ was.1)
          ∙ ap (λ c. progress.server.present c) x.same_client ∙ o.opens_up x.was x.was_there was.0;
      open_files = λ one a. let x = cut_opens progress.server client one a in
          ap (λ f. has_file progress.server f) x.same_file ∙ o.open_files x.was x.was_there;
      held_up = λ file one a. let x = left file one a in
          put_other progress.server.present client one.client (not_parts (one.client == client) x.1) ∙ o.held_up file one x.0;
      held_files = λ file one a. o.held_files file one (left file one a).0;
      held_about = λ file one a. cut_about client file one.request progress (o.held_about file one (left file one a).0);
    }

-- to take requests back: what a FileId is about stays
left_about_open : (server : Server) (file : ℕ) (marks : List Bool) (other file_id : ℕ) → IsOpenOn server other file_id
    → IsOpenOn (requests_lost server file marks).server other file_id
left_about_open server file marks other file_id o = record { was_given = o.was_given; is_on_file = o.is_on_file }

-- and what a request is about
left_about : (server : Server) (file : ℕ) (marks : List Bool) (other : ℕ) (request : FileRequest)
    → IsAbout server other request → IsAbout (requests_lost server file marks).server other request
left_about server file marks other (FileRequest.Create at access share contexts) about = about
left_about server file marks other (FileRequest.Read file_id) about = left_about_open server file marks other file_id about
left_about server file marks other (FileRequest.Write file_id number patch) about =
    left_about_open server file marks other file_id about
left_about server file marks other (FileRequest.Close file_id) about = left_about_open server file marks other file_id about

-- to lose a client's links keeps the laws and the order
pub cut-fine : (server : Server) (client : ℕ) → IsFine server → IsFine (links_lost server client).server
cut-fine server client fine = record {
  sound = links_lost-sound server client fine.sound;
  orderly = cut_orderly client (opens_dropped (is_lost server client) (begun server))
      (dropped-fine (is_lost server client) (begun server) fine).orderly;
}

-- to take requests back keeps the laws and the order
pub withdrawn-fine : (server : Server) (file : ℕ) (marks : List Bool) → IsFine server
    → IsFine (requests_lost server file marks).server
withdrawn-fine server file marks fine =
    let left = requests_lost-there server file marks in record {
      sound = fine.sound;
      orderly = record {
        opens_up = fine.orderly.opens_up;
        open_files = fine.orderly.open_files;
        held_up = λ other one a. fine.orderly.held_up other one (left other one a);
        held_files = λ other one a. fine.orderly.held_files other one (left other one a);
        held_about = λ other one a. left_about server file marks other one.request
            (fine.orderly.held_about other one (left other one a));
      };
    }

-- an open that is disconnected was one that is there
parted_old : (test : Open → Bool) (server : Server) (was : Open) (b : Bool) → Among was server.opens
    → IsOld server (cond b (record was { connected = false }) was)
parted_old test server was true a = record {
  was = was;
  was_there = a;
  same_id = refl;
  same_file = refl;
  same_client = refl;
  up = λ u. absurd (true≢false (sym u));
}
parted_old test server was false a = still_there server was a

-- to disconnect opens lets the others go on
parted-goes : (test : Open → Bool) (progress : Progress) → Goes progress (opens_parted test progress)
parted-goes test progress = record {
  files = refl;
  ups = λ c. refl;
  ids = omega arith;
  from = λ one a. let x = among_map (parted test) one progress.server.opens a in
      inl (subst (λ o. IsOld progress.server o) (sym x.2) (parted_old test progress.server x.0 (test x.0) x.1));
}

-- to leave opens keeps the laws and the order
opens_left-fine : (server : Server) (client : ℕ) (file_ids : List ℕ) → IsFine server
    → IsFine (opens_left server client file_ids).server
opens_left-fine server client file_ids fine =
    let lost = is_lost_of server (is_named client file_ids) in
    fine_goes (opens_dropped lost (begun server)) (opens_left server client file_ids) (dropped-fine lost (begun server) fine)
    (opens_left-sound server client file_ids fine.sound)
    (parted-goes (is_named client file_ids) (opens_dropped lost (begun server))) refl

-- requests that wait no longer: what a FileId is about stays
marked_about_open : (marks : ℕ → List Bool) (progress : Progress) (file file_id : ℕ) → IsOpenOn progress.server file file_id
    → IsOpenOn (requests_left marks progress).server file file_id
marked_about_open marks progress file file_id o = record { was_given = o.was_given; is_on_file = o.is_on_file }

-- and what a request is about
marked_about : (marks : ℕ → List Bool) (progress : Progress) (file : ℕ) (request : FileRequest)
    → IsAbout progress.server file request → IsAbout (requests_left marks progress).server file request
marked_about marks progress file (FileRequest.Create at access share contexts) about = about
marked_about marks progress file (FileRequest.Read file_id) about = marked_about_open marks progress file file_id about
marked_about marks progress file (FileRequest.Write file_id number patch) about =
    marked_about_open marks progress file file_id about
marked_about marks progress file (FileRequest.Close file_id) about = marked_about_open marks progress file file_id about

-- they leave the laws and the order
marked-fine : (marks : ℕ → List Bool) (progress : Progress) → IsFine progress.server
    → IsFine (requests_left marks progress).server
marked-fine marks progress fine =
    let left : (file : ℕ) (one : Held) → Among one (unmarked (marks file) (progress.server.held file))
    → Among one (progress.server.held file) = λ file one a. among_unmarked one (marks file) (progress.server.held file) a in
    record {
      sound = fine.sound;
      orderly = record {
        opens_up = fine.orderly.opens_up;
        open_files = fine.orderly.open_files;
        held_up = λ file one a. fine.orderly.held_up file one (left file one a);
        held_files = λ file one a. fine.orderly.held_files file one (left file one a);
        held_about = λ file one a. marked_about marks progress file one.request
            (fine.orderly.held_about file one (left file one a));
      };
    }

-- so does a client that leaves some of its opens
pub left-fine : (server : Server) (client : ℕ) (file_ids : List ℕ) (marks : ℕ → List Bool) → IsFine server
    → IsFine (parts_left server client file_ids marks).server
left-fine server client file_ids marks fine = marked-fine marks (opens_left server client file_ids)
    (opens_left-fine server client file_ids fine)

-- to break what other keys hold keeps the laws and the order
pub others_broken-fine : (server : Server) (own : Option Key) (file : ℕ) (extent : Extent) → IsFine server
    → IsFine (others_broken server own file extent).server
others_broken-fine server own file extent fine =
    let wants = others_wants server own file extent in
    fine_goes (begun server) (others_broken server own file extent) fine
    (others_broken-sound server own file extent fine.sound) (any_meeting Goes tries_go wants (begun server))
    (any_meeting SameHeld tries_hold wants (begun server))

-- every call leaves each first held request waiting
pub called-waits : (server : Server) (call : Call) → EveryoneWaits server → EveryoneWaits (called server call).server
called-waits server call e = any_call server (λ call start after. EveryoneWaits after.server) (record {
  idle = λ call why. e;
  joins = λ client down. joined-waits server client e;
  judges = λ client given up. acknowledged-waits client given (begun server) e;
  receives = λ client request up. file_request-waits client request (begun server) e up;
  cuts = λ client up. all_passes-wait (links_lost server client) (cut-fine server client e.fine);
  expires = λ key breaks. all_passes-wait (lease_lost server key) (expired-fine server key e.fine);
  scavenges = λ file_id left. all_passes-wait (opens_dropped (is_left_behind file_id) (begun server))
      (dropped-fine (is_left_behind file_id) (begun server) e.fine);
  withdraws = λ file marks some. all_passes-wait (requests_lost server file marks) (withdrawn-fine server file marks e.fine);
  gives_up = λ own file extent. all_passes-wait (others_broken server own file extent)
      (others_broken-fine server own file extent e.fine);
  leaves = λ client file_ids marks up. all_passes-wait (parts_left server client file_ids marks)
      (left-fine server client file_ids marks e.fine);
}) call

-- the first server waits well
pub first-waits-well : (rules : Rules) (contents : List (List ℕ)) → WaitsWell (new_server_under rules contents)
first-waits-well rules contents = let e = new_server-waits rules contents in
    record { is_orderly = e.fine.orderly; all_wait = e.wait }

-- every call lets requests wait well
pub called-waits-well : (server : Server) (call : Call) → IsSound server → WaitsWell server
    → WaitsWell (called server call).server
called-waits-well server call s w =
    let e = called-waits server call (record {
      fine = record { sound = s; orderly = w.is_orderly };
      wait = w.all_wait;
    }) in
    record { is_orderly = e.fine.orderly; all_wait = e.wait }

-- a key that holds W isn't blocked on its file
pub writer-unblocked : (server : Server) (key : Key) (one : Open) → IsSound server → (server.leases key).state.write ≡ true
    → Among one server.opens → has_key key one ≡ true → IsBlocked server (Some key) one.file → ⊥
writer-unblocked server key one s w a k b = grind arith

-- the key of an open that has it
key_of_that : (key : Key) (one : Open) → has_key key one ≡ true → key_of_open one ≡ Some key
key_of_that key one k = under one.client one.lease_key k
  where
    under : (client : ℕ) (bytes : Option (List ℕ)) → is_key key client bytes ≡ true → key_under client bytes ≡ Some key
    under client None k = clash false k refl
    under client (Some bytes) k = ap (λ x. Some x)
        (is_key-one (key_of client bytes) key client (Some bytes) (is_key-refl client bytes) k)

-- a request that has to wait isn't under a key that holds W on its file
pub writers-wait_not : (server : Server) (key : Key) (one : Open) (client : ℕ) (request : FileRequest)
    → IsSound server → (server.leases key).state.write ≡ true
    → Among one server.opens → has_key key one ≡ true → IsAbout server one.file request
    → HasToWait server client request → IsUnder server client request key → ⊥
writers-wait_not server key one client (FileRequest.Create file access share None) s w a k about wait under = under
writers-wait_not server key one client (FileRequest.Create file access share (Some ask)) s w a k about wait under =
    writer-unblocked server key one s w a k
    (subst (λ own. IsBlocked server own one.file) under (subst (IsBlocked server (own_key client ask.lease)) about wait))
writers-wait_not server key one client (FileRequest.Read file_id) s w a k about wait under = wait
writers-wait_not server key one client (FileRequest.Write file_id number patch) s w a k about wait under =
    let same : wait.one ≡ under.one = one_open wait.one under.one (sym wait.is_open ∙ under.is_open) in
    let its : has_key key wait.one ≡ true = ap (λ o. has_key key o) same ∙ under.has_the_key in
    let b = wait.is_blocked in
    let there = connected_has server client file_id wait.one wait.is_open in
    clash (has_key key b.one) (s.one_writer key wait.one b.one w there.0 its b.is_there b.is_on_file)
    (ap (λ own. has_own_key own b.one) (sym (key_of_that key wait.one its)) ∙ b.is_other)
  where
    one_open : (x y : Open) → Some x ≡ Some y → x ≡ y
    one_open x y e = cc
writers-wait_not server key one client (FileRequest.Close file_id) s w a k about wait under = wait

-- so no first held request is
pub writers-dont-wait : (server : Server) (key : Key) (one : Open) (before : List Held) (held : Held) (behind : List Held)
    → IsSound server → WaitsWell server → (server.leases key).state.write ≡ true → Among one server.opens → has_key key one ≡ true
    → server.held one.file ≡ before ++ held ∷ behind → is_behind server.rules held before ≡ false
    → IsUnder server held.client held.request key → ⊥
writers-dont-wait server key one before held behind s w writes a k split first under =
    writers-wait_not server key one held.client held.request s writes a k (w.is_orderly.held_about one.file held
    (subst (λ list. Among held list) (sym split) (among_behind held before (held ∷ behind) (inl refl))))
    (w.all_wait one.file before held behind split first) under
