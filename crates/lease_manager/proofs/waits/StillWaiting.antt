-- Requests that have only to wait: a try of one changes nothing, and a pass may begin behind them.
use Rattle.lease_laws.proofs.Words.{◌++◌, ◌+◌, ◌<◌, ◌==◌, ◌∙◌, ◌∷◌, ◌≡◌, Bool, FileRequest, Held, Key, Lease, List, None, Open}
use Rattle.lease_laws.proofs.Words.{Option, Out, Progress, Server, Some, Updates, Want, ℕ, [], ap, append-nil, arith, false}
use Rattle.lease_laws.proofs.Words.{finding, fun_ext, has_key, if◌then◌else◌, inr, is_at, is_breaking, is_left_open, is_ready}
use Rattle.lease_laws.proofs.Words.{lease_broken, length, list_all, list_any, nat_tests, no_lease, not, opens_dropped, own_key}
use Rattle.lease_laws.proofs.Words.{refl, subst, suc, sym, take, true, want_met, wants_met, Finding, Status, asked_finding}
use Rattle.lease_laws.proofs.Words.{has_file, without, zero}
use Rattle.lease_manager.specs.declared.values.number.FileNo.{FileNo}
use Rattle.std.specs.List.{slice_get}
use Rattle.lease_laws.proofs.server.Lists.{either, and_parts, not_parts}
use Rattle.lease_laws.proofs.server.cases.Findings.{finds_malformed, look_for_close, look_for_create, look_for_read}
use Rattle.lease_laws.proofs.server.cases.Findings.{look_for_write}
use Rattle.lease_laws.proofs.server.cases.Tries.{met_in_order, nothing_met}
use Rattle.lease_manager.specs.Summaries.{file_order}
use Rattle.lease_manager.specs.declared.tables.waiting.Waiting.{Waiting}
use Rattle.lease_manager.specs.StillWaiting.{counted, count_in, at_call, IsTriedInVain, WaitStill, is_under_way, HasOnlyToWait}
use Rattle.lease_manager.specs.StillWaiting.{deciding, StaysLocally, AreCounted}
use Rattle.lease_manager.specs.OneFile.{IsOnlyAbout}
use Rattle.lease_manager.proofs.tries.Homing.{elsewhere_same}
use Rattle.lease_manager.proofs.tries.Breaking.{not_broken}
use Rattle.lease_manager.proofs.tries.Rounds.{waits, unready_needs}

-- ---- a try of a request that has only to wait

-- a key that no open has has no lease
abbrev pub HasNoSpare : Server → Type 0
HasNoSpare server = (key : Key) → list_any (has_key key) server.opens ≡ false → server.leases key ≡ no_lease

none_out : (test : Open → Bool) (opens : List Open) → list_any test opens ≡ false → without test opens ≡ opens
none_out test [] none = refl
none_out test (one ∷ opens) none = either (test one)
    (λ t. absurd (cc (rw t at none)))
    (λ t. rw t (ap (λ xs. one ∷ xs) (none_out test opens (rw t at none))))

abbrev built : Server → List Open → (Key → Lease) → List Out → Progress
built server opens leases outs = at_call (record server { opens = opens; leases = leases }) outs

abbrev left_leases : Server → List Open → Key → Lease
left_leases server opens key = if list_any (has_key key) opens then server.leases key else no_lease

lease_left : (server : Server) (key : Key) → HasNoSpare server → left_leases server server.opens key ≡ server.leases key
lease_left server key spare = grind arith

dropped_none : (server : Server) (test : Open → Bool) (outs : List Out) → HasNoSpare server
    → list_any test server.opens ≡ false → opens_dropped test (at_call server outs) ≡ at_call server outs
dropped_none server test outs spare none =
    ap (λ opens. built server opens (left_leases server opens) (outs ++ [])) (none_out test server.opens none)
    ∙ (ap (λ leases. built server server.opens leases (outs ++ [])) (fun_ext (λ key. lease_left server key spare))
    ∙ ap (λ told. at_call server told) (append-nil outs))

want_met_already : (server : Server) (file : ℕ) (want : Want) (outs : List Out) → HasNoSpare server
    → is_under_way server file want.key ≡ true → want_met want (at_call server outs) ≡ at_call server outs
want_met_already server file want outs spare is =
    let parts = and_parts (is_breaking (server.leases want.key)) _ is in
    ap (lease_broken want.key want.lowered) (dropped_none server (is_left_open want.key) outs spare
    (not_parts _ (and_parts (not (list_any (is_left_open want.key) server.opens)) _ parts.1).0))
    ∙ sym (not_broken (at_call server outs) want.key want.lowered (inr parts.0))

met_already : (server : Server) (file : ℕ) (wants : List Want) (outs : List Out) → HasNoSpare server
    → list_all (λ want. is_under_way server file want.key) wants ≡ true
    → wants_met wants (at_call server outs) ≡ at_call server outs
met_already server file [] outs spare all = nothing_met (at_call server outs)
met_already server file (want ∷ wants) outs spare all =
    let parts = and_parts (is_under_way server file want.key) _ all in
    met_in_order want wants (at_call server outs)
    ∙ ap (wants_met wants) (want_met_already server file want outs spare parts.0)
    ∙ met_already server file wants outs spare parts.1

pub in_vain : (server : Server) (file client : ℕ) (request : FileRequest) → HasNoSpare server
    → HasOnlyToWait server file client request → IsTriedInVain server client request
in_vain server file client request spare has outs = waits 2 client request (at_call server outs) (at_call server outs) has.wants
    (unready_needs (λ wants. is_ready request server.leases wants) (finding server client request) has.wants has.found
    has.waits.unready) (sym (met_already server file has.wants outs spare has.waits.under_way)) has.waits.must_wait

-- ---- what decides a try

abbrev pub decider : Server → Server
decider server = deciding server.rules server.files server.opens server.leases

pub decided : (server : Server) (client : ℕ) (request : FileRequest)
    → finding (decider server) client request ≡ finding server client request
decided server client (FileRequest.Create file access share None) =
    finds_malformed (decider server) client file access share ∙ sym (finds_malformed server client file access share)
decided server client (FileRequest.Create file access share (Some ask)) =
    look_for_create (decider server) client file access share ask
    ∙ ap (λ found. if has_file server file then found else Finding.Fails Status.ObjectNameNotFound) (asked ask.reconnect)
    ∙ sym (look_for_create server client file access share ask)
  where
    asked : (again : Option ℕ) → asked_finding (decider server) client file access share ask.lease again
        ≡ asked_finding server client file access share ask.lease again
    asked again = grind arith
decided server client (FileRequest.Read file_id) =
    look_for_read (decider server) client file_id ∙ sym (look_for_read server client file_id)
decided server client (FileRequest.Write file_id number patch) =
    look_for_write (decider server) client file_id number patch ∙ sym (look_for_write server client file_id number patch)
decided server client (FileRequest.Close file_id) =
    look_for_close (decider server) client file_id ∙ sym (look_for_close server client file_id)

pub waits_decided : (server : Server) (file client : ℕ) (request : FileRequest)
    → HasOnlyToWait server file client request → HasOnlyToWait (decider server) file client request
waits_decided server file client request has = record {
  wants = has.wants;
  found = decided server client request ∙ has.found;
  waits = record {
    unready = has.waits.unready;
    must_wait = has.waits.must_wait;
    under_way = has.waits.under_way;
  };
}

pub waits_really : (server : Server) (file client : ℕ) (request : FileRequest)
    → HasOnlyToWait (decider server) file client request → HasOnlyToWait server file client request
waits_really server file client request has = record {
  wants = has.wants;
  found = sym (decided server client request) ∙ has.found;
  waits = record {
    unready = has.waits.unready;
    must_wait = has.waits.must_wait;
    under_way = has.waits.under_way;
  };
}

pub about_same : (a b : Server) (file client : ℕ) (request : FileRequest) → a.opens ≡ b.opens
    → IsOnlyAbout a file client request → IsOnlyAbout b file client request
about_same a b file client (FileRequest.Create other access share None) same about = about
about_same a b file client (FileRequest.Create other access share (Some ask)) same about =
    (about.0, sym (elsewhere_same a b (own_key client ask.lease) file same) ∙ about.1)
about_same a b file client (FileRequest.Read file_id) same about = about
about_same a b file client (FileRequest.Write file_id number patch) same about = grind arith
about_same a b file client (FileRequest.Close file_id) same about = about

-- ---- counts

at_file : (file : FileNo) (other : ℕ) → is_at (file_order file) (record { 0 = other }) ≡ (other == file.0)
at_file file other = grind (arith, nat_tests)

-- the counts before and after a change at one file
pub count_changed : (before after : Waiting) (file : FileNo) (count : Option ℕ)
    → Updates file_order before.counts after.counts file count
    → (other : ℕ) → count_in after other ≡ (if other == file.0 then counted count else count_in before other)
count_changed before after file count updates other = grind arith

pub none_counted : (server : Server) (file : ℕ) (queue : List Held) (count : ℕ) → count ≡ 0 → AreCounted server file queue count
none_counted server file queue count none = grind arith

pub none_still : (server : Server) (file : ℕ) → WaitStill server file 0
none_still server file = record { within = omega arith; each = λ place one less. absurd (omega (arith, less)) }

got_before : (queue : List Held) (one : Held) (place : ℕ) → place < length queue
    → slice_get (queue ++ one ∷ []) place ≡ slice_get queue place
got_before [] one place inside = absurd (omega (arith, inside))
got_before (first ∷ queue) one zero inside = refl
got_before (first ∷ queue) one (suc place) inside = got_before queue one place (omega (arith, inside))

taken_before : (queue : List Held) (one : Held) (place : ℕ) → place < length queue
    → take place (queue ++ one ∷ []) ≡ take place queue
taken_before [] one place inside = absurd (omega (arith, inside))
taken_before (first ∷ queue) one zero inside = refl
taken_before (first ∷ queue) one (suc place) inside =
    let later = taken_before queue one place (omega (arith, inside)) in grind arith

longer : (queue : List Held) (one : Held) → length (queue ++ one ∷ []) ≡ length queue + 1
longer [] one = refl
longer (first ∷ queue) one = let e = longer queue one in omega (arith, e)

-- one more at the end changes nothing for those before it
pub counted_before : (server : Server) (file : ℕ) (queue : List Held) (one : Held) (count : ℕ)
    → AreCounted server file queue count → AreCounted server file (queue ++ one ∷ []) count
counted_before server file queue one count known =
    let within = known.within in
    let more = longer queue one in
    record {
      within = omega (arith, within, more);
      each = λ place other less is.
          let inside : place < length queue = omega (arith, less, within) in
          subst (λ before. StaysLocally server file before other) (sym (taken_before queue one place inside))
          (known.each place other less (sym (got_before queue one place inside) ∙ is));
    }
