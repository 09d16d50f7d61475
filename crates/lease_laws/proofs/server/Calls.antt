-- The laws hold of the first server, and every call keeps them.
use Rattle.lease_laws.proofs.Words.{◌&&◌, ◌==◌, ◌∙◌, ◌≡◌, Among, AreSound, Bool, Call, Err, FileRequest, IsLasting}
use Rattle.std.proofs.Common.{arith}
use Rattle.lease_laws.proofs.Words.{IsSound, Key, List, None, Ok, Open, Option, Outcome, Progress, Result, Server, Some}
use Rattle.lease_laws.proofs.Words.{Status, ℕ, acknowledged, after_first_try, ap, arrived_on, begun, called}
use Rattle.lease_laws.proofs.Words.{client_forgotten, cond, false, file_asked, file_request_arrived}
use Rattle.lease_laws.proofs.Words.{has_key, if◌then◌else◌, is_behind, is_breaking, is_key, is_left_behind, is_lost}
use Rattle.lease_laws.proofs.Words.{joined, key_expired, key_of, lease_by, lease_of_open, list_any, new_server_under, no_lease, not}
use Rattle.lease_laws.proofs.Words.{opens_disconnected, opens_dropped, outlives_connection, put_key, refl, request_held}
use Rattle.lease_laws.proofs.Words.{subst, sym, tried, true, true≢false, without}
use Rattle.lease_laws.proofs.Words.{Held, Rules, as_held}
use Rattle.lease_laws.proofs.Words.{arrived_before}
use Rattle.lease_laws.proofs.server.Answers.{acknowledged-sound, refused-sound, concluded-sound, map_same, choose_connection}
use Rattle.lease_laws.proofs.server.Keys.{put_key-cases, is_key-refl, lease_by-key}
use Rattle.lease_laws.proofs.server.Lists.{if_cases, either, clash, and_both, and_parts, not_parts, not_false, among_filter}
use Rattle.lease_laws.proofs.server.Lists.{any_has}
use Rattle.lease_laws.proofs.server.Passes.{all_passes-sound}
use Rattle.lease_laws.proofs.server.Progress.{opens_dropped-sound, request_held-sound}
use Rattle.lease_laws.proofs.server.Ready.{ready-free}
use Rattle.lease_laws.proofs.server.Steps.{connection_sound, with_connection, left_here}
use Rattle.lease_laws.proofs.server.Tries.{IsGoodTry, tried_for-good}
use Rattle.lease_laws.proofs.server.cases.Calls.{any_call, lease_lost, links_lost, opens_left, parts_left, requests_lost}
use Rattle.lease_laws.proofs.server.Breaks.{wants_met-sound}
use Rattle.lease_laws.proofs.server.Wants.{others_wants-fit}
use Rattle.lease_laws.proofs.Words.{Extent, is_lost_of, is_named, opens_parted, others_broken, others_wants, parted}

-- the first server
pub new_server-sound : (rules : Rules) (contents : List (List ℕ)) → IsSound (new_server_under rules contents)
unfolding new_server_under
new_server-sound rules contents = grind arith

-- a key that has no lease may be marked
one_timer : (server : Server) (key : Key) → IsSound server → server.leases key ≡ no_lease
    → AreSound server.opens server.leases (put_key server.expired key true) server.last_id
one_timer server key s none = record {
  one_writer = s.one_writer;
  no_conflict = s.no_conflict;
  disconnected = s.disconnected;
  lawful = s.lawful;
  one_file = s.one_file;
  no_open = s.no_open;
  numbered = s.numbered;
  in_order = s.in_order;
  timed_out = λ k. put_key-cases (λ b. b ≡ true → server.leases k ≡ no_lease) server.expired key true k
      (λ same e. ap (λ x. server.leases x) same ∙ none) (λ differs. s.timed_out k);
}

-- a join that applies keeps the laws
pub joined-sound : (client : ℕ) (progress : Progress) → IsSound progress.server → IsSound (joined client progress).server
joined-sound client progress s = grind arith

-- a choice of two calls under way
sound_cases : (b : Bool) (x y : Progress) → (b ≡ true → IsSound x.server) → (b ≡ false → IsSound y.server)
    → IsSound (cond b x y).server
sound_cases b x y at_true at_false = if_cases (λ p. IsSound p.server) b x y at_true at_false

-- what follows a first try keeps the laws
after_first_try-sound : (file : ℕ) (one : Held) (progress : Progress) (outcome : Outcome)
    → IsGoodTry one.client one.request (record { progress = progress; outcome = outcome })
    → IsSound (after_first_try file one progress outcome).server
after_first_try-sound file one progress Outcome.Waits good = request_held-sound file one progress good.sound
after_first_try-sound file one progress (Outcome.Refused status) good =
    concluded-sound one.client one.request progress (Outcome.Refused status) good.sound (λ r. absurd (cc))
after_first_try-sound file one progress Outcome.Ready good =
    concluded-sound one.client one.request progress Outcome.Ready good.sound
    (λ r. ready-free one.client one.request progress (good.found_ready r))

-- a request on a file keeps the laws
arrived_before-sound : (one : Held) (progress : Progress) (asked : Result ℕ Status)
    → IsSound progress.server → IsSound (arrived_before one progress asked).server
arrived_before-sound one progress (Err status) s = refused-sound one.client one.request status progress s
arrived_before-sound one progress (Ok file) s =
    let done = tried one.client one.request progress in
    sound_cases (is_behind progress.server.rules one (progress.server.held file))
    (request_held file one progress) (after_first_try file one done.progress done.outcome)
    (λ e. request_held-sound file one progress s)
    (λ e. after_first_try-sound file one done.progress done.outcome (tried_for-good 3 one.client one.request progress s))

pub arrived_on-sound : (client : ℕ) (request : FileRequest) (progress : Progress) (asked : Result ℕ Status)
    → IsSound progress.server → IsSound (arrived_on client request progress asked).server
arrived_on-sound client request progress = arrived_before-sound (as_held progress.server client request) progress

-- a request about a file keeps the laws
file_request-sound : (client : ℕ) (request : FileRequest) (progress : Progress) → IsSound progress.server
    → IsSound (file_request_arrived client request progress).server
file_request-sound client (FileRequest.Close file_id) progress s = all_passes-sound
    (arrived_on client (FileRequest.Close file_id) progress (file_asked progress.server client (FileRequest.Close file_id)))
    (arrived_on-sound client (FileRequest.Close file_id) progress
    (file_asked progress.server client (FileRequest.Close file_id)) s)
file_request-sound client request progress s = arrived_on-sound client request progress
    (file_asked progress.server client request) s

-- the key of an open whose lease holds H
handle_key : (server : Server) (client : ℕ) (bytes : Option (List ℕ)) → (lease_by server client bytes).state.handle ≡ true
    → (key : Key) × (is_key key client bytes ≡ true)
handle_key server client None h = absurd (true≢false (sym h))
handle_key server client (Some bytes) h = (key_of client bytes, is_key-refl client bytes)

-- an open that is kept outlives its connection
pub kept_lasting : (server : Server) (one : Open) → outlives_connection server one ≡ true → IsLasting server.leases one
kept_lasting server one kept =
    let outer = and_parts (one.durable && (lease_of_open server one).state.handle)
    (not (is_breaking (lease_of_open server one))) kept in
    let inner = and_parts one.durable (lease_of_open server one).state.handle outer.0 in
    let k = handle_key server one.client one.lease_key inner.1 in
    let same : lease_of_open server one ≡ server.leases k.0 = lease_by-key server k.0 one.client one.lease_key k.1 in
    record {
      is_durable = inner.0;
      key = k.0;
      has_the_key = k.1;
      holds_handle = ap (λ l. l.state.handle) (sym same) ∙ inner.1;
      is_settled = ap (λ l. is_breaking l) (sym same) ∙ not_parts (is_breaking (lease_of_open server one)) outer.1;
    }

-- an open that outlives its connection does so among fewer opens, if it is there
pub lasting_left : (test : Open → Bool) (progress : Progress) (one : Open) → Among one (opens_dropped test progress).server.opens
    → IsLasting progress.server.leases one → IsLasting (opens_dropped test progress).server.leases one
lasting_left test progress one a l =
    let same = left_here progress.server.leases (without test progress.server.opens) l.key one a l.has_the_key in
    record {
      is_durable = l.is_durable;
      key = l.key;
      has_the_key = l.has_the_key;
      holds_handle = ap (λ x. x.state.handle) same ∙ l.holds_handle;
      is_settled = ap (λ x. is_breaking x) same ∙ l.is_settled;
    }

-- once those that end of opens that pass a test are dropped, each of the others that pass it outlives its connection
pub parted_lasting : (test : Open → Bool) (server : Server) (one : Open) → IsSound server
    → Among one (opens_dropped (is_lost_of server test) (begun server)).server.opens → test one ≡ true
    → IsLasting server.leases one
parted_lasting test server one s a t =
    let was = among_filter (λ x. not (is_lost_of server test x)) one server.opens a in
    either one.connected
    (λ up. kept_lasting server one (not_false (outlives_connection server one) (λ gone. clash (is_lost_of server test one)
    (and_both (test one && one.connected) (not (outlives_connection server one))
    (and_both (test one) one.connected t up) (ap not gone))
    (not_parts (is_lost_of server test one) was.1))))
    (λ down. s.disconnected one was.0 down)

-- to disconnect opens keeps the laws
pub opens_parted-sound : (test : Open → Bool) (progress : Progress) → IsSound progress.server
    → ((one : Open) → Among one progress.server.opens → test one ≡ true → IsLasting progress.server.leases one)
    → IsSound (opens_parted test progress).server
opens_parted-sound test progress s lasting =
    let up : Open → Bool = λ x. if test x then false else x.connected in
    subst (λ opens. AreSound opens progress.server.leases progress.server.expired progress.server.last_id)
    (sym (map_same (parted test) (with_connection up) progress.server.opens (λ one. choose_connection (test one) false one)))
    (connection_sound up progress.server.opens progress.server.leases progress.server.expired progress.server.last_id s
    (λ one a d. either (test one) (λ e. lasting one a e)
    (λ e. s.disconnected one a (if_cases (λ b. b ≡ false → one.connected ≡ false) (test one) false one.connected
    (λ t. clash (test one) t e) (λ t same. same) d))))

-- to forget a client keeps the laws
pub client_forgotten-sound : (client : ℕ) (progress : Progress) → IsSound progress.server
    → IsSound (client_forgotten client progress).server
client_forgotten-sound client progress s = s

-- to drop opens that end, and to disconnect the others, keeps the laws
parts-sound : (test : Open → Bool) (server : Server) → IsSound server
    → IsSound (opens_parted test (opens_dropped (is_lost_of server test) (begun server))).server
parts-sound test server s =
    let dropped = opens_dropped (is_lost_of server test) (begun server) in
    opens_parted-sound test dropped (opens_dropped-sound (is_lost_of server test) (begun server) s)
    (λ one a t. lasting_left (is_lost_of server test) (begun server) one a (parted_lasting test server one s a t))

-- to lose a client's links keeps the laws
pub links_lost-sound : (server : Server) (client : ℕ) → IsSound server → IsSound (links_lost server client).server
links_lost-sound server client s =
    client_forgotten-sound client (opens_disconnected client (opens_dropped (is_lost server client) (begun server)))
    (parts-sound (λ one. one.client == client) server s)

-- to leave opens keeps the laws
pub opens_left-sound : (server : Server) (client : ℕ) (file_ids : List ℕ) → IsSound server
    → IsSound (opens_left server client file_ids).server
opens_left-sound server client file_ids s = parts-sound (is_named client file_ids) server s

-- none of the opens that are left has the key that was dropped
none_left : (key : Key) (opens : List Open) {X : Type 0} → list_any (has_key key) (without (has_key key) opens) ≡ true → X
none_left key opens e =
    let x = any_has (has_key key) (without (has_key key) opens) e in
    clash (has_key key x.0) x.2 (not_parts (has_key key x.0) (among_filter (λ one. not (has_key key one)) x.0 opens x.1).1)

-- a key whose opens are dropped has no lease
pub dropped_lease : (key : Key) (progress : Progress) → (opens_dropped (has_key key) progress).server.leases key ≡ no_lease
dropped_lease key progress = if_cases (λ l. l ≡ no_lease) (list_any (has_key key) (without (has_key key) progress.server.opens))
    (progress.server.leases key) no_lease
    (λ e. none_left key progress.server.opens e) (λ e. refl)

-- to mark a key keeps the laws
pub key_expired-sound : (key : Key) (progress : Progress) → IsSound progress.server → progress.server.leases key ≡ no_lease
    → IsSound (key_expired key progress).server
key_expired-sound key progress s none = one_timer progress.server key s none

-- to lose a lease keeps the laws
pub lease_lost-sound : (server : Server) (key : Key) → IsSound server → IsSound (lease_lost server key).server
lease_lost-sound server key s = key_expired-sound key (opens_dropped (has_key key) (begun server))
    (opens_dropped-sound (has_key key) (begun server) s) (dropped_lease key (begun server))

-- to break what other keys hold keeps the laws
pub others_broken-sound : (server : Server) (own : Option Key) (file : ℕ) (extent : Extent) → IsSound server
    → IsSound (others_broken server own file extent).server
others_broken-sound server own file extent s = wants_met-sound (others_wants server own file extent) (begun server) s
    (others_wants-fit server own file extent s)

-- every call keeps the laws
pub called-sound : (server : Server) (call : Call) → IsSound server → IsSound (called server call).server
called-sound server call s = any_call server (λ call start after. IsSound after.server) (record {
  idle = λ call why. s;
  joins = λ client down. joined-sound client (begun server) s;
  judges = λ client given up. all_passes-sound (acknowledged client given (begun server))
      (acknowledged-sound client given (begun server) s);
  receives = λ client request up. file_request-sound client request (begun server) s;
  cuts = λ client up. all_passes-sound (links_lost server client) (links_lost-sound server client s);
  expires = λ key breaks. all_passes-sound (lease_lost server key) (lease_lost-sound server key s);
  scavenges = λ file_id left. all_passes-sound (opens_dropped (is_left_behind file_id) (begun server))
      (opens_dropped-sound (is_left_behind file_id) (begun server) s);
  withdraws = λ file marks some. all_passes-sound (requests_lost server file marks) s;
  gives_up = λ own file extent. all_passes-sound (others_broken server own file extent)
      (others_broken-sound server own file extent s);
  leaves = λ client file_ids marks up. all_passes-sound (parts_left server client file_ids marks)
      (opens_left-sound server client file_ids s);
}) call
