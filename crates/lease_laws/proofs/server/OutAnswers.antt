-- The breaks for a request stand before its answer; and once a write is ready, no other key on its
-- file caches anything but what it is giving up.
use Rattle.lease_laws.proofs.Words.{◌&&◌, ◌==◌, ◌||◌, ◌∙◌, ◌≡◌, AreBreaksFirst, Bool, CachesAlone, Decides-eqb, Err}
use Rattle.std.proofs.Common.{arith}
use Rattle.lease_laws.proofs.Words.{FileRequest, Finding, GoOn, IsAlone, IsBreak, IsNoBreak, IsSound, List, Ok, Open}
use Rattle.lease_laws.proofs.Words.{Option, Out, Outcome, Patch, Progress, Request, Result, Server, Some, State, Status, Want, ℕ}
use Rattle.lease_laws.proofs.Words.{[], after_first_try, all_wants, ap, append-nil, arrived_on, begun, breaks_to_none}
use Rattle.lease_laws.proofs.Words.{connected_open, false, file_asked, file_request_arrived, finding, has_own_key}
use Rattle.lease_laws.proofs.Words.{holds_any, inl, inr, is_behind, is_other_on, key_of_open}
use Rattle.lease_laws.proofs.Words.{lease_of_open, leaves_nothing, not, nothing_cached, receive, refl, refused}
use Rattle.lease_laws.proofs.Words.{request_held, subst, sym, tried, true, ⊤}
use Rattle.lease_laws.proofs.Words.{Held, as_held}
use Rattle.lease_laws.proofs.Words.{arrived_before}
use Rattle.lease_laws.proofs.server.Keys.{lease_by-key}
use Rattle.lease_laws.proofs.server.EnoughRounds.{AllBreakToNone}
use Rattle.lease_laws.proofs.server.KeyOrder.{wants_where-has}
use Rattle.lease_laws.proofs.server.Lists.{if_cases, either, and_both, all_each}
use Rattle.lease_laws.proofs.server.OutCalls.{tried-breaks, concluded-answers, request_held-outs}
use Rattle.lease_laws.proofs.server.OutLists.{answers_go_on}
use Rattle.lease_laws.proofs.server.OutSteps.{refused-answered}
use Rattle.lease_laws.proofs.server.States.{rights}
use Rattle.lease_laws.proofs.server.Tries.{tried_for-good}
use Rattle.lease_laws.proofs.server.cases.Calls.{passes_by, receives}
use Rattle.lease_laws.proofs.server.cases.Findings.{any_needs}

-- breaks, and then an answer
breaks_then : (middle after : List Out) → GoOn IsBreak [] middle → GoOn IsNoBreak middle after → AreBreaksFirst after
breaks_then middle after b a = grind arith

-- breaks, and no answer
breaks_only : (middle after : List Out) → GoOn IsBreak [] middle → after ≡ middle → AreBreaksFirst after
breaks_only middle after b same = record {
  breaks = b.more;
  answer = [];
  are_both = same ∙ b.are_more ∙ sym (append-nil b.more);
  are_breaks = b.each;
  is_answer = tt;
}

-- no breaks
no_breaks : GoOn IsBreak [] []
no_breaks = record { more = []; are_more = refl; each = tt }

-- what follows a first try gives out breaks first
first_try-breaks : (file : ℕ) (one : Held) (progress : Progress) (outcome : Outcome)
    → GoOn IsBreak [] progress.outs → AreBreaksFirst (after_first_try file one progress outcome).outs
first_try-breaks file one progress Outcome.Waits b =
    breaks_only progress.outs (request_held file one progress).outs b (request_held-outs file one progress)
first_try-breaks file one progress outcome b =
    breaks_then progress.outs _ b (concluded-answers one.client one.request progress outcome)

-- a request on a file gives out breaks first
arrived_before-breaks : (one : Held) (server : Server) (asked : Result ℕ Status)
    → AreBreaksFirst (arrived_before one (begun server) asked).outs
arrived_before-breaks one server (Err status) =
    let refusal = refused one.client one.request status (begun server) in
    breaks_then [] refusal.outs no_breaks
    (answers_go_on [] refusal.outs (refused-answered one.client one.request status (begun server)))
arrived_before-breaks one server (Ok file) =
    let done = tried one.client one.request (begun server) in
    if_cases (λ p. AreBreaksFirst p.outs) (is_behind server.rules one (server.held file))
    (request_held file one (begun server)) (after_first_try file one done.progress done.outcome)
    (λ e. breaks_only [] (request_held file one (begun server)).outs no_breaks (request_held-outs file one (begun server)))
    (λ e. first_try-breaks file one done.progress done.outcome (tried-breaks one.client one.request (begun server)))

arrived_on-breaks : (client : ℕ) (request : FileRequest) (server : Server) (asked : Result ℕ Status)
    → AreBreaksFirst (arrived_on client request (begun server) asked).outs
arrived_on-breaks client request server = arrived_before-breaks (as_held server client request) server

-- a request that comes gives out breaks first
arrived-breaks : (client : ℕ) (request : FileRequest) (server : Server) → IsAlone request
    → AreBreaksFirst (file_request_arrived client request (begun server)).outs
arrived-breaks client (FileRequest.Close file_id) server alone = absurd alone
arrived-breaks client request server alone = arrived_on-breaks client request server (file_asked server client request)

-- a request after which none is tried again gives out breaks, and then its answer
pub receive-breaks : (server : Server) (client : ℕ) (request : FileRequest) → IsAlone request
    → AreBreaksFirst (receive server client (Request.OnFile request)).outs
receive-breaks server client request alone = either (server.present client)
    (λ up. subst (λ p. AreBreaksFirst p.outs) (sym (receives server client request up))
    (arrived-breaks client request server alone))
    (λ down. subst (λ p. AreBreaksFirst p.outs) (sym (passes_by server client (Request.OnFile request) down))
    (breaks_only [] [] no_breaks refl))

-- a state that holds nothing
holds_none : (r w h : Bool) → (r || w || h) ≡ false → rights r w h ≡ nothing_cached
holds_none r w h e = grind arith

-- a state without rights is none
pub state_none : (state : State) → holds_any state ≡ false → state ≡ nothing_cached
state_none state e = holds_none state.read state.write state.handle e

-- a break to nothing
to_none : (broken_to : Option State) → leaves_nothing broken_to ≡ true → broken_to ≡ Some nothing_cached
to_none broken_to e = grind arith

-- where all that a write wants is breaking to nothing, each other key on its file is given up
pub all_wants-given : (server : Server) (one : Open)
    → AllBreakToNone server (all_wants server (key_of_open one) one.file) → CachesAlone server one
all_wants-given server one ready key other a f strange k =
    let test : Open → Bool = λ x. is_other_on (key_of_open one) one.file x && holds_any (lease_of_open server x).state in
    either (holds_any (server.leases key).state)
    (λ held. inr (to_none (server.leases key).broken_to
    (all_each (λ want. breaks_to_none (server.leases want.key)) _ (all_wants server (key_of_open one) one.file) ready
    (wants_where-has server test (λ state. nothing_cached) key other a
    (and_both (is_other_on (key_of_open one) one.file other) (holds_any (lease_of_open server other).state)
    (and_both (other.file == one.file) (not (has_own_key (key_of_open one) other))
    ((Decides-eqb other.file one.file).1 f) (ap not strange))
    (ap (λ l. holds_any l.state) (lease_by-key server key other.client other.lease_key k) ∙ held)) k))))
    (λ none. inl (state_none (server.leases key).state none))

-- a write by this open, whose wants are all breaking to nothing
abbrev AloneWhenReady : Server → ℕ → FileRequest → List Want → Type 0
AloneWhenReady server client (FileRequest.Write file_id number patch) wants = AllBreakToNone server wants
    → (one : Open) → connected_open server client file_id ≡ Some one → CachesAlone server one
AloneWhenReady server client request wants = ⊤

-- a look finds it alone
ready_alone : (server : Server) (client : ℕ) (request : FileRequest) (wants : List Want)
    → finding server client request ≡ Finding.Needs wants → AloneWhenReady server client request wants
ready_alone server client = any_needs server client (AloneWhenReady server client) (record {
  conflicts = λ file access share ask at clash some. tt;
  enters = λ file access share ask at calm. tt;
  awaited = λ file access share ask file_id there again some. tt;
  reads = λ file_id one own may. tt;
  writes = λ file_id number patch one own may fits ready other found.
      subst (CachesAlone server) (one_open one other (sym own.found ∙ found)) (all_wants-given server one ready);
  closes = λ file_id one own. tt;
})
  where
    one_open : (x y : Open) → Some x ≡ Some y → x ≡ y
    one_open x y e = cc

-- a write that is ready
pub write_ready-alone : (client file_id number : ℕ) (patch : Patch) (progress : Progress) (one : Open) → IsSound progress.server
    → (tried client (FileRequest.Write file_id number patch) progress).outcome ≡ Outcome.Ready
    → connected_open (tried client (FileRequest.Write file_id number patch) progress).progress.server client file_id ≡ Some one
    → CachesAlone (tried client (FileRequest.Write file_id number patch) progress).progress.server one
write_ready-alone client file_id number patch progress one s ready =
    let request = FileRequest.Write file_id number patch in
    let end = (tried client request progress).progress in
    let found = (tried_for-good 3 client request progress s).found_ready ready in
    ready_alone end.server client request found.wants found.found found.ready one
