-- What guarded small steps give out.
use Rattle.lease_laws.proofs.Words.{◌++◌, ◌==◌, ◌∷◌, ◌≡◌, AreGuarded, Call, EachOut, FileRequest, GoOn}
use Rattle.std.proofs.Common.{arith}
use Rattle.lease_laws.proofs.Words.{IsGuarded, IsNoBreak, IsShort, IsSound, IsToPresent, Key, LeaseOf, List, MayEnd, MayLower}
use Rattle.lease_laws.proofs.Words.{MayServe, Open, Option, Out, Outcome, Progress, Reply, Server, SmallStep, State}
use Rattle.lease_laws.proofs.Words.{Status, TellsBreaks, WaitsWell, ℕ, [], acknowledged}
use Rattle.lease_laws.proofs.Words.{call_begun, called, concluded, has_key, held_left, is_key}
use Rattle.lease_laws.proofs.Words.{is_left_open, opens_dropped, refl, refusal_of}
use Rattle.lease_laws.proofs.Words.{refused, replied, step_taken, steps_taken, subst, sym, true}
use Rattle.lease_laws.proofs.server.Lists.{any_has}
use Rattle.lease_laws.proofs.server.OutCalls.{concluded-answers, request_held-outs, held_left-outs}
use Rattle.lease_laws.proofs.server.OutLists.{each_append, each_weaker, go_on-same, go_on-weaker, answers_go_on}
use Rattle.lease_laws.proofs.server.OutSteps.{opens_dropped-outs, acknowledged-answered}
use Rattle.lease_laws.proofs.server.StepCalls.{called-steps, call_begun-silent, call_begun-up}
use Rattle.lease_laws.proofs.server.StepKeeps.{OpensUp, goes-up, step-sound, step-goes}
use Rattle.lease_laws.proofs.server.cases.Ends.{HasEnds, any_end}
use Rattle.lease_laws.proofs.server.cases.Judgements.{any_judgement}

-- ---- the end of a request gives its client out, and the change that it asks for

abbrev pub IsOfRequest : ℕ → FileRequest → Out → Type 0
IsOfRequest client request (Out.Sent to reply) = to ≡ client
IsOfRequest client request (Out.Opened file by) = by ≡ client
IsOfRequest client request (Out.Changed file by number patch) = (file_id : ℕ) × (request ≡ FileRequest.Write file_id number patch)

-- outs that go on so
abbrev pub GoesOut : ℕ → FileRequest → Progress → Progress → Type 0
GoesOut client request before after = GoOn (IsOfRequest client request) before.outs after.outs

-- one reply
replied-out : (client : ℕ) (request : FileRequest) (reply : Reply) (progress : Progress)
    → GoesOut client request progress (replied client reply progress)
replied-out client request reply progress = grind arith

-- any request
ends_out : (client : ℕ) (progress : Progress) → HasEnds client progress (λ request outcome. GoesOut client request progress)
ends_out client progress = record {
  refused = λ request status. replied-out client request (refusal_of request status) progress;
  left = λ request outcome why. go_on-same (IsOfRequest client request) progress.outs;
  full = λ file access share ask none out. replied-out client _ _ progress;
  granted = λ file access share ask none room. record { more = _; are_more = refl; each = (refl, (refl, tt)) };
  again = λ file access share ask file_id some. record { more = _; are_more = refl; each = (refl, tt) };
  read = λ file_id one own. replied-out client _ _ progress;
  changed = λ file_id number patch one own.
      record { more = _; are_more = refl; each = ((file_id, refl), (refl, tt)) };
  closed = λ file_id one own. let test = λ (other : Open). other.file_id == file_id in subst
      (λ outs. GoOn (IsOfRequest client (FileRequest.Close file_id)) outs
      (replied client (Reply.Closed file_id) (opens_dropped test progress)).outs) (opens_dropped-outs test progress)
      (replied-out client (FileRequest.Close file_id) (Reply.Closed file_id) (opens_dropped test progress));
}

pub concluded-out : (client : ℕ) (request : FileRequest) (progress : Progress) (outcome : Outcome)
    → GoesOut client request progress (concluded client request progress outcome)
concluded-out client request progress = any_end client progress _ (ends_out client progress) request

-- an acknowledgment gives out one reply to its client
abbrev pub IsSentTo : ℕ → Out → Type 0
IsSentTo client (Out.Sent to reply) = to ≡ client
IsSentTo client out = ⊥

sent-out : (client : ℕ) (reply : Reply) (progress : Progress)
    → GoOn (IsSentTo client) progress.outs (replied client reply progress).outs
sent-out client reply progress = grind arith

-- however it is judged
pub acknowledged-out : (client : ℕ) (given : Option LeaseOf) (progress : Progress)
    → GoOn (IsSentTo client) progress.outs (acknowledged client given progress).outs
acknowledged-out client given progress =
    any_judgement client progress (λ given after. GoOn (IsSentTo client) progress.outs after.outs) (record {
      failed = λ given why. sent-out client _ progress;
      ended = λ g lowered there breaks within. record { more = _; are_more = refl; each = (refl, tt) };
    }) given

-- ---- each step's outs find their clients and are short

abbrev pub IsFine : Server → Out → Type 0
IsFine server out = IsToPresent server out × IsShort out

-- what a request gives out
of_request : (server : Server) (client : ℕ) (request : FileRequest) (outcome : Outcome)
    → server.present client ≡ true → (outcome ≡ Outcome.Ready → MayServe server client request)
    → outcome ≡ Outcome.Ready → (out : Out) → IsOfRequest client request out → IsFine server out
of_request server client request outcome up serves ready out e = grind arith

-- a refusal is one reply
refused_fine : (server : Server) (client : ℕ) (request : FileRequest) (status : Status) (progress : Progress)
    → server.present client ≡ true → GoOn (IsFine server) progress.outs (refused client request status progress).outs
refused_fine server client request status progress up = grind arith

-- the end of a request
concluded_fine : (server : Server) (client : ℕ) (request : FileRequest) (progress : Progress) (outcome : Outcome)
    → MayEnd server client request outcome → GoOn (IsFine server) progress.outs (concluded client request progress outcome).outs
concluded_fine server client request progress (Outcome.Refused status) may =
    refused_fine server client request status progress may.0
concluded_fine server client request progress Outcome.Waits may = absurd may
concluded_fine server client request progress Outcome.Ready may = go_on-weaker (IsOfRequest client request)
    (IsFine server) (of_request server client request Outcome.Ready may.0 (λ e. may.1) refl) progress.outs
    (concluded client request progress Outcome.Ready).outs (concluded-out client request progress Outcome.Ready)

-- a Break goes to a client that is there
break_fine : (server : Server) (key : Key) (lowered : State) → OpensUp server → MayLower server key lowered
    → server.present key.client ≡ true
break_fine server key lowered up may =
    let x = any_has (has_key key) server.opens may.is_there in
    own (x.0).client (x.0).lease_key x.2 (up x.0 x.1 (may.are_connected x.0 x.1 x.2))
  where
    own : (client : ℕ) (bytes : Option (List ℕ)) → is_key key client bytes ≡ true
        → server.present client ≡ true → server.present key.client ≡ true
    own client bytes k p = grind arith

-- each step
pub step_fine : (step : SmallStep) (progress : Progress) → OpensUp progress.server → IsGuarded step progress.server
    → GoOn (IsFine progress.server) progress.outs (step_taken step progress).outs
step_fine (SmallStep.Answer client request outcome) progress up may =
    concluded_fine progress.server client request progress outcome may
step_fine (SmallStep.AnswerHeld file before one behind outcome) progress up may = subst
    (λ outs. GoOn (IsFine progress.server) outs
    (concluded one.client one.request (held_left file (before ++ behind) progress) outcome).outs)
    (held_left-outs file (before ++ behind) progress)
    (concluded_fine progress.server one.client one.request (held_left file (before ++ behind) progress) outcome may.1)
step_fine (SmallStep.Acknowledge client given) progress up may = go_on-weaker (IsSentTo client)
    (IsFine progress.server) (sent_fine client may) progress.outs
    (acknowledged client given progress).outs (acknowledged-out client given progress)
  where
    sent_fine : (to : ℕ) → progress.server.present to ≡ true → (out : Out) → IsSentTo to out → IsFine progress.server out
    sent_fine to there out e = grind arith
step_fine (SmallStep.Hold file one) progress up may = subst
    (λ outs. GoOn (IsFine progress.server) progress.outs outs) (sym (request_held-outs file one progress))
    (go_on-same (IsFine progress.server) progress.outs)
step_fine (SmallStep.Drop key) progress up may = subst
    (λ outs. GoOn (IsFine progress.server) progress.outs outs) (sym (opens_dropped-outs (is_left_open key) progress))
    (go_on-same (IsFine progress.server) progress.outs)
step_fine (SmallStep.Lower key lowered) progress up may =
    record { more = _; are_more = refl; each = ((break_fine progress.server key lowered up may.0, tt), tt) }
step_fine (SmallStep.Begin key lowered) progress up may =
    record { more = _; are_more = refl; each = ((break_fine progress.server key lowered up may.0, tt), tt) }

-- ---- all steps, and calls

-- the same clients are there, so the same is to them
same_present : (before after : Server) → ((client : ℕ) → after.present client ≡ before.present client)
    → (out : Out) → IsFine before out → IsFine after out
same_present before after same out f = grind arith

steps_fine : (steps : List SmallStep) (progress : Progress) → IsSound progress.server → OpensUp progress.server
    → AreGuarded steps progress → EachOut (IsFine progress.server) progress.outs
    → EachOut (IsFine (steps_taken steps progress).server) (steps_taken steps progress).outs
steps_fine [] progress s up guarded each = each
steps_fine (step ∷ steps) progress s up guarded each =
    let next = step_taken step progress in
    let go = step-goes step progress s guarded.0 in
    let more = step_fine step progress up guarded.0 in
    steps_fine steps next (step-sound step progress s guarded.0) (goes-up progress.server next.server go up) guarded.1
    (each_weaker (IsFine progress.server) (IsFine next.server) (same_present progress.server next.server go.ups) next.outs
    (subst (EachOut (IsFine progress.server)) (sym more.are_more)
    (each_append (IsFine progress.server) progress.outs more.more each more.each)))

-- any call
called_fine : (server : Server) (call : Call) → IsSound server → WaitsWell server
    → EachOut (IsFine (called server call).server) (called server call).outs
called_fine server call s w =
    let start = call_begun server call in
    let go = called-steps server call s w in
    let first = call_begun-up server call s w in
    subst (λ p. EachOut (IsFine p.server) p.outs) (sym go.lead) (steps_fine go.steps start first.sound first.up go.are_guarded
    (subst (EachOut (IsFine start.server)) (sym (call_begun-silent server call)) tt))

pub replies-find : (server : Server) (call : Call) → IsSound server → WaitsWell server
    → EachOut (IsToPresent (called server call).server) (called server call).outs
replies-find server call s w = each_weaker (IsFine (called server call).server)
    (IsToPresent (called server call).server) (λ out f. f.0) (called server call).outs (called_fine server call s w)

pub changes-short : (server : Server) (call : Call) → IsSound server → WaitsWell server
    → EachOut IsShort (called server call).outs
changes-short server call s w = each_weaker (IsFine (called server call).server) IsShort (λ out f. f.1)
    (called server call).outs (called_fine server call s w)

-- ---- breaks

-- each step tells its own
pub step-tells : (step : SmallStep) (progress : Progress) → TellsBreaks step progress
step-tells (SmallStep.Answer client request outcome) progress = concluded-answers client request progress outcome
step-tells (SmallStep.AnswerHeld file before one behind outcome) progress = subst
    (λ outs. GoOn IsNoBreak outs (concluded one.client one.request (held_left file (before ++ behind) progress) outcome).outs)
    (held_left-outs file (before ++ behind) progress)
    (concluded-answers one.client one.request (held_left file (before ++ behind) progress) outcome)
step-tells (SmallStep.Acknowledge client given) progress = answers_go_on progress.outs
    (acknowledged client given progress).outs (acknowledged-answered client given progress)
step-tells (SmallStep.Hold file one) progress = subst (λ outs. GoOn IsNoBreak progress.outs outs)
    (sym (request_held-outs file one progress)) (go_on-same IsNoBreak progress.outs)
step-tells (SmallStep.Drop key) progress = subst (λ outs. GoOn IsNoBreak progress.outs outs)
    (sym (opens_dropped-outs (is_left_open key) progress)) (go_on-same IsNoBreak progress.outs)
step-tells step progress = refl
