-- Guarded small steps keep the laws of servers, and opens go on.
use Rattle.lease_laws.proofs.Words.{◌++◌, ◌∙◌, ◌≡◌, Access, Among, FileRequest, IsGuarded, IsSound, Key, LeaseOf}
use Rattle.lease_laws.proofs.Words.{MayCreate, MayEnd, MayLower, MayServe, None, Open, Option, Outcome, Progress, Server, Share}
use Rattle.lease_laws.proofs.Words.{SmallStep, Some, State, ℕ, arith, break_begun, concluded, held_left}
use Rattle.lease_laws.proofs.Words.{is_left_open, lease_lowered, own_key}
use Rattle.lease_laws.proofs.Words.{step_taken, true}
use Rattle.lease_laws.proofs.server.Answers.{acknowledged-sound, concluded-sound}
use Rattle.lease_laws.proofs.server.Arrivals.{request_held-goes}
use Rattle.lease_laws.proofs.server.FileReady.{FileReady, AgainReady, awaits_own}
use Rattle.lease_laws.proofs.server.Goes.{Goes, GoesOn, goes-twice, dropped-goes, concluded-goes, acknowledged-goes}
use Rattle.lease_laws.proofs.server.Orderly.{held_left-ready}
use Rattle.lease_laws.proofs.server.Passes.{held_left-free}
use Rattle.lease_laws.proofs.server.PassWaits.{held_left-goes}
use Rattle.lease_laws.proofs.server.Progress.{MayBreak, opens_dropped-sound, held_left-sound, request_held-sound}
use Rattle.lease_laws.proofs.server.Progress.{lease_lowered-sound, break_begun-sound}
use Rattle.lease_laws.proofs.server.Breaks.{light_part, light_writeless}
use Rattle.lease_laws.proofs.server.Ready.{CreateFree, RequestFree}

-- ---- what a guard says of a request that may be served

-- a create, with a reconnect or without
create_free : (server : Server) (client file : ℕ) (access : Access) (share : Share) (lease : Option LeaseOf)
    (again : Option ℕ) → MayCreate server client file access share lease again
    → CreateFree server client file access share lease again
create_free server client file access share lease again may = grind arith

-- any request
serve_free : (server : Server) (client : ℕ) (request : FileRequest) → MayServe server client request
    → RequestFree server client request
serve_free server client request may = grind arith

-- a reconnect has its open
again_ready : (server : Server) (client file : ℕ) (access : Access) (share : Share) (lease : Option LeaseOf)
    (again : Option ℕ) → MayCreate server client file access share lease again → AgainReady server client again
again_ready server client file access share lease None may = tt
again_ready server client file access share lease (Some file_id) may =
    let own = awaits_own client file (own_key client lease) file_id may.one may.waits in
    record { one = may.one; is_there = may.is_there; has_id = own.0; is_own = own.1 }

-- any request has its file
serve_file : (server : Server) (client : ℕ) (request : FileRequest) → MayServe server client request
    → FileReady server client request
serve_file server client (FileRequest.Create file access share None) may = absurd may
serve_file server client (FileRequest.Create file access share (Some ask)) may =
    (may.0, again_ready server client file access share ask.lease ask.reconnect may.1)
serve_file server client request may = tt

-- the end of a request, guarded
pub end_up : (server : Server) (client : ℕ) (request : FileRequest) (outcome : Outcome)
    → MayEnd server client request outcome → server.present client ≡ true
end_up server client request outcome may = grind arith

pub end_serves : (server : Server) (client : ℕ) (request : FileRequest) (outcome : Outcome)
    → MayEnd server client request outcome → outcome ≡ Outcome.Ready → MayServe server client request
end_serves server client request outcome may never = grind arith

-- ---- the laws

-- a key that may be broken has its timer
may_break : (server : Server) (key : Key) (lowered : State) → IsSound server → MayLower server key lowered → MayBreak server key
may_break server key lowered s may = grind arith

-- Each step keeps the laws.
pub step-sound : (step : SmallStep) (progress : Progress) → IsSound progress.server
    → IsGuarded step progress.server → IsSound (step_taken step progress).server
step-sound (SmallStep.Answer client request outcome) progress s may = concluded-sound client request progress outcome s
    (λ ready. serve_free progress.server client request (end_serves progress.server client request outcome may ready))
step-sound (SmallStep.AnswerHeld file before one behind outcome) progress s may =
    concluded-sound one.client one.request (held_left file (before ++ behind) progress) outcome
    (held_left-sound file (before ++ behind) progress s)
    (λ ready. held_left-free one.client one.request file (before ++ behind) progress
    (serve_free progress.server one.client one.request (end_serves progress.server one.client one.request outcome may.1 ready)))
step-sound (SmallStep.Acknowledge client given) progress s up = acknowledged-sound client given progress s
step-sound (SmallStep.Hold file one) progress s may = request_held-sound file one progress s
step-sound (SmallStep.Drop key) progress s may = opens_dropped-sound (is_left_open key) progress s
step-sound (SmallStep.Lower key lowered) progress s may = lease_lowered-sound key lowered progress s
    (may_break progress.server key lowered s may.0) (may.0).is_lowered.is_granted_form
    (light_writeless lowered (light_part lowered (progress.server.leases key).state (may.0).is_lowered.is_part may.1))
step-sound (SmallStep.Begin key lowered) progress s may = break_begun-sound key lowered progress s
    (may_break progress.server key lowered s may.0) may.1 (may.0).is_lowered

-- ---- opens go on

-- a lease lowered at once, or a break begun, leaves opens alone
lowered-goes : (key : Key) (lowered : State) (progress : Progress) → Goes progress (lease_lowered key lowered progress)
lowered-goes key lowered progress = grind arith

begun-goes : (key : Key) (lowered : State) (progress : Progress) → Goes progress (break_begun key lowered progress)
begun-goes key lowered progress = grind arith

-- Each step lets opens go on.
pub step-goes : (step : SmallStep) (progress : Progress) → IsSound progress.server
    → IsGuarded step progress.server → Goes progress (step_taken step progress)
step-goes (SmallStep.Answer client request outcome) progress s may =
    concluded-goes client request progress outcome s (end_up progress.server client request outcome may)
    (λ ready. serve_file progress.server client request (end_serves progress.server client request outcome may ready))
step-goes (SmallStep.AnswerHeld file before one behind outcome) progress s may =
    let left = held_left file (before ++ behind) progress in
    let go = held_left-goes file (before ++ behind) progress in
    goes-twice progress.server left.server (concluded one.client one.request left outcome).server go
    (concluded-goes one.client one.request left outcome (held_left-sound file (before ++ behind) progress s)
    (go.ups one.client ∙ end_up progress.server one.client one.request outcome may.1)
    (λ ready. held_left-ready one.client one.request file (before ++ behind) progress
    (serve_file progress.server one.client one.request (end_serves progress.server one.client one.request outcome may.1 ready))))
step-goes (SmallStep.Acknowledge client given) progress s up = acknowledged-goes client given progress
step-goes (SmallStep.Hold file one) progress s may = request_held-goes file one progress
step-goes (SmallStep.Drop key) progress s may = dropped-goes (is_left_open key) progress
step-goes (SmallStep.Lower key lowered) progress s may = lowered-goes key lowered progress
step-goes (SmallStep.Begin key lowered) progress s may = begun-goes key lowered progress

-- the client of each connected open is connected
abbrev pub OpensUp : Server → Type 0
OpensUp server = (one : Open) → Among one server.opens → one.connected ≡ true → server.present one.client ≡ true

-- that goes on
pub goes-up : (before after : Server) → GoesOn before after → OpensUp before → OpensUp after
goes-up before after g up one a c = grind arith
