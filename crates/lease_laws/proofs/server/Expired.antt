-- Small steps leave alone which keys are expired.
use Rattle.lease_laws.proofs.Words.{◌++◌, ◌==◌, ◌∙◌, ◌∷◌, ◌≡◌, ◌⊎◌, Bool, Call, FileRequest, IsSound, Key, LeaseOf, List}
use Rattle.std.proofs.Common.{arith}
use Rattle.lease_laws.proofs.Words.{Option, Outcome, Progress, Server, SmallStep, WaitsWell, ℕ, [], acknowledged}
use Rattle.lease_laws.proofs.Words.{begun, call_begun, called, concluded}
use Rattle.lease_laws.proofs.Words.{false, held_left, if◌then◌else◌}
use Rattle.lease_laws.proofs.Words.{put_key, refl, step_taken, steps_taken, subst, sym}
use Rattle.lease_laws.proofs.Words.{ap, true}
use Rattle.lease_laws.proofs.server.StepCalls.{called-steps}
use Rattle.lease_laws.proofs.server.cases.Calls.{joins}
use Rattle.lease_laws.proofs.server.cases.Ends.{HasEnds, any_end}
use Rattle.lease_laws.proofs.server.cases.Judgements.{any_judgement}

-- the same keys are expired
abbrev SameExpired : Progress → Progress → Type 0
SameExpired before after = after.server.expired ≡ before.server.expired

ends_expired : (client : ℕ) (progress : Progress) → HasEnds client progress (λ request outcome. SameExpired progress)
ends_expired client progress = grind arith

concluded_expired : (client : ℕ) (request : FileRequest) (progress : Progress) (outcome : Outcome)
    → SameExpired progress (concluded client request progress outcome)
concluded_expired client request progress = any_end client progress _ (ends_expired client progress) request

acknowledged_expired : (client : ℕ) (given : Option LeaseOf) (progress : Progress)
    → SameExpired progress (acknowledged client given progress)
acknowledged_expired client given progress = any_judgement client progress (λ given. SameExpired progress)
    (record { failed = λ given why. refl; ended = λ g lowered there breaks within. refl }) given

step_expired : (step : SmallStep) (progress : Progress) → SameExpired progress (step_taken step progress)
step_expired (SmallStep.Answer client request outcome) progress = concluded_expired client request progress outcome
step_expired (SmallStep.AnswerHeld file before one behind outcome) progress =
    concluded_expired one.client one.request (held_left file (before ++ behind) progress) outcome
step_expired (SmallStep.Acknowledge client given) progress = acknowledged_expired client given progress
step_expired step progress = refl

steps_expired : (steps : List SmallStep) (progress : Progress) → SameExpired progress (steps_taken steps progress)
steps_expired [] progress = refl
steps_expired (step ∷ steps) progress = steps_expired steps (step_taken step progress) ∙ step_expired step progress

-- so a call changes that before its first step alone
pub called-expired : (server : Server) (call : Call) → IsSound server → WaitsWell server
    → (called server call).server.expired ≡ (call_begun server call).server.expired
called-expired server call s w =
    let go = called-steps server call s w in
    subst (λ p. p.server.expired ≡ (call_begun server call).server.expired) (sym go.lead)
    (steps_expired go.steps (call_begun server call))

-- ---- and there only joins and expiries do

either_expired : (b : Bool) (x y : Progress) (was : Key → Bool) → x.server.expired ≡ was → y.server.expired ≡ was
    → (if b then x else y).server.expired ≡ was
either_expired b x y was e f = grind arith

pub cut-expired : (server : Server) (client : ℕ) → (call_begun server (Call.Cut client)).server.expired ≡ server.expired
cut-expired server client = either_expired (server.present client) _ (begun server) server.expired refl refl

pub scavenge-expired : (server : Server) (file_id : ℕ)
    → (call_begun server (Call.Scavenge file_id)).server.expired ≡ server.expired
scavenge-expired server file_id = grind arith

pub join-expired : (server : Server) (client : ℕ) → server.present client ≡ false → (key : Key)
    → (call_begun server (Call.Join client)).server.expired key ≡ (if key.client == client then false else server.expired key)
join-expired server client e key = ap (λ p. p.server.expired key) (joins server client e)

pub expire-expired : (server : Server) (key : Key) (other : Key)
    → (call_begun server (Call.Expire key)).server.expired other ≡ true
    → (server.expired other ≡ true) ⊎ (put_key server.expired key true other ≡ true)
expire-expired server key other = grind arith
