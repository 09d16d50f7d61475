-- Which clients a call leaves connected.
use Rattle.lease_laws.proofs.Words.{◌∙◌, ◌∷◌, ◌≡◌, AreGuarded, Call, IsSound, List, Progress, Server, SmallStep, WaitsWell}
use Rattle.std.proofs.Common.{arith}
use Rattle.lease_laws.proofs.Words.{ℕ, ⊤, [], call_begun, called, false}
use Rattle.lease_laws.proofs.Words.{put}
use Rattle.lease_laws.proofs.Words.{ap, refl, step_taken, steps_taken, subst, sym, true}
use Rattle.lease_laws.proofs.server.StepCalls.{called-steps, call_begun-up}
use Rattle.lease_laws.proofs.server.StepKeeps.{step-sound, step-goes}
use Rattle.lease_laws.proofs.server.cases.Calls.{joins}

steps_present : (steps : List SmallStep) (progress : Progress) → IsSound progress.server → AreGuarded steps progress
    → (c : ℕ) → (steps_taken steps progress).server.present c ≡ progress.server.present c
steps_present [] progress s guarded c = refl
steps_present (step ∷ steps) progress s guarded c =
    steps_present steps (step_taken step progress) (step-sound step progress s guarded.0) guarded.1 c
    ∙ (step-goes step progress s guarded.0).ups c

-- only what comes before the first step changes that
pub called_present : (server : Server) (call : Call) → IsSound server → WaitsWell server → (c : ℕ)
    → (called server call).server.present c ≡ (call_begun server call).server.present c
called_present server call s w c =
    let go = called-steps server call s w in
    subst (λ p. p.server.present c ≡ (call_begun server call).server.present c) (sym go.lead)
    (steps_present go.steps (call_begun server call) (call_begun-up server call s w).sound go.are_guarded c)

-- a call that is no join and no cut
abbrev pub IsAmong : Call → Type 0
IsAmong (Call.Join client) = ⊥
IsAmong (Call.Cut client) = ⊥
IsAmong call = ⊤

pub begun_present : (server : Server) (call : Call) → IsAmong call → (c : ℕ)
    → (call_begun server call).server.present c ≡ server.present c
begun_present server call among c = grind arith

pub join_present : (server : Server) (client : ℕ) → server.present client ≡ false → (c : ℕ)
    → (call_begun server (Call.Join client)).server.present c ≡ put server.present client true c
join_present server client e c = ap (λ p. p.server.present c) (joins server client e)

pub cut_present : (server : Server) (client : ℕ) → server.present client ≡ true → (c : ℕ)
    → (call_begun server (Call.Cut client)).server.present c ≡ put server.present client false c
cut_present server client e c = rw (e) refl
