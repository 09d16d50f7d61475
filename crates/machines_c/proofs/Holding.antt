-- A call of what a handle holds, which is done, or never runs out of memory where it doesn't apply.
use Rattle.lease_laws.proofs.Words.{Err, None, Ok, ap, Option, Result, Some, ⊤, ℕ, ◌∙◌, ◌≡◌, sym, true≢false}
use Rattle.std.specs.Prelude.{IsOk, MatchResult, OnOk}
use Rattle.machines_c.specs.handles.Outcomes.{IsCall, code_of}
use Rattle.machines_c.specs.declared.handles.outcome.Outcome.{Outcome}
use Rattle.machines_c.specs.declared.handles.outcome.Outcome.TheVariants as outcomes
use Rattle.lease_state.specs.declared.memory.Memory.{Memory}

pub is_call : {X : Type 0} (Came : X → X → Type 0) (MayBeLost : X → Type 0) (old new : X) (before after : Option X)
    (came : Result ⊤ Memory) (outcome : Outcome) (result : ℕ) → before ≡ Some old → result ≡ code_of outcome
    → OnOk came (Came old new) → ((IsOk came → ⊥) → MayBeLost old)
    → MatchResult came (λ _. (after ≡ Some new) × (outcome ≡ outcomes.Done)) (λ _. (after ≡ None) × (outcome ≡ outcomes.Lost))
    → IsCall Came MayBeLost result before after
is_call Came MayBeLost old new before after (Ok x) outcome result held code done lost kept =
    rw (held, kept.0) (code ∙ ap code_of kept.1, done)
is_call Came MayBeLost old new before after (Err e) outcome result held code done lost kept =
    rw (held, kept.0) (code ∙ ap code_of kept.1, lost (λ ok. true≢false (sym ok)))
