-- The passes over a file end by themselves: each that answers a request leaves fewer held.
use Rattle.lease_laws.proofs.Words.{◌+◌, ◌<◌, ◌≡◌, PassesAreEnough, PassesEnd, Progress, ℕ, arith, false, length, one_pass}
use Rattle.lease_laws.proofs.Words.{passes_for, suc, sym, zero, ◌∙◌}
use Rattle.lease_laws.proofs.server.Held.{one_pass-fewer}
use Rattle.lease_laws.proofs.server.Lists.{either}
use Rattle.lease_laws.proofs.server.cases.Passes.{passes_on, passes_stop}

-- with more passes than are held, however many, the same is done
more_passes : (file count other : ℕ) (progress : Progress) → length (progress.server.held file) < count
    → length (progress.server.held file) < other → passes_for count file progress ≡ passes_for other file progress
more_passes file zero other progress lt less = let never : ⊥ = omega arith in absurd never
more_passes file (suc count) zero progress lt less = let never : ⊥ = omega arith in absurd never
more_passes file (suc count) (suc other) progress lt less = either (one_pass file progress).has_answered
    (λ a. let fewer = one_pass-fewer file progress a in
    passes_on count file progress a
    ∙ more_passes file count other (one_pass file progress).progress (omega arith) (omega arith)
    ∙ sym (passes_on other file progress a))
    (λ n. passes_stop count file progress n ∙ sym (passes_stop other file progress n))

-- where more passes are allowed than requests are held, the last one answered nothing
last_pass : (file count : ℕ) (progress : Progress) → length (progress.server.held file) < count
    → (before : Progress) × ((one_pass file before).has_answered ≡ false)
    × (passes_for count file progress ≡ (one_pass file before).progress)
last_pass file zero progress lt = let never : ⊥ = omega arith in absurd never
last_pass file (suc count) progress lt = either (one_pass file progress).has_answered
    (λ a. let fewer = one_pass-fewer file progress a in
    let rest = last_pass file count (one_pass file progress).progress (omega arith) in
    (rest.0, rest.1, passes_on count file progress a ∙ rest.2))
    (λ n. (progress, n, passes_stop count file progress n))

-- one more than are held is such a number
pub passes_end : PassesEnd
passes_end file progress = last_pass file (length (progress.server.held file) + 1) progress (omega arith)

-- and all larger ones do the same
pub passes_are_enough : PassesAreEnough
passes_are_enough count file progress lt =
    more_passes file count (length (progress.server.held file) + 1) progress lt (omega arith)
