-- What a pass over each file keeps, all passes keep.
use Rattle.lease_laws.proofs.Words.{◌+◌, ◌∷◌, List, ℕ, [], length, numbers_to, subst, suc, sym, zero}
use Rattle.lease_laws.proofs.server.Lists.{either}
use Rattle.manager_model.specs.Handling.{Handling, one_pass}
use Rattle.manager_model.specs.Handling as rules
use Rattle.manager_model.proofs.passes.Ways.{passes_on, passes_stop}

counted : (P : Handling → Type 0) → ((file : ℕ) (now : Handling) → P now → P (one_pass file now).now) → (count file : ℕ)
    (now : Handling) → P now → P (rules.passes_for count file now)
unfolding rules.passes_for
counted P keeps zero file now p = p
counted P keeps (suc count) file now p = either (one_pass file now).has_answered
    (λ answered. subst P (sym (passes_on count file now answered))
    (counted P keeps count file (one_pass file now).now (keeps file now p)))
    (λ none. subst P (sym (passes_stop count file now none)) (keeps file now p))

over_all : (P : Handling → Type 0) → ((file : ℕ) (now : Handling) → P now → P (one_pass file now).now) → (files : List ℕ)
    (now : Handling) → P now → P (rules.passes_over files now)
unfolding rules.passes_over
over_all P keeps [] now p = p
over_all P keeps (file ∷ files) now p = over_all P keeps files (rules.passes file now)
    (counted P keeps (length (now.manager.queues file) + 1) file now p)

pub any_passes : (P : Handling → Type 0) → ((file : ℕ) (now : Handling) → P now → P (one_pass file now).now) → (now : Handling)
    → P now → P (rules.all_passes now)
unfolding rules.all_passes
any_passes P keeps now p = over_all P keeps (numbers_to now.manager.server.files) now p
