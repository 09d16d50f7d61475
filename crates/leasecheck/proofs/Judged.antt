-- What a record is refused as.
use Rattle.lease_laws.proofs.Words.{◌∙◌, ◌≡◌, Err, List, Option, Some, ℕ, ap, inl, inr, sym}
use Rattle.leasecheck.proofs.Known.{of_any}
use Rattle.leasecheck.specs.FileFaults.{reading_failure}
use Rattle.leasecheck.specs.Judging.{IsUnread, Judges, JudgesText, bare}
use Rattle.leasecheck.specs.Refusals.{MayEndJudging, line_refusal}
use Rattle.leasecheck.specs.declared.failure.Failure.{Failure}
use Rattle.leasecheck.specs.declared.failure.Failure.TheVariants as failure
use Rattle.leasecheck.specs.declared.refusal.Refusal.{Refusal}

is_failure : (told : Refusal) (failure : Failure) → told ≡ bare failure → told.failure ≡ failure
is_failure told failure is = ap (λ t. t.failure) is

pub judged_refusal : (text : List ℕ) (told : Refusal) → JudgesText text (Err told) → MayEndJudging text told.failure
judged_refusal text told (inl memory) = inl (inl (is_failure told failure.Memory memory))
judged_refusal text told (inr (inl (why, unread))) = inl (inr (inl (why, is_failure told (reading_failure why) unread)))
judged_refusal text told (inr (inr (inl (lines, many)))) = inr (is_failure told failure.Lines lines, many)
judged_refusal text told (inr (inr (inr (number, read, is)))) =
    inl (inr (inr (ap line_refusal read ∙ ap (λ f. Some f) (sym is))))

-- a read that fails ends a judging
pub unread_ends : (known : Option (List ℕ)) (told : Refusal) → IsUnread told → Judges known (Err told)
unread_ends known told unread = of_any known (λ text. JudgesText text (Err told)) (λ text. inr (inl unread))
