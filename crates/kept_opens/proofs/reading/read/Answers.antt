use Rattle.std.proofs.Common.{ℕ, List, arith, rules, subst, ◌∙◌, sym}
use Rattle.kept_opens.specs.Kept.{HoldsEntries, HoldsNoEntries, IsKept}
use Rattle.kept_opens.proofs.KeptLemmas.{not_sealed, no_entries, sealed_holds, sealed_kept}
use Rattle.kept_opens.proofs.reading.read.Goals as goal

pub returns-then-not-is_sealed-clause-damaged : goal.returns-then-not-is_sealed-clause-damaged
returns-then-not-is_sealed-clause-damaged c is =
    not_sealed c.args.bytes.now (search rules)
    (λ sealed. let passes = c.is_sealed.ensures.1 sealed in grind (arith, passes))

pub returns-then-not-are_entries-clause-damaged : goal.returns-then-not-are_entries-clause-damaged
returns-then-not-are_entries-clause-damaged c is =
    no_entries c.args.bytes.now (subst (λ (xs : List ℕ). HoldsNoEntries xs) c.entries_in-entries.ensures
    (c.if-not-are_entries.ensures.none (search rules)))

pub returns-in_err-opens-clause-memory : goal.returns-in_err-opens-clause-memory
returns-in_err-opens-clause-memory c is =
    sealed_holds c.args.bytes.now (c.is_sealed.ensures.0 (search rules)) (search rules)
    (subst (λ (xs : List ℕ). HoldsEntries xs) c.entries_in-entries.ensures (c.are_entries.ensures.some (search rules)))

pub returns-clause-read : goal.returns-clause-read
returns-clause-read c =
    subst (λ (last : ℕ). IsKept c.args.bytes.now last c.in_ok-opens.opens.items) (sym c.number_at.ensures)
    (sealed_kept c.args.bytes.now (c.is_sealed.ensures.0 (search rules)) (search rules) c.in_ok-opens.opens.items
    c.in_ok-opens.ensures.borne c.in_ok-opens.ensures.named (c.in_ok-opens.ensures.laid ∙ c.entries_in-entries.ensures))
