use Rattle.lease_laws.proofs.Words.{◌∙◌, ◌≡◌, ap, false, list_any, nat_lt, sym, true}
use Rattle.lease_manager.specs.Summaries.{is_keyless_on}
use Rattle.lease_manager.proofs.sums.Demanding.{some_is, none_is, other_keyless, others_are, others_by}
use Rattle.lease_manager.proofs.sums.Tallies.{any_counted}
use Rattle.lease_manager.proofs.tables.file_summary.FileSummary.has_other.Goals as goal

pub returns-then-self-gt0 : goal.returns-then-self-gt0
returns-then-self-gt0 c = λ file opens leases s.
    let some : list_any (is_keyless_on file) opens ≡ true = any_counted (is_keyless_on file) opens
    ∙ (ap (nat_lt 0) (sym s.keyless) ∙ some_is c.args.self.now.keyless c.if-self-gt0.true) in
    some_is c.args.self.now.keyless c.if-self-gt0.true ∙ sym (other_keyless c.args.own file opens some)

pub returns-else-self-gt0 : goal.returns-else-self-gt0
returns-else-self-gt0 c = λ file opens leases s.
    let none : list_any (is_keyless_on file) opens ≡ false = any_counted (is_keyless_on file) opens
    ∙ (ap (nat_lt 0) (sym s.keyless) ∙ none_is c.args.self.now.keyless c.if-self-gt0.false) in
    rw (c.own_count.ensures, c.len.ensures.len) (sym (others_by c.args.own c.args.self.now c.len.ensures.ordered)
    ∙ others_are c.args.own file opens c.args.self.now.keys s.keys none)
