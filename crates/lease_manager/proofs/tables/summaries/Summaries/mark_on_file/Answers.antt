use Rattle.lease_laws.proofs.Words.{rules, sym}
use Rattle.lease_manager.proofs.sums.Summing.{summaries_put, changed_at, never_on}
use Rattle.lease_manager.proofs.tables.summaries.Summaries.mark_on_file.Goals as goal

pub returns-in_ok-mark-in-Some-clause-files : goal.returns-in_ok-mark-in-Some-clause-files
returns-in_ok-mark-in-Some-clause-files c = λ opens leases later put there home fits.
    summaries_put c.args.file.0 c.args.key c.args.marks _ _ c.in-Some.summary.now c.mark.new.self opens leases later
    put there home (sym c.in-Some.ensures.value) c.in_ok-mark-in-Some.ensures
    (changed_at c.args.self.now.files (c.get_mut.follows.lender c.mark.new.self) c.args.file.0 _
    ((c.get_mut.follows.holds c.mark.new.self).3 (search rules))) fits

pub returns-in-None-clause-files : goal.returns-in-None-clause-files
returns-in-None-clause-files c = λ opens leases later put there home fits.
    absurd (never_on c.args.file.0 c.args.key opens leases _ there (sym c.in-None.ensures.value) (fits c.args.file))
