use Rattle.lease_laws.proofs.Words.{rules, sym}
use Rattle.lease_manager.specs.contracts.values.open.OpenEntry.{the_view}
use Rattle.lease_manager.proofs.sums.Summing.{summaries_gain, changed_at, known_sums_up, none_is_open}
use Rattle.lease_manager.proofs.tables.summaries.Summaries.gain_on_file.Goals as goal

pub returns-in_ok-gain-in-Some-clause-files : goal.returns-in_ok-gain-in-Some-clause-files
returns-in_ok-gain-in-Some-clause-files c = λ less more leases later m short are fits.
    let one = the_view c.one.inside in
    summaries_gain one c.args.marks _ _ c.in-Some.summary.now c.gain.new.self less more leases later
    (rw (← c.one.view_is) at m) short (rw (← c.one.view_is) at are)
    (known_sums_up one.file less leases _ c.in-Some.summary.now (sym c.in-Some.ensures.value) (fits c.one.inside.file)).sums_up
    (rw (← c.one.view_is) at c.in_ok-gain-in-Some.ensures)
    (changed_at c.args.self.now.files (c.get_mut.follows.lender c.gain.new.self) one.file _
    ((c.get_mut.follows.holds c.gain.new.self).3 (search rules))) fits

pub returns-in_ok-insert-in-None-clause-files : goal.returns-in_ok-insert-in-None-clause-files
returns-in_ok-insert-in-None-clause-files c = λ less more leases later m short are fits.
    let one = the_view c.one.inside in
    summaries_gain one c.args.marks _ _ c.new-summary.result c.gain-in-None.new.self less more leases later
    (rw (← c.one.view_is) at m) short (rw (← c.one.view_is) at are)
    (c.new-summary.ensures one.file less leases (none_is_open one.file less leases _ (sym c.in-None.ensures.value)
    (fits c.one.inside.file))) (rw (← c.one.view_is) at c.in_ok-gain-in-None.ensures)
    (changed_at c.args.self.now.files c.insert.new.self one.file _
    (rw c.get_mut.follows.holds-at-none at c.in_ok-insert-in-None.ensures.updates)) fits
