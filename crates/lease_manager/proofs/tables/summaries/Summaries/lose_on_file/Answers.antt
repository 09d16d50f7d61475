use Rattle.lease_laws.proofs.Words.{◌∙◌, rules, sym}
use Rattle.lease_manager.specs.contracts.values.open.OpenEntry.{the_view}
use Rattle.lease_manager.proofs.sums.Summing.{summaries_lose, summaries_end, changed_at, changed_at_twice, never_closed}
use Rattle.lease_manager.proofs.tables.summaries.Summaries.lose_on_file.Goals as goal

pub returns-then-is_empty-clause-files : goal.returns-then-is_empty-clause-files
returns-then-is_empty-clause-files c = λ less more leases later m left last fits.
    let one = the_view c.one.inside in
    summaries_end one c.args.last _ _ c.in-Some.summary.now c.lose.new.self less more leases later
    (rw (← c.one.view_is) at m) left (rw (← c.one.view_is) at last) (sym c.in-Some.ensures.value)
    (rw (← c.one.view_is) at c.lose.ensures) (changed_at_twice one.file _ _ _ _ _
    (changed_at c.args.self.now.files (c.get_mut.follows.lender c.lose.new.self) one.file _
    ((c.get_mut.follows.holds c.lose.new.self).3 (search rules)))
    (changed_at (c.get_mut.follows.lender c.lose.new.self) c.remove.new.self one.file _ c.remove.ensures.updates))
    (sym c.is_empty.ensures ∙ c.if-is_empty.true) fits

pub returns-else-is_empty-clause-files : goal.returns-else-is_empty-clause-files
returns-else-is_empty-clause-files c = λ less more leases later m left last fits.
    let one = the_view c.one.inside in
    summaries_lose one c.args.last _ _ c.in-Some.summary.now c.lose.new.self less more leases later
    (rw (← c.one.view_is) at m) left (rw (← c.one.view_is) at last) (sym c.in-Some.ensures.value)
    (rw (← c.one.view_is) at c.lose.ensures)
    (changed_at c.args.self.now.files (c.get_mut.follows.lender c.lose.new.self) one.file _
    ((c.get_mut.follows.holds c.lose.new.self).3 (search rules))) (sym c.is_empty.ensures ∙ c.if-is_empty.false) fits

pub returns-in-None-clause-files : goal.returns-in-None-clause-files
returns-in-None-clause-files c = λ less more leases later m left last fits.
    let one = the_view c.one.inside in
    absurd (never_closed one less more leases _ (rw (← c.one.view_is) at m) (sym c.in-None.ensures.value)
    (fits c.one.inside.file))
