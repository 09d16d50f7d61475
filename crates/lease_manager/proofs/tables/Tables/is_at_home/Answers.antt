use Rattle.lease_laws.proofs.Words.{◌∙◌, ap, not, sym}
use Rattle.lease_manager.specs.Table.{server_of}
use Rattle.lease_manager.specs.contracts.tables.Tables.{the_view}
use Rattle.lease_manager.proofs.waits.Counted.{home_by, not_at_home}
use Rattle.lease_manager.proofs.tables.Tables.is_at_home.Goals as goal

pub returns : goal.returns
returns c = rw (← c.self.view_is) ((rw (← c.self.view_is) at (ap not c.is_leased_elsewhere.ensures))
    ∙ home_by (server_of (the_view c.self.inside)) c.args.file.0 c.args.key c.self.inside.summaries
    c.self.invariant.0.agree (rw (← c.self.view_is) at (sym c.has_lease.ensures ∙ c.if-not-has_lease.false)))

pub returns-then-not-has_lease : goal.returns-then-not-has_lease
returns-then-not-has_lease c =
    not_at_home c.args.file.0 c.args.key c.args.self.now.opens (sym c.has_lease.ensures ∙ c.if-not-has_lease.true)
