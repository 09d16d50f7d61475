use Rattle.lease_laws.proofs.Words.{sym}
use Rattle.lease_manager.specs.Summaries.{lease_in}
use Rattle.lease_manager.proofs.sums.Asking.{other_none}
use Rattle.lease_manager.proofs.sums.Summing.{known_sums_up}
use Rattle.lease_manager.proofs.tables.summaries.Summaries.has_other_on.Goals as goal

pub returns-in-Some : goal.returns-in-Some
returns-in-Some c = λ server stand. c.has_other.ensures c.args.file.0 server.opens (lease_in c.args.self.now)
    (known_sums_up c.args.file.0 server.opens (lease_in c.args.self.now) _ c.in-Some.summary.now
    (sym c.in-Some.ensures.value) (stand.agree.files c.args.file)).sums_up

pub returns-in-None : goal.returns-in-None
returns-in-None c = λ server stand.
    other_none c.args.own c.args.file.0 server.opens (lease_in c.args.self.now) _ (sym c.in-None.ensures.value)
    (stand.agree.files c.args.file)
