use Rattle.lease_laws.proofs.Words.{sym}
use Rattle.lease_manager.specs.Summaries.{lease_in}
use Rattle.lease_manager.proofs.sums.Hindering.{handlers_breaking, none_breaking}
use Rattle.lease_manager.proofs.sums.Summing.{known_sums_up, none_is_open}
use Rattle.lease_manager.proofs.tables.summaries.Summaries.are_handlers_breaking.Goals as goal

pub returns-in-Some : goal.returns-in-Some
returns-in-Some c = λ server stand yes.
    let summed = (known_sums_up c.args.file.0 server.opens (lease_in c.args.self.now) _ c.in-Some.summary.now
    (sym c.in-Some.ensures.value) (stand.agree.files c.args.file)).sums_up in
    handlers_breaking c.args.own c.args.file.0 c.args.self.now server c.in-Some.summary.now stand summed
    (c.are_handlers_breaking.ensures c.args.file.0 server.opens (lease_in c.args.self.now) summed yes)

pub returns-in-None : goal.returns-in-None
returns-in-None c = λ server stand yes. none_breaking c.args.own c.args.file.0 server
    (none_is_open c.args.file.0 server.opens (lease_in c.args.self.now) _ (sym c.in-None.ensures.value)
    (stand.agree.files c.args.file))
