use Rattle.lease_laws.proofs.Words.{◌∙◌, sym}
use Rattle.lease_manager.proofs.sums.Asking.{elsewhere_known, elsewhere_none}
use Rattle.lease_manager.proofs.tables.summaries.Summaries.is_elsewhere.Goals as goal

pub returns-in-Some : goal.returns-in-Some
returns-in-Some c = λ server stand. c.ne.ensures
    ∙ elsewhere_known c.args.key c.args.file.0 server.opens _ c.in-Some.known.now (sym c.in-Some.ensures.value)
    (stand.agree.records c.args.key)

pub returns-in-None : goal.returns-in-None
returns-in-None c = λ server stand. elsewhere_none c.args.key c.args.file.0 server.opens _ (sym c.in-None.ensures.value)
    (stand.agree.records c.args.key)
