use Rattle.lease_laws.proofs.Words.{sym}
use Rattle.lease_manager.proofs.tries.Homing.{home_known, home_none}
use Rattle.lease_manager.proofs.tables.summaries.Summaries.home.Goals as goal

pub returns-in-Some : goal.returns-in-Some
returns-in-Some c = λ opens agrees.
    home_known c.args.key opens _ c.in-Some.known.now (sym c.in-Some.ensures.value) (agrees.records c.args.key)

pub returns-in-None : goal.returns-in-None
returns-in-None c = λ opens agrees. home_none c.args.key opens _ (sym c.in-None.ensures.value) (agrees.records c.args.key)
