use Rattle.lease_laws.proofs.Words.{◌∙◌, sym}
use Rattle.lease_manager.specs.Summaries.{lease_in}
use Rattle.lease_manager.proofs.sums.Asking.{conflict_known, conflict_none}
use Rattle.lease_manager.proofs.tables.summaries.Summaries.has_conflict_on.Goals as goal

pub returns-in-Some : goal.returns-in-Some
returns-in-Some c = λ server stand. c.conflicts.ensures
    ∙ conflict_known c.args.file.0 c.args.access c.args.share server.opens (lease_in c.args.self.now) _
    c.in-Some.summary.now (sym c.in-Some.ensures.value) (stand.agree.files c.args.file)

pub returns-in-None : goal.returns-in-None
returns-in-None c = λ server stand.
    conflict_none c.args.file.0 c.args.access c.args.share server.opens (lease_in c.args.self.now) _
    (sym c.in-None.ensures.value) (stand.agree.files c.args.file)
