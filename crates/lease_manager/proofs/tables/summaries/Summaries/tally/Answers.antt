use Rattle.lease_laws.proofs.Words.{◌∙◌, ap, true}
use Rattle.lease_manager.specs.Summaries.{tally_in}
use Rattle.lease_manager.proofs.tables.summaries.Summaries.tally.Goals as goal

pub returns-in-None : goal.returns-in-None
returns-in-None c = c.none.ensures (λ one. true) ∙ ap tally_in c.in-None.ensures.value
