use Rattle.lease_coherence.proofs.layers.AllRuns.{names_of_runs, creates_of_runs, opens_of_runs}
use Rattle.lease_coherence.proofs.structure.runs_have_structure.Goals as goal

pub returns-clause-names : goal.returns-clause-names
returns-clause-names c = names_of_runs

pub returns-clause-creates : goal.returns-clause-creates
returns-clause-creates c = creates_of_runs

pub returns-clause-opens : goal.returns-clause-opens
returns-clause-opens c = opens_of_runs
