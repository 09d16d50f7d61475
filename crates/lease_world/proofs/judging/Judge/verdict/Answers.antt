use Rattle.lease_laws.proofs.Words.{rules}
use Rattle.lease_world.proofs.records.Telling.{safe_told, bad_told}
use Rattle.lease_world.proofs.judging.Judge.verdict.Goals as goal

pub returns-clause-safe : goal.returns-clause-safe
returns-clause-safe c = λ facts judged. let told = judged.verdict in safe_told facts _ (search rules)

pub returns-clause-first_bad : goal.returns-clause-first_bad
returns-clause-first_bad c = λ facts judged. let told = judged.verdict in bad_told facts _ (search rules)
