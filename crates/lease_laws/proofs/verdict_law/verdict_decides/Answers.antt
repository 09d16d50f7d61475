use Rattle.lease_laws.proofs.records.VerdictLemmas.{verdict-safe, safe-verdict, verdict-says}
use Rattle.lease_laws.proofs.verdict_law.verdict_decides.Goals as goal

pub returns-clause-decides : goal.returns-clause-decides
returns-clause-decides c = λ facts. (verdict-safe facts, safe-verdict facts)

pub returns-clause-tells : goal.returns-clause-tells
returns-clause-tells c = λ facts. verdict-says facts
