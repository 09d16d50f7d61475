use Rattle.lease_versions.proofs.Living.{counts_rises, first_carries_zero, notices_differ, parent_stays, rises_there}
use Rattle.lease_versions.proofs.Living.{answer_carries, begins_above, notice_carries}
use Rattle.lease_versions.proofs.Staying.{opens_stay, reconnects_need_the_guid}
use Rattle.lease_versions.proofs.laws.version_laws.Goals as goal

pub returns-clause-rises : goal.returns-clause-rises
returns-clause-rises c = rises_there

pub returns-clause-counts : goal.returns-clause-counts
returns-clause-counts c = counts_rises

pub returns-clause-differ : goal.returns-clause-differ
returns-clause-differ c = notices_differ

pub returns-clause-stay : goal.returns-clause-stay
returns-clause-stay c = parent_stays

pub returns-clause-first_version : goal.returns-clause-first_version
returns-clause-first_version c = first_carries_zero

pub returns-clause-begins : goal.returns-clause-begins
returns-clause-begins c = begins_above

pub returns-clause-answer : goal.returns-clause-answer
returns-clause-answer c = answer_carries

pub returns-clause-notice : goal.returns-clause-notice
returns-clause-notice c = notice_carries

pub returns-clause-opens : goal.returns-clause-opens
returns-clause-opens c = opens_stay

pub returns-clause-guids : goal.returns-clause-guids
returns-clause-guids c = reconnects_need_the_guid
