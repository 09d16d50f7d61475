use Rattle.std.proofs.Common.{refl}
use Rattle.lease_model.proofs.RecordsCompute.{the_records}
use Rattle.lease_model.proofs.worked_verdicts.verdicts.Goals as goal

pub returns-clause-one_flaw : goal.returns-clause-one_flaw
unfolding the_records
returns-clause-one_flaw c = refl

pub returns-clause-strayed : goal.returns-clause-strayed
unfolding the_records
returns-clause-strayed c = refl

pub returns-clause-strange : goal.returns-clause-strange
unfolding the_records
returns-clause-strange c = refl

pub returns-clause-limit : goal.returns-clause-limit
unfolding the_records
returns-clause-limit c = refl

pub returns-clause-large_writes : goal.returns-clause-large_writes
unfolding the_records
returns-clause-large_writes c = refl
