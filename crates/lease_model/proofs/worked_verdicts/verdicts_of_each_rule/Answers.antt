use Rattle.std.proofs.Common.{refl}
use Rattle.lease_model.proofs.RecordsCompute.{the_records}
use Rattle.lease_model.proofs.worked_verdicts.verdicts_of_each_rule.Goals as goal

pub returns-clause-beliefs_and_reads : goal.returns-clause-beliefs_and_reads
unfolding the_records
returns-clause-beliefs_and_reads c = refl

pub returns-clause-unfit : goal.returns-clause-unfit
unfolding the_records
returns-clause-unfit c = refl

pub returns-clause-done : goal.returns-clause-done
unfolding the_records
returns-clause-done c = refl

pub returns-clause-of_its_own : goal.returns-clause-of_its_own
unfolding the_records
returns-clause-of_its_own c = refl

pub returns-clause-nothing_wrong : goal.returns-clause-nothing_wrong
unfolding the_records
returns-clause-nothing_wrong c = refl
