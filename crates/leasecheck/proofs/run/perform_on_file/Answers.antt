use Rattle.lease_laws.proofs.Words.{[], sym, subst}
use Rattle.leasecheck.proofs.Puts.{begins_of, unopened}
use Rattle.leasecheck.specs.FileFaults.{FailsReading}
use Rattle.leasecheck.proofs.run.perform_on_file.Goals as goal

pub returns-in-Err-clause-ended : goal.returns-in-Err-clause-ended
returns-in-Err-clause-ended g c = λ _. (
  [],
  unopened c.args.asked.now c.in-Some.path.now (g.O.Write.contents c.args.out.now) (g.F.Write.contents c.args.faults.now)
      (g.F.Write.contents c.tell_refusal.new.faults) c.bare-refusal.result c.of_task.result (sym c.in-Some.ensures)
      (subst FailsReading (sym c.bare-refusal.ensures.failure) c.of_reading.ensures.fails)
      c.of_task.ensures
      (begins_of _ _ _ c.tell_refusal.result c.tell_refusal.ensures.told),
)
