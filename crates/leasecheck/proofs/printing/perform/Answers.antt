use Rattle.leasecheck.proofs.Puts.{begins_of, ended_of}
use Rattle.leasecheck.proofs.printing.perform.Goals as goal

pub returns-in-Err-clause-ended : goal.returns-in-Err-clause-ended
returns-in-Err-clause-ended g c = λ _.
    ended_of c.args.task.now (g.I.Read.remaining c.args.input.now) (g.O.Write.contents c.args.out.now)
    (g.O.Write.contents c.print_task.new.out) (g.F.Write.contents c.args.faults.now) (g.F.Write.contents c.tell_refusal.new.faults)
    c.in-Err.refusal c.of_task-refusal.result c.in-Err.ensures c.of_task-refusal.ensures
    (begins_of _ _ _ c.tell_refusal.result c.tell_refusal.ensures.told)
