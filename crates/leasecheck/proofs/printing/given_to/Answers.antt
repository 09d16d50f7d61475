use Rattle.leasecheck.proofs.Known.{of_any}
use Rattle.leasecheck.specs.Made.{IsGiven}
use Rattle.leasecheck.proofs.printing.given_to.Goals as goal

pub returns-in-Version-clause-given : goal.returns-in-Version-clause-given
returns-in-Version-clause-given g c =
    of_any (g.I.Read.remaining c.args.input.now) (λ file. IsGiven c.args.task.now file c.new.result.items)
    (λ file. rw c.in-Version.is tt)
