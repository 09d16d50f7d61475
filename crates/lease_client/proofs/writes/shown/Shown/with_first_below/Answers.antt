use Rattle.lease_laws.proofs.Words.{◌-◌, arith}
use Rattle.lease_client.proofs.Shows.{below_first}
use Rattle.lease_client.proofs.writes.shown.Shown.with_first_below.Goals as goal

pub returns-in-Ok : goal.returns-in-Ok
returns-in-Ok c = λ writes shown. below_first c.args.self.base c.args.self.bytes c.in-Ok.base c.args.self.count
    (c.args.self.count - 1) c.args.first.now writes (omega (arith, c.if-count-lt2.false)) (rw (← c.first.view_is) c.in-Ok.ensures) shown
