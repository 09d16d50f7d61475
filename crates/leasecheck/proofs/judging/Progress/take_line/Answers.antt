use Rattle.lease_laws.proofs.Words.{inl, inr, refl}
use Rattle.leasecheck.proofs.JudgedLines.{read_line, refuse_line, run_out}
use Rattle.leasecheck.proofs.judging.Progress.take_line.Goals as goal

pub returns-then-self : goal.returns-then-self
returns-then-self c = λ lines has told is. inr (inl (is, (run_out c.args.self.now c.args.line.now lines has c.if-self.true).1))

pub returns-in-Ok : goal.returns-in-Ok
returns-in-Ok c = λ lines has. read_line c.args.self.now _ c.args.line.now lines has refl (c.in-Ok.ensures has.facts has.judged)

pub returns-in-Err-Refused : goal.returns-in-Err-Refused
returns-in-Err-Refused c = λ lines has told is. refuse_line c.args.self.now c.args.line.now lines told has
    (inr (c.in-Err-Refused.ensures has.facts has.judged c.in-Err-Refused.field-0-is, is))
