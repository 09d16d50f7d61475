use Rattle.std.proofs.Common.{arith}
use Rattle.capture_judge.proofs.verdicts.Heights.{come-next, come-beyond}
use Rattle.capture_judge.proofs.levels.note_step.Goals as goal

pub returns-then-step-len : goal.returns-then-step-len
returns-then-step-len c = λ chains past come. come-next chains past c.args.step c.args.came.now.items come

pub returns-else-step-len : goal.returns-else-step-len
returns-else-step-len c = λ chains past come.
    let beyond = c.if-step-len.false in let len = c.len.ensures in let count = come.count
    in let size = c.args.came.now.ok.0
    in come-beyond chains past c.args.step c.args.came.now.items (omega (arith, beyond, len, count, size)) come
