use Rattle.lease_laws.proofs.Words.{◌++◌, ◌∙◌, sym}
use Rattle.leasecheck.proofs.JudgedLines.{all_read, go_on, stop_at}
use Rattle.leasecheck.proofs.judging.Progress.take_lines.Goals as goal

pub returns : goal.returns
returns c = λ lines has.
    let so_far = c.loop-rest.invariant lines has in
    all_read c.loop-rest.progress lines so_far.0 c.loop-rest.rest.now c.args.text.now
    (sym c.is_empty.ensures ∙ c.loop-rest-test.false) so_far.1 so_far.2

pub loop-rest-preserved : goal.loop-rest-preserved
loop-rest-preserved c = λ lines has.
    let so_far = c.loop-rest.invariant lines has in
    go_on c.take_line.new.self c.first_line.result.0.now c.first_line.result.1.now c.loop-rest.rest.now c.args.text.now lines
    so_far.0 (c.in-Ok.ensures (lines ++ so_far.0) so_far.1) c.first_line.ensures.lines so_far.2

pub returns-in-Err : goal.returns-in-Err
returns-in-Err c = λ lines has.
    let so_far = c.loop-rest.invariant lines has in
    stop_at c.refusal.result c.first_line.result.0.now c.first_line.result.1.now c.loop-rest.rest.now c.args.text.now lines
    so_far.0 (c.in-Err.ensures (lines ++ so_far.0) so_far.1 c.refusal.result c.refusal.ensures) c.first_line.ensures.lines so_far.2
