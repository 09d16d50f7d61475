use Rattle.lease_texts.specs.Pieces.{lines_of}
use Rattle.leasecheck.proofs.Rounds.{judged_whole, refused_whole}
use Rattle.leasecheck.proofs.judging.Progress.end.Goals as goal

pub returns-in-Ok : goal.returns-in-Ok
returns-in-Ok c = λ text has.
    judged_whole c.in-Ok.whole _ text c.args.begun.now has.whole (c.in-Ok.ensures (lines_of text) has.read)
    c.verdict.ensures.computed

pub returns-in-Err : goal.returns-in-Err
returns-in-Err c = λ text has. refused_whole c.in-Err.refusal text c.args.begun.now has.whole
    (c.in-Err.ensures (lines_of text) has.read)
