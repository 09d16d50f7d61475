use Rattle.lease_laws.proofs.Words.{inr}
use Rattle.lease_texts.specs.Drafts.{draft_of}
use Rattle.leasecheck.proofs.drawing.draw_schedule.Goals as goal

pub returns-in_ok-drawn-in-Ok-clause-drawn : goal.returns-in_ok-drawn-in-Ok-clause-drawn
returns-in_ok-drawn-in-Ok-clause-drawn c =
    let run = c.in_ok-drawn-in-Ok.ensures.drawn in
    (run.0, run.1, inr (draft_of c.in-Ok.schedule, c.in-Ok.ensures, run.3, run.4, run.2))
