use Rattle.std.proofs.Common.{List, sym, subst, true}
use Rattle.capture_walk.specs.declared.note.Seen.{Seen}
use Rattle.capture_texts.specs.Captures.{ShowsLine, HasTaken}
use Rattle.capture_texts.specs.Lines.{line_at}
use Rattle.capture_texts.specs.declared.line.Said.{Said}
use Rattle.capture_texts.proofs.Taken.{gap_taken, end_taken}
use Rattle.capture_texts.proofs.capture.Capture.take_said.Goals as goal

pub returns-in_ok-is_read-in-Frame-clause-taken : goal.returns-in_ok-is_read-in-Frame-clause-taken
returns-in_ok-is_read-in-Frame-clause-taken c = λ past seen has.
    let line = c.args.line.now in
    subst (λ (s : Said). (now : List Seen)
    × ShowsLine c.args.self.now.at (line_at line.moment line.connection s) past c.in_ok-is_read-in-Frame.is_read seen now
    × HasTaken (line_at line.moment line.connection s) past now c.args.self.now c.take_frame.new.self)
    (sym c.in-Frame.is) (c.in_ok-is_read-in-Frame.ensures.taken past seen line.moment has)

pub returns-in_ok-take_mark-in-Gap-clause-taken : goal.returns-in_ok-take_mark-in-Gap-clause-taken
returns-in_ok-take_mark-in-Gap-clause-taken c = λ past seen has.
    let line = c.args.line.now in
    subst (λ (s : Said). (now : List Seen)
    × ShowsLine c.args.self.now.at (line_at line.moment line.connection s) past true seen now
    × HasTaken (line_at line.moment line.connection s) past now c.args.self.now c.take_mark.new.self)
    (sym c.in-Gap.is)
    (gap_taken past seen line.moment line.connection c.args.self.now c.take_mark.new.self has
    (c.in_ok-take_mark-in-Gap.ensures.taken past seen has))

pub returns-in_ok-take_mark-in-End-clause-taken : goal.returns-in_ok-take_mark-in-End-clause-taken
returns-in_ok-take_mark-in-End-clause-taken c = λ past seen has.
    let line = c.args.line.now in
    subst (λ (s : Said). (now : List Seen)
    × ShowsLine c.args.self.now.at (line_at line.moment line.connection s) past true seen now
    × HasTaken (line_at line.moment line.connection s) past now c.args.self.now c.take_mark-in-End.new.self)
    (sym c.in-End.is)
    (end_taken past seen line.moment line.connection c.args.self.now c.take_mark-in-End.new.self has
    (c.in_ok-take_mark-in-End.ensures.taken past seen has))
