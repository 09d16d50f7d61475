use Rattle.std.proofs.Common.{◌∙◌, ◌∷◌, sym}
use Rattle.capture_texts.proofs.Taken.{text_taken}
use Rattle.capture_texts.proofs.capture.Capture.take_line.Goals as goal

pub returns-clause-taken : goal.returns-clause-taken
returns-clause-taken c = λ past knows. (
  c.in_ok-line.line ∷ past,
  text_taken past c.args.text.now c.in_ok-line.line (sym c.is_passed_over.ensures ∙ c.if-is_passed_over.false)
      c.in_ok-line.ensures (sym (c.differs.ensures past knows) ∙ c.if-differs.false),
  c.in_ok-take.ensures.taken past knows,
)
