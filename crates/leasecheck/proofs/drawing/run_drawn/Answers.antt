use Rattle.lease_laws.proofs.Words.{List, [], subst}
use Rattle.lease_facts.specs.declared.passage.Passage.{Passage}
use Rattle.leasecheck.specs.Drawing.{IsDrawn}
use Rattle.leasecheck.proofs.drawing.run_drawn.Goals as goal

pub returns-clause-drawn : goal.returns-clause-drawn
returns-clause-drawn c = (
  c.in_ok-played.played.placed,
  c.in_ok-played.played.passages.items,
  subst (λ (passages : List Passage). IsDrawn c.in_ok-played.played.placed [] passages c.in_ok-picture.picture)
      c.as_slice-passages.ensures.value c.in_ok-picture.ensures.drawn,
  c.in_ok-played.ensures.ran,
  c.in_ok-played.ensures.passages,
)
