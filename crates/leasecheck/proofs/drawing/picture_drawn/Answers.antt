use Rattle.lease_laws.proofs.Words.{◌∙◌, List, [], inl, refl, subst, ℕ}
use Rattle.leasecheck.specs.Drawing.{IsDrawn}
use Rattle.leasecheck.proofs.drawing.picture_drawn.Goals as goal

pub returns-in_ok-drawn-in-Ok-clause-drawn : goal.returns-in_ok-drawn-in-Ok-clause-drawn
returns-in_ok-drawn-in-Ok-clause-drawn c = (
  c.in-Ok.placed,
  [],
  inl (
    c.in-Ok.ensures.read,
    refl,
    subst (λ (said : List (List ℕ)). IsDrawn c.in-Ok.placed said [] c.in_ok-drawn-in-Ok.drawn)
        (c.as_slice.ensures.value ∙ c.in_ok-said-in-Ok.ensures) c.in_ok-drawn-in-Ok.ensures.drawn,
  ),
)
