use Rattle.std.proofs.Common.{◌≤◌, List, ℕ, length, subst, sym}
use Rattle.capture_walk.proofs.Compounds.{first_within}
use Rattle.capture_walk.proofs.compound.read_first.Goals as goal

pub returns-clause-within : goal.returns-clause-within
returns-clause-within c = (
  c.in_ok-first.ensures.header,
  subst (λ (first : List ℕ). length first ≤ length c.args.bytes.now) (sym c.in_ok-first.ensures.message)
      (first_within c.args.bytes.now),
)
