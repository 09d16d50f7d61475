use Rattle.std.proofs.Common.{subst, refl}
use Rattle.std.proofs.lemmas.Option.{slice_get_read}
use Rattle.capture_judge.proofs.placings.Places.{each-more, each-all}
use Rattle.capture_judge.specs.Searching.{IsFeasible, IsInfeasible}
use Rattle.capture_judge.specs.declared.values.Chain.{Chain}
use Rattle.capture_judge.proofs.bounds.are_feasible.Goals as goal

pub returns-then-not-is_feasible : goal.returns-then-not-is_feasible
returns-then-not-is_feasible c = (
  c.loop-chain.chain-index,
  c.chain-item.result,
  slice_get_read _ _ _ _ refl c.loop-chain-test.true c.chain-item.is,
  subst IsInfeasible c.as_slice.ensures.value c.if-not-is_feasible.ensures,
)

pub loop-chain-preserved : goal.loop-chain-preserved
loop-chain-preserved c = each-more (λ (chain : Chain). IsFeasible chain.changes.items) c.args.chains.now c.loop-chain.chain-index
    c.chain-item.result (slice_get_read _ _ _ _ refl c.loop-chain-test.true c.chain-item.is) c.loop-chain.invariant
    (subst IsFeasible c.as_slice.ensures.value c.if-not-is_feasible.ensures)

pub returns : goal.returns
returns c = each-all (λ (chain : Chain). IsFeasible chain.changes.items) c.args.chains.now c.loop-chain.chain-index
    c.loop-chain-test.false c.loop-chain.invariant
