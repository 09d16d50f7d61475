use Rattle.lease_laws.proofs.Words.{◌∙◌, ap, sym}
use Rattle.manager_model.specs.Handling.{passes}
use Rattle.lease_manager.specs.Outs.{handling_of}
use Rattle.lease_manager.proofs.waits.Passing.{another_pass, last_pass}
use Rattle.lease_manager.proofs.requests.passes.try_held.Goals as goal

pub loop-preserved : goal.loop-preserved
loop-preserved c = ap (λ now. passes c.args.file.0 now) (sym c.in_ok-pass.ensures.step)
    ∙ (another_pass c.law_of_passes.ensures.answer c.law_of_passes.ensures.enough c.args.file.0
    (handling_of c.loop.tables c.loop.told) (c.in_ok-pass.ensures.answered ∙ c.if-branch.true) ∙ c.loop.invariant)

pub returns : goal.returns
returns c = sym c.in_ok-pass.ensures.step ∙ (last_pass c.args.file.0 (handling_of c.loop.tables c.loop.told)
    (c.in_ok-pass.ensures.answered ∙ c.if-branch.false) ∙ c.loop.invariant)

pub loop-smaller : goal.loop-smaller
loop-smaller c = rw c.in_ok-pass.ensures.step at (c.law_of_passes.ensures.answer c.args.file.0
    (handling_of c.loop.tables c.loop.told) (c.in_ok-pass.ensures.answered ∙ c.if-branch.true))
