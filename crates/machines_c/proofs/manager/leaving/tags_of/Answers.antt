use Rattle.lease_laws.proofs.Words.{◌∙◌, ap, arith, map, take_all}
use Rattle.lease_manager.specs.Parting.{tag_numbers}
use Rattle.machines_c.proofs.Lists.{tag_numbers_again}
use Rattle.machines_c.proofs.manager.leaving.tags_of.Goals as goal

pub returns : goal.returns
returns c = ap tag_numbers c.loop-number.invariant
    ∙ (ap (λ given. tag_numbers (map (λ n. record { 0 = n }) given))
    (take_all c.loop-number.number-index c.args.given.now (omega (arith, c.loop-number-test.false)))
    ∙ tag_numbers_again c.args.given.now)
