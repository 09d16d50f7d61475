use Rattle.lease_laws.proofs.Words.{◌∙◌, ap, arith, map, take_all}
use Rattle.lease_manager.specs.LeftOpens.{numbers}
use Rattle.machines_c.proofs.Lists.{numbers_again}
use Rattle.machines_c.proofs.manager.leaving.file_ids_of.Goals as goal

pub returns : goal.returns
returns c = ap numbers c.loop-number.invariant
    ∙ (ap (λ given. numbers (map (λ n. record { 0 = n }) given))
    (take_all c.loop-number.number-index c.args.given.now (omega (arith, c.loop-number-test.false)))
    ∙ numbers_again c.args.given.now)
