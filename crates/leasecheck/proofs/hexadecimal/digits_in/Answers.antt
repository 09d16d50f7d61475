use Rattle.lease_laws.proofs.Words.{◌∙◌, arith}
use Rattle.leasecheck.specs.Arguments.{digits_in}
use Rattle.leasecheck.proofs.Digits.{digits_end}
use Rattle.leasecheck.proofs.hexadecimal.digits_in.Goals as goal

pub returns : goal.returns
returns c = c.in_ok-extend_from_slice-2.ensures.items
    ∙ digits_end c.loop-rest.digits.items c.loop-rest.rest.now (digits_in c.args.text.now)
    (omega (arith, c.loop-rest-test.false)) c.loop-rest.invariant
