use Rattle.lease_laws.proofs.Words.{◌∙◌, refl, sym}
use Rattle.leasecheck.proofs.Digits.{split_separated, split_joined}
use Rattle.leasecheck.proofs.hexadecimal.split_byte.Goals as goal

pub returns-then-is_separator-clause-digits : goal.returns-then-is_separator-clause-digits
returns-then-is_separator-clause-digits c =
    split_separated c.args.text.now c.split_at.result.0.now c.split_at.result.1.now _ c.requires c.split_at.ensures.front
    c.split_at.ensures.back refl (sym c.is_separator.ensures ∙ c.if-is_separator.true)

pub returns-else-is_separator-clause-digits : goal.returns-else-is_separator-clause-digits
returns-else-is_separator-clause-digits c =
    split_joined c.args.text.now c.split_at.result.0.now c.split_at.result.1.now c.requires c.split_at.ensures.front
    c.split_at.ensures.back (sym c.is_separator.ensures ∙ c.if-is_separator.false)
