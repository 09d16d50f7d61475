use Rattle.lease_laws.proofs.Words.{List, Option, subst, ℕ}
use Rattle.leasecheck.proofs.Known.{of_any}
use Rattle.leasecheck.specs.Arguments.{Gives, GivesBy}
use Rattle.leasecheck.proofs.printing.bytes_given.Goals as goal

pub returns-in-Ok-clause-given : goal.returns-in-Ok-clause-given
returns-in-Ok-clause-given g c =
    of_any (g.I.Read.remaining c.args.input.now) (λ file. Gives c.args.argument.now file c.in-Ok.bytes.items)
    (λ file. subst (λ (path : Option (List ℕ)). GivesBy path c.args.argument.now file c.in-Ok.bytes.items) c.in-None.ensures
    c.in-Ok.ensures.bytes)
