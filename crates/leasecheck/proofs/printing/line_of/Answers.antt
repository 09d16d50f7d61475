use Rattle.lease_laws.proofs.Words.{◌++◌, ◌∙◌, ap}
use Rattle.std.proofs.lemmas.Fmt.{contents_after_writes}
use Rattle.leasecheck.specs.Refusals.{failure_line}
use Rattle.leasecheck.proofs.printing.line_of.Goals as goal

pub returns-in-Ok : goal.returns-in-Ok
returns-in-Ok c = contents_after_writes _ (λ line. line.bytes) (λ w bs v is. is) c.new-line.result (failure_line c.args.failure)
    c.writeln.new.self c.in-Ok.ensures.writes ∙ ap (λ t. t ++ failure_line c.args.failure) c.new-line.ensures
