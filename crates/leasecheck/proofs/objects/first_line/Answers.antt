use Rattle.std.proofs.Common.{Some, None}
use Rattle.lease_texts.specs.Pieces.{pieces}
use Rattle.leasecheck.proofs.Members.{line_split}
use Rattle.leasecheck.proofs.objects.first_line.Goals as goal

pub returns-in-Some-clause-lines : goal.returns-in-Some-clause-lines
returns-in-Some-clause-lines c =
    (line_split c.args.text.now (Some (c.in-Some.line, c.in-Some.behind)) c.requires c.in-Some.ensures.cases).0

pub returns-in-None-clause-lines : goal.returns-in-None-clause-lines
unfolding pieces
returns-in-None-clause-lines c = line_split c.args.text.now None c.requires c.in-None.ensures.cases
