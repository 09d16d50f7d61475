use Rattle.std.proofs.Common.{arith, refl, []}
use Rattle.lease_texts.proofs.Cut.{pieces_found, lines_whole}
use Rattle.{std.proofs.lemmas.Bool.Decides.nat_tests, lease_texts.specs.Pieces.pieces}
use Rattle.lease_texts.proofs.lines.first_line.Goals as goal

pub returns-in-Some-clause-lines : goal.returns-in-Some-clause-lines
returns-in-Some-clause-lines c =
    let found = c.in-Some.ensures in
    pieces_found 10 [] c.args.text.now c.in-Some.place _ found.0.high
    (λ i below same. found.0.before i (omega arith) below (grind (arith, nat_tests, same)))
    (grind (arith, nat_tests, found.1)) refl

pub returns-in-None-clause-lines : goal.returns-in-None-clause-lines
unfolding pieces
returns-in-None-clause-lines c =
    let nowhere = c.in-None.ensures in
    lines_whole c.args.text.now c.requires
    (λ i below same. nowhere i (omega arith) below (grind (arith, nat_tests, same)))
