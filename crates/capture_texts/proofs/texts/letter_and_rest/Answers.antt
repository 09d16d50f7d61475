use Rattle.capture_texts.proofs.NamesShown.{unit_last, with_second}
use Rattle.capture_texts.proofs.texts.letter_and_rest.Goals as goal

pub returns-in-len2-up-clause-text : goal.returns-in-len2-up-clause-text
returns-in-len2-up-clause-text c =
    with_second c.args.low c.args.high c.unit-in-len2-up.result c.unit-in-len2-up-2.result c.one_or_pair.result.0 c.args.behind.now
    c.one_or_pair.result.1.now c.in-len2-up.len_at_least c.unit-in-len2-up.ensures.is c.unit-in-len2-up-2.ensures.is
    c.one_or_pair.ensures.paired c.one_or_pair.ensures.alone

pub returns-in_default-clause-text : goal.returns-in_default-clause-text
returns-in_default-clause-text c =
    unit_last c.args.low c.args.high c.unit.result c.args.behind.now c.in_default.len_below c.unit.ensures.is
