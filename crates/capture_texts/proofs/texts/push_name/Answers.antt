use Rattle.capture_texts.proofs.NamesShown.{nothing_left}
use Rattle.capture_texts.proofs.texts.push_name.Goals as goal

pub returns-in_default-rest : goal.returns-in_default-rest
returns-in_default-rest c = nothing_left _ c.loop-rest.rest.now _ c.in_default-rest.len_below c.loop-rest.invariant
