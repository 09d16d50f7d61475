use Rattle.std.proofs.Common.{◌+◌, sym, ◌∙◌}
use Rattle.lease_texts.proofs.Cut.{nothing_left}
use Rattle.capture_texts.specs.Captures.{with_text}
use Rattle.capture_texts.proofs.whole.read_capture.Goals as goal

pub returns-clause-read : goal.returns-clause-read
returns-clause-read c = record {
  lines = c.loop-rest.invariant.whole.0;
  read = nothing_left with_text (c.loop-rest.number + 1) c.loop-rest.invariant.whole.0 c.loop-rest.rest.now _
      (sym c.is_empty.ensures ∙ c.loop-rest-test.false) c.loop-rest.invariant.whole.1;
  knows = c.loop-rest.invariant.whole.2;
  at_is = c.loop-rest.invariant.at;
}
